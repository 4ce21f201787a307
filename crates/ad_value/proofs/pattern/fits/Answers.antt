use Rattle.std.proofs.Common.{ap, ◌∙◌}
use Rattle.ad_value.specs.Pieces.{fits_key}
use Rattle.ad_value.proofs.PiecesTests.{text_decided, key_of_bytes}
use Rattle.ad_value.proofs.pattern.fits.Goals as goal

pub returns-in-Some-clause-decided : goal.returns-in-Some-clause-decided
returns-in-Some-clause-decided c =
    text_decided c.fits_text.result c.args.parts.now c.in-Some.text.now c.fits_text.ensures
    ∙ ap (fits_key c.args.parts.now) (key_of_bytes c.args.value.now.key c.in-Some.text.now c.in-Some.ensures)
