use Rattle.ad_value.proofs.PiecesLaws.{fits_between, fits_not_last}
use Rattle.ad_value.proofs.pattern.fits_text.Goals as goal

pub returns-in-None-before_final : goal.returns-in-None-before_final
returns-in-None-before_final c = (
  λ no. absurd cc,
  λ f. absurd (fits_not_last c.args.parts.now c.args.text.now c.in-Some.after.now c.in-Some.ensures
      c.in-None-before_final.ensures f),
)

pub returns-in-Some-before_final : goal.returns-in-Some-before_final
returns-in-Some-before_final c =
    let between = fits_between c.args.parts.now c.args.text.now c.in-Some.after.now c.in-Some-before_final.middle.now
    c.in-Some.ensures c.in-Some-before_final.ensures in
    let stands = rw c.as_slice.ensures at c.stand.ensures in
    (λ yes. between.1 (stands.0 yes), λ f. stands.1 (between.0 f))
