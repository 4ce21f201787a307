use Rattle.std.proofs.Common.{◌∙◌, map, ap}
use Rattle.std.specs.Char.{to_ascii_lowercase}
use Rattle.ad_dn.proofs.AsciiFolds.{ascii_folds}
use Rattle.ad_dn.proofs.folding.fold_bytes.Goals as goal

pub returns-then-is_ascii : goal.returns-then-is_ascii
returns-then-is_ascii c =
    ascii_folds c.args.value.now c.make_ascii_lowercase.new.self c.if-is_ascii.ensures.cases
    (c.make_ascii_lowercase.ensures ∙ ap (map to_ascii_lowercase) c.in_ok-bytes.ensures)
