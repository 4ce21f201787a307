use Rattle.std.proofs.Common.{◌≡◌, map}
use Rattle.std.specs.Char.{to_ascii_lowercase}
use Rattle.std.proofs.lemmas.Result.{IfOk-weaker}
use Rattle.ad_dn.specs.Fold.{folded}
use Rattle.ad_dn.proofs.AsciiFolds.{ascii_folds}
use Rattle.ad_dn.proofs.folding.fold.Goals as goal

pub returns-then-is_ascii : goal.returns-then-is_ascii
returns-then-is_ascii c =
    let value = c.args.value.now in
    IfOk-weaker c.to_ascii_lowercase.result (λ v. v.items ≡ map to_ascii_lowercase value)
    (λ v. v.items ≡ folded value) (λ v is. ascii_folds value v.items c.if-is_ascii.ensures.cases is)
    c.to_ascii_lowercase.ensures.ok
