use Rattle.std.proofs.Common.{ℕ, ap}
use Rattle.std.specs.Prelude.{nat_eq}
use Rattle.ad_needs.proofs.item_checks.is_naming.Goals as goal

pub returns : goal.returns
returns c = ap (λ (n : ℕ). nat_eq n c.args.attr.0) c.naming_of.ensures.naming
