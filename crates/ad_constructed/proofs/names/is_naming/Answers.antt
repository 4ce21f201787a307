use Rattle.std.proofs.Common.{ℕ, ap}
use Rattle.std.specs.Prelude.{nat_eq}
use Rattle.ad_schema.proofs.LookupLemmas.{class_naming}
use Rattle.ad_constructed.proofs.names.is_naming.Goals as goal

pub returns : goal.returns
returns c = ap (λ (n : ℕ). nat_eq n c.args.attr.0)
    (class_naming c.args.schema.now c.args.class.0 c.class_info.result.now c.class_info.ensures.info)
