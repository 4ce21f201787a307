use Rattle.std.proofs.Common.{ℕ, ap}
use Rattle.std.specs.Prelude.{◌==◌}
use Rattle.ad_schema.proofs.LookupLemmas.{class_naming}
use Rattle.ad_load_objects.proofs.values.is_naming.Goals as goal

pub returns : goal.returns
returns c = ap (λ (n : ℕ). n == c.args.attr.0)
    (class_naming c.args.schema.now c.args.class.0 c.class_info.result.now c.class_info.ensures.info)
