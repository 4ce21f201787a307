use Rattle.std.proofs.Common.{◌≡◌, drop}
use Rattle.std.specs.Option.{option_copied}
use Rattle.ad_schema.specs.Classes.{classes_of}
use Rattle.ad_load_objects.specs.Through.{through}
use Rattle.ad_load.specs.Links.{with_default}
use Rattle.ad_load.proofs.limits.check_defaults.Given as goal

-- all classes so far have defaults that can be read
abbrev pub invariant-loop-info : goal.invariant-loop-info
invariant-loop-info l = through (with_default (option_copied l.domain)) tt (drop l.info-index l.info-items)
    ≡ through (with_default (option_copied l.domain)) tt (classes_of l.schema)
