use Rattle.std.proofs.Common.{◌≡◌}
use Rattle.ad_access_dir.specs.Allowed.{allowed_below}
use Rattle.ad_access_dir.proofs.allowed.allowed_attrs.Given as goal

-- those so far
abbrev pub invariant-each : goal.invariant-each
invariant-each l = l.attrs.items ≡ allowed_below l.dir.schema l.class.0 l.place
