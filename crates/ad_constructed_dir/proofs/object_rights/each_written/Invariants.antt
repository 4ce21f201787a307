use Rattle.std.proofs.Common.{◌≡◌, length}
use Rattle.ad_access_dir.specs.Allowed.{allowed_below}
use Rattle.ad_constructed_dir.specs.Writes.{writes_below}
use Rattle.ad_constructed_dir.proofs.object_rights.each_written.Given as goal

-- those so far, and as many masks are taken as attributes so far are allowed
abbrev pub invariant-each : goal.invariant-each
invariant-each l = (l.written.items ≡ writes_below l.dir l.token l.number l.class.0 l.place)
    × (l.next ≡ length (allowed_below l.dir.schema l.class.0 l.place))
