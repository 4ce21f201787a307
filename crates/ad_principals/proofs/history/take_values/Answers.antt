use Rattle.std.proofs.Common.{◌≡◌, Some, subst}
use Rattle.ad_dir_objects.specs.declared.object.Stored.{Stored}
use Rattle.ad_dir_objects.specs.Seen.{stored_seen}
use Rattle.ad_principals.specs.Groups.{sid_stored}
use Rattle.ad_principals.specs.Reaching.{Takes}
use Rattle.ad_principals.proofs.Sets.{value_taken}
use Rattle.ad_principals.proofs.history.take_values.Goals as goal

pub loop-value-preserved : goal.loop-value-preserved
loop-value-preserved c =
    value_taken sid_stored stored_seen c.args.values.now c.loop-value.value-index c.value-item.result
    c.args.taken.now.keys c.loop-value.taken.keys c.take_stored.new.taken.keys c.loop-value-test.true
    c.loop-value.invariant
    (subst (λ (v : Stored). Takes (λ s. sid_stored (stored_seen v) ≡ Some s) c.loop-value.taken.keys
    c.take_stored.new.taken.keys) c.value-item.is c.in_ok-take_stored.ensures)
