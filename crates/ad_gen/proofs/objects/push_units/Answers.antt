use Rattle.std.specs.String.{string_bytes}
use Rattle.ad_gen.specs.Objects.{units}
use Rattle.ad_bytes.proofs.Appended.{then, nothing}
use Rattle.ad_gen.proofs.Counted.{units_more}
use Rattle.ad_gen.proofs.objects.push_units.Goals as goal

pub loop-i-init : goal.loop-i-init
unfolding units
loop-i-init c = nothing (string_bytes c.args.out.now)

pub loop-i-preserved : goal.loop-i-preserved
loop-i-preserved c = rw (units_more c.loop-i.i)
    (then c.loop-i.invariant (then c.in_ok-push_unit.ensures c.in_ok-push_users.ensures))
