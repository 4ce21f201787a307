use Rattle.std.proofs.Common.{subst, sym}
use Rattle.ad_load_objects.specs.Found.{IsFound, AreFound}
use Rattle.ad_load_objects.proofs.Places.{all_more}
use Rattle.ad_load_objects.proofs.found.none_found.Goals as goal

pub loop-preserved : goal.loop-preserved
loop-preserved c = λ schema.
    subst (AreFound schema) (sym c.in_ok-push.ensures.items)
    (all_more (IsFound schema) c.loop.found.items _ (c.loop.invariant schema) (record { attr = tt; class = tt }))
