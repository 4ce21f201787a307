use Rattle.std.proofs.Common.{refl, ◌∙◌}
use Rattle.ad_change_values.specs.Piles.{since_in}
use Rattle.ad_change_values.proofs.PileTaking.{alive_none, alive_next, length_more}
use Rattle.ad_change_values.proofs.places.alive_of.Goals as goal

pub loop-one-init : goal.loop-one-init
loop-one-init c = (c.new-left.ensures.items ∙ alive_none (since_in c.args.places.now), refl)

pub loop-one-preserved : goal.loop-one-preserved
loop-one-preserved c = (
  alive_next (since_in c.args.places.now) c.loop-one.yielded c.in-Some.one c.loop-one.place c.in_ok-there.there
      c.loop-one.left.items c.push_if.new.left.items
      c.loop-one.invariant.1 c.loop-one.invariant.0 c.in_ok-there.ensures c.in_ok-push_if.ensures,
  length_more c.loop-one.yielded c.in-Some.one c.loop-one.place c.in_ok-after.after c.in_ok-after.ensures
      c.loop-one.invariant.1,
)
