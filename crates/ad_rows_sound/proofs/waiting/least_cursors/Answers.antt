use Rattle.std.proofs.Common.{subst}
use Rattle.std.proofs.lemmas.List.{take_all}
use Rattle.ad_rows_sound.specs.Waiting.{AreLeast}
use Rattle.ad_rows_sound.proofs.Waits.{least_none, least_at}
use Rattle.ad_rows_sound.proofs.waiting.least_cursors.Goals as goal

pub each-init : goal.each-init
each-init c = least_none c.new-least.result c.new-least.ensures.empty

pub each-preserved : goal.each-preserved
each-preserved c =
    least_at c.each.least c.insert.new.self c.args.entries.now c.each.i c.least_with-cursor.result _ c.each-test.true
    c.each.invariant c.least_with-cursor.ensures c.in_ok-insert.ensures.updates

pub returns : goal.returns
returns c = subst (AreLeast c.each.least) (take_all c.each.i c.args.entries.now c.each-test.false) c.each.invariant
