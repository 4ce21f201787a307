use Rattle.std.proofs.Common.{arith}
use Rattle.std.proofs.lemmas.List.{length_push}
use Rattle.ad_schema_classes.proofs.HeightLemmas.{blank_none, blank_push}
use Rattle.ad_schema_classes.proofs.heights.blank_heights.Goals as goal

pub loop-place-init : goal.loop-place-init
loop-place-init c = rw c.in_ok-heights.ensures.items record { long = omega arith; blank = blank_none }

pub loop-place-preserved : goal.loop-place-preserved
loop-place-preserved c = rw c.in_ok-push.ensures.items record {
  long = omega (arith, length_push c.loop-place.heights.items 0, c.loop-place.invariant.long);
  blank = blank_push c.loop-place.heights.items c.loop-place.invariant.blank;
}
