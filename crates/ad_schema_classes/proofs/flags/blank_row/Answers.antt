use Rattle.std.proofs.Common.{false, arith}
use Rattle.std.proofs.lemmas.List.{length_push}
use Rattle.ad_schema_classes.proofs.RowLemmas.{blank_none, blank_push}
use Rattle.ad_schema_classes.proofs.flags.blank_row.Goals as goal

pub loop-place-init : goal.loop-place-init
loop-place-init c = rw c.in_ok-row.ensures.items record { long = omega arith; blank = blank_none }

pub loop-place-preserved : goal.loop-place-preserved
loop-place-preserved c = rw c.in_ok-push.ensures.items record {
  long = omega (arith, length_push c.loop-place.row.items false, c.loop-place.invariant.long);
  blank = blank_push c.loop-place.row.items c.loop-place.invariant.blank;
}
