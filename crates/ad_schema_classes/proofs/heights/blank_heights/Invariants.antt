use Rattle.std.proofs.Common.{◌≡◌, ℕ, length}
use Rattle.ad_schema_classes.specs.Heights.{height_at}
use Rattle.ad_schema_classes.proofs.heights.blank_heights.Given as goal

abbrev pub invariant-loop-place : goal.invariant-loop-place
invariant-loop-place l = record {
  long : length l.heights.items ≡ l._place;
  blank : (k : ℕ) → height_at l.heights.items k ≡ 0;
}
