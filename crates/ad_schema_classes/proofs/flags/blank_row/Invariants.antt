use Rattle.std.proofs.Common.{◌≡◌, ℕ, false, length}
use Rattle.ad_schema_classes.specs.Flags.{flag_at}
use Rattle.ad_schema_classes.proofs.flags.blank_row.Given as goal

abbrev pub invariant-loop-place : goal.invariant-loop-place
invariant-loop-place l = record {
  long : length l.row.items ≡ l._place;
  blank : (j : ℕ) → flag_at l.row.items j ≡ false;
}
