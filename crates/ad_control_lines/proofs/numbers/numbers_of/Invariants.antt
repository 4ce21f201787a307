use Rattle.std.proofs.Common.{◌≡◌, ℕ, ◌<◌, length}
use Rattle.std.specs.Prelude.{slice_index}
use Rattle.ad_control.specs.Lines.{told_below, number_of}
use Rattle.ad_control_lines.proofs.numbers.numbers_of.Given as goal

-- those so far
abbrev pub invariant-loop-x : goal.invariant-loop-x
invariant-loop-x l = record {
  long : length l.numbers.items ≡ l.x;
  told : l.told ≡ told_below l.ways l.x;
  each : (y : ℕ) → y < l.x → slice_index l.numbers.items y ≡ number_of l.ways y;
}
