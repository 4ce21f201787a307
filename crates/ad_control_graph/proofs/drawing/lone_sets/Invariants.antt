use Rattle.std.proofs.Common.{◌≡◌, ◌<◌, ℕ, [], ◌∷◌, length}
use Rattle.ad_chains.specs.Ways.{members_at}
use Rattle.ad_control_graph.proofs.drawing.lone_sets.Given as goal

-- the first sets
abbrev pub invariant-loop-x : goal.invariant-loop-x
invariant-loop-x l = record {
  long : length l.sets.items ≡ l.x;
  lone : (x : ℕ) → x < l.x → members_at l.sets.items x ≡ x ∷ [];
}
