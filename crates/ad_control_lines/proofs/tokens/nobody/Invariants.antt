use Rattle.std.proofs.Common.{◌≡◌, ℕ, None, length}
use Rattle.ad_control_lines.specs.Tables.{place_at}
use Rattle.ad_control_lines.proofs.tokens.nobody.Given as goal

-- none so far has one
abbrev pub invariant-loop : goal.invariant-loop
invariant-loop l = record {
  long : length l.owners.items ≡ l.counter;
  none : (x : ℕ) → place_at l.owners.items x ≡ None;
}
