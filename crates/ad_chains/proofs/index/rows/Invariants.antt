use Rattle.std.proofs.Common.{◌≡◌, ℕ, [], length}
use Rattle.ad_chains.specs.Work.{listed}
use Rattle.ad_chains.proofs.index.rows.Given as goal

-- those so far are empty
abbrev pub invariant-loop : goal.invariant-loop
invariant-loop l = record {
  long : length l.found.items ≡ l.counter;
  empty : (y : ℕ) → listed l.found.items y ≡ [];
}
