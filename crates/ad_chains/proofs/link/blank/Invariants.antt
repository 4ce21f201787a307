use Rattle.std.proofs.Common.{◌≡◌, ℕ, None, length}
use Rattle.ad_chains.specs.Chain.{link_at}
use Rattle.ad_chains.proofs.link.blank.Given as goal

-- of those so far nothing is known
abbrev pub invariant-loop : goal.invariant-loop
invariant-loop l = record {
  long : length l.links.items ≡ l.counter;
  blank : (x : ℕ) → link_at l.links.items x ≡ None;
}
