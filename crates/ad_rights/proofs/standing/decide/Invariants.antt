use Rattle.std.proofs.Common.{◌≡◌, ◌<◌, ℕ, length, take}
use Rattle.ad_rights.specs.Holding.{has}
use Rattle.ad_rights.specs.Standing.{stand_at, decided}
use Rattle.ad_rights.proofs.standing.decide.Given as goal

-- decided for those so far
abbrev pub invariant-loop-place : goal.invariant-loop-place
invariant-loop-place l = record {
  len : length l.stands ≡ length l.fn.stands;
  each : (q : ℕ) → q < length l.fn.stands → stand_at l.stands q
      ≡ decided (has (take l.place-index l.places) q) l.allow (stand_at l.fn.stands q);
}
