use Rattle.std.proofs.Common.{◌≡◌, ℕ, take}
use Rattle.std.specs.Prelude.{nat_eq}
use Rattle.indexmap.specs.IndexMap.{get}
use Rattle.ad_rights_rows.specs.Rows.{own_at}
use Rattle.ad_rights_rows.proofs.own.places.Given as goal

-- the places of those so far
abbrev pub invariant-loop-place : goal.invariant-loop-place
invariant-loop-place l = (number : ℕ) → get nat_eq l.table number ≡ own_at (take l.place l.members) number
