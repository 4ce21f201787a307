-- Ways: chains over arcs, each of which leads from all members of a set to a node.
use Rattle.std.specs.Prelude.{◌≡◌, ℕ, ◌+◌, ◌<◌, ◌≤◌, if◌then◌else◌, List, [], ◌∷◌, length, Option, None, Some}
use Rattle.std.specs.Prelude.{slice_get, slice_index, slice_index_or}
use Rattle.std.specs.Option.{option_map_or}
use Rattle.std.specs.Global.{Vec}
use Rattle.ad_chains.specs.declared.arc.Arc.{Arc}
use Rattle.ad_chains.specs.declared.ways.Pass.{Pass}
use Rattle.ad_chains.specs.declared.ways.Way.{Way}

-- ---- sets and arcs

-- the members of the set at a place
abbrev pub members_at : List (Vec ℕ) → ℕ → List ℕ
members_at sets set = option_map_or (λ members. members.items) (slice_get sets set) []

-- the node is a member of the set
abbrev pub IsMember : List (Vec ℕ) → ℕ → ℕ → Type 0
IsMember sets set x = (at : ℕ) × (at < length (members_at sets set)) × (slice_index (members_at sets set) at ≡ x)

-- all members are among so many nodes
abbrev pub AreMembersWithin : ℕ → List (Vec ℕ) → Type 0
AreMembersWithin count sets = (set x : ℕ) → IsMember sets set x → x < count

-- of each arc the set is among so many, and the node that it leads to too
abbrev pub AreArcsWithin : ℕ → ℕ → List Arc → Type 0
AreArcsWithin count sets arcs = (place : ℕ) (arc : Arc) → slice_get arcs place ≡ Some arc → (arc.set < sets)
    × (arc.to < count)

-- The arc at a place leads from a node to another: from a member of its set to its end.
abbrev pub IsPass : List (Vec ℕ) → List Arc → ℕ → ℕ → ℕ → Type 0
IsPass sets arcs x place y = (arc : Arc) × (slice_get arcs place ≡ Some arc) × IsMember sets arc.set x × (arc.to ≡ y)

-- ---- ways

-- what an arc adds to the length of a way
abbrev pub arc_cost : Arc → ℕ
arc_cost arc = if arc.counts then 1 else 0

-- how long a way is: how many of its arcs count
abbrev pub way_length : List Arc → List Pass → ℕ
way_length arcs [] = 0
way_length arcs (pass ∷ passes) = option_map_or arc_cost (slice_get arcs pass.arc) 0 + way_length arcs passes

-- A way leads from a node to another: each of its arcs begins at the node to which the one before leads.
abbrev pub IsWay : List (Vec ℕ) → List Arc → ℕ → List Pass → ℕ → Type 0
IsWay sets arcs x [] y = x ≡ y
IsWay sets arcs x (pass ∷ passes) y = IsPass sets arcs x pass.arc pass.next × IsWay sets arcs pass.next passes y

-- ---- what is told

abbrev pub way_at : List (Option Way) → ℕ → Option Way
way_at ways x = slice_index_or ways x None

-- From a node the arcs that are told lead to the end by this way, and of each node on it the length of the rest is
-- told.
abbrev pub LeadsOn : List (Vec ℕ) → List Arc → ℕ → List (Option Way) → ℕ → List Pass → Type 0
LeadsOn sets arcs end ways x [] = (x ≡ end) × (way_at ways x ≡ Some (record { length = 0; first = None }))
LeadsOn sets arcs end ways x (pass ∷ passes) =
    IsPass sets arcs x pass.arc pass.next
    × (way_at ways x ≡ Some (record { length = way_length arcs (pass ∷ passes); first = Some pass }))
    × LeadsOn sets arcs end ways pass.next passes

-- Who is told has a way, by the arcs that are told. Who has a way is told, and no way is shorter.
pub record AreWaysTo (sets : List (Vec ℕ)) (arcs : List Arc) (end : ℕ) (ways : List (Option Way)) : Type 0 where
  pub told : (x : ℕ) (way : Way) → way_at ways x ≡ Some way → (passes : List Pass)
      × LeadsOn sets arcs end ways x passes
  pub least : (x : ℕ) (passes : List Pass) → IsWay sets arcs x passes end → (way : Way) × (way_at ways x ≡ Some way)
      × (way.length ≤ way_length arcs passes)

-- ---- from a node

-- The same backwards: `next` of what is told is the node from which the arc leads.
abbrev pub LeadsBack : List (Vec ℕ) → List Arc → ℕ → List (Option Way) → ℕ → List Pass → Type 0
LeadsBack sets arcs start ways y [] = (y ≡ start) × (way_at ways y ≡ Some (record { length = 0; first = None }))
LeadsBack sets arcs start ways y (pass ∷ passes) =
    IsPass sets arcs pass.next pass.arc y
    × (way_at ways y ≡ Some (record { length = way_length arcs (pass ∷ passes); first = Some pass }))
    × LeadsBack sets arcs start ways pass.next passes

-- To whom is told a way leads, by the arcs that are told. To whom a way leads is told, and no way is shorter.
pub record AreWaysFrom (sets : List (Vec ℕ)) (arcs : List Arc) (start : ℕ) (ways : List (Option Way)) : Type 0 where
  pub told : (y : ℕ) (way : Way) → way_at ways y ≡ Some way → (passes : List Pass)
      × LeadsBack sets arcs start ways y passes
  pub least : (y : ℕ) (passes : List Pass) → IsWay sets arcs start passes y → (way : Way)
      × (way_at ways y ≡ Some way) × (way.length ≤ way_length arcs passes)
