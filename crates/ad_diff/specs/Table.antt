-- Only for private contracts, invariants and proofs: columns of the table and groups of its rows.
use Rattle.std.specs.Prelude.{◌≡◌, ℕ, zero, suc, ◌<◌, true, Some, List, [], ◌∷◌, ◌++◌, All, map, get_or, length, slice_get}
use Rattle.ad_both.specs.declared.both.Both.{Both}
use Rattle.ad_diff_rights.specs.declared.unchanged.Sides.{Sides}
use Rattle.ad_diff_rights.specs.declared.tokens.Party.{Party}
use Rattle.ad_diff_rights.specs.Own.{changes_in}
use Rattle.ad_diff.specs.declared.numbering.Grouped.{Grouped}
use Rattle.ad_diff.specs.declared.bases.Frame.{Frame}
use Rattle.ad_diff.specs.declared.columns.Column.{Column}
use Rattle.ad_diff.specs.Text.{members, has_member, HasNumber}
use Rattle.ad_diff.specs.Frames.{lines_at, group_lines, IsNumbered}

-- ---- the table

-- the object's group is that of a column with its lines
pub record IsPlaced (sides : Sides) (frame : Frame) (columns : List Column) (g : Grouped) : Type 0 where
  pub within : g.group < suc (length columns)
  pub lines : (place : ℕ) (party : Party) → slice_get sides.parties.now place ≡ Some party
      → group_lines frame columns g.group place
      ≡ changes_in sides.before.now sides.after.now party.was party.is true g.both

abbrev pub ArePlaced : Sides → Frame → List Column → List Grouped → Type 0
ArePlaced sides frame columns objects = All (IsPlaced sides frame columns) objects

-- ---- groups of principals

-- the lines of groups of principals on an object: none for group 0, and for each other those of one of its members
abbrev pub row_of : List ℕ → (ℕ → List ℕ) → List (List ℕ)
row_of leaders lines = [] ∷ map lines leaders

-- the lines of groups of both: a row for each group of objects from 1 on, after one without lines
abbrev pub table_of : Frame → List Column → List ℕ → List (List (List ℕ))
table_of frame columns leaders = [] ∷ map (λ (column : Column). row_of leaders (lines_at frame column)) columns

-- the principal at the place has the lines of its group on each object
pub record IsRow (frame : Frame) (columns : List Column) (leaders : List ℕ) (place group : ℕ) : Type 0 where
  pub within : group < suc (length leaders)
  pub lines : All (λ (column : Column). lines_at frame column place
      ≡ get_or (row_of leaders (lines_at frame column)) group [])
      columns

-- More leaders stand after, and the principal at the place has such a group. No leader is added but that of the group.
pub record IsLed (frame : Frame) (columns : List Column) (old new : List ℕ) (place group : ℕ) : Type 0 where
  pub more : List ℕ
  pub are : new ≡ old ++ more
  pub row : IsRow frame columns new place group
  pub count : IsNumbered (length old) (length new) group

-- each of the first principals has such a group
abbrev pub AreRows : Frame → List Column → List ℕ → List Grouped → Type 0
AreRows frame columns leaders groups = (place : ℕ) (g : Grouped) → slice_get groups place ≡ Some g
    → IsRow frame columns leaders place g.group

-- ---- groups in use

-- each of the groups from 1 to this number has a member
abbrev pub AreUsed : ℕ → List Grouped → Type 0
AreUsed zero groups = Unit {0}
AreUsed (suc n) groups = (has_member groups (suc n) ≡ true) × AreUsed n groups

-- so many groups are in use, and each has a number
pub record AreNumbered (count : ℕ) (groups : List Grouped) : Type 0 where
  pub used : AreUsed count groups
  pub fit : All HasNumber groups

-- ---- what the steps keep

-- the principals so far are in groups
pub record AreGrouped (frame : Frame) (columns : List Column) (done : List Both) (groups : List Grouped)
    (leaders : List ℕ) : Type 0 where
  pub members_are : members groups ≡ done
  pub rows : AreRows frame columns leaders groups
  pub numbered : AreNumbered (length leaders) groups

-- the objects so far are placed
pub record IsPlacing (sides : Sides) (frame : Frame) (done : List Both) (objects : List Grouped)
    (columns : List Column) : Type 0 where
  pub members_are : members objects ≡ done
  pub placed : ArePlaced sides frame columns objects
  pub numbered : AreNumbered (length columns) objects
