-- What is said on the way to the edits of a deletion: which objects lose links, and in which order those go that go.
use Rattle.std.specs.Prelude.{◌≡◌, ℕ, zero, suc, ◌==◌, Bool, true, false, not, is_none, List, [], ◌∷◌, ◌++◌, map}
use Rattle.std.specs.Prelude.{filter}
use Rattle.std.specs.List.{list_any, AllByRecursion}
use Rattle.ad_dir_objects.specs.declared.edit.Edit.{Edit as EditIn}
use Rattle.ad_dir.specs.Conditions.{HasNormal}
use Rattle.ad_dir_objects.specs.Seen.{edit_seen}
use Rattle.ad_dir_model.specs.Object.{Stored, Held, Object}
use Rattle.ad_dir_model.specs.Objects.{is_live, object_at, next_child}
use Rattle.ad_dir_model.specs.Directory.{Directory, Edit, parents, put_object, remove_object, put_queue}
use Rattle.ad_dir_model.specs.Changes.{goes_with, stays_linked, unlinked}
use Rattle.ad_dir_model.specs.Protection.{has, numbers_where}

-- The object that is deleted is live, and it is said whether it stands alone: without children.
pub record IsLeaving (dir : Directory) (target : ℕ) (alone : Bool) : Type 0 where
  pub live : is_live dir.objects target ≡ true
  pub childless : alone ≡ is_none (next_child dir.objects target 0)

-- one of the values is a link to an object that goes
abbrev pub loses_some : (ℕ → Bool) → List Stored → Bool
loses_some goes values = list_any (λ value. not (stays_linked goes value)) values

unfoldable pub loses : (ℕ → Bool) → Object → Bool
loses goes o = list_any (λ (held : Held). loses_some goes held.values) o.values

-- what is put for an object that loses links
abbrev pub unlinked_at : Directory → ℕ → ℕ → Object
unlinked_at dir target number = unlinked (goes_with dir target) (object_at dir.objects number)

-- the objects that lose links, whether they stay or go
abbrev pub losing_of : Directory → ℕ → List ℕ
losing_of dir target = numbers_where (loses (goes_with dir target)) dir.objects

-- Those of them that are among the numbers.
abbrev pub losing_among : Directory → ℕ → List ℕ → List ℕ
losing_among dir target numbers = filter (λ number. loses (goes_with dir target) (object_at dir.objects number)) numbers

-- An object goes once, and its children before it.
abbrev pub ChildrenFirst : Directory → List ℕ → List ℕ → Type 0
ChildrenFirst dir gone [] = Unit {0}
ChildrenFirst dir gone (number ∷ others) =
    ((has gone number ≡ false) × ((child : ℕ) → is_live dir.objects child ≡ true → parents dir child ≡ number
    → has gone child ≡ true))
    × ChildrenFirst dir (number ∷ gone) others

-- the objects that go, children before their parents
pub record AreGoing (dir : Directory) (target : ℕ) (going : List ℕ) : Type 0 where
  pub each : AllByRecursion (λ number. (is_live dir.objects number ≡ true) × (goes_with dir target number ≡ true)) going
  pub all : (number : ℕ) → is_live dir.objects number ≡ true → goes_with dir target number ≡ true → has going number
      ≡ true
  pub order : ChildrenFirst dir [] going

-- of objects with their depths those of one depth
abbrev pub at_depth : ℕ → List (ℕ × ℕ) → List ℕ
at_depth depth found = map (λ (one : ℕ × ℕ). one.1) (filter (λ (one : ℕ × ℕ). one.0 == depth) found)

-- those that are less deep than this, the deepest first
unfoldable pub from_depth : ℕ → List (ℕ × ℕ) → List ℕ
from_depth zero found = []
from_depth (suc depth) found = at_depth depth found ++ from_depth depth found

-- The pending list first; then each object that loses links is put without them, whether it stays or goes, so that
-- none that goes is linked to any more; and then those go.
abbrev pub removal_edits : Directory → ℕ → List ℕ → List Edit
removal_edits dir target going =
    put_queue (filter (λ entry. not (goes_with dir target entry.parent)) dir.pending)
    ∷ (map (λ number. put_object (unlinked_at dir target number)) (losing_of dir target)
    ++ map (λ number. remove_object number) going)

-- these edits more than before, and normal bytes in all where they were before
pub record AddsEdits (old new : List EditIn) (seen : List Edit) : Type 0 where
  pub are : map edit_seen new ≡ map edit_seen old ++ seen
  pub normal : AllByRecursion HasNormal old → AllByRecursion HasNormal new
