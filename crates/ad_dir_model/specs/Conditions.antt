-- What a change asks for, so that a sound directory stays sound.
use Rattle.std.specs.Prelude.{◌≡◌, ◌≢◌, ℕ, suc, ◌+◌, ◌<◌, ◌≤◌, true, false, Some, List, length, IfSome}
use Rattle.ad_dir_model.specs.Limits.{max_depth, max_objects, max_weight, max_counter}
use Rattle.ad_dir_model.specs.Object.{Object}
use Rattle.ad_dir_model.specs.Objects.{Rise, object_of, is_live, object_at, parent_at, sd_at, put}
use Rattle.ad_dir_model.specs.Tree.{root, IsAtDepth, IsPlaced}
use Rattle.ad_dir_model.specs.Identity.{sid_in, self_sid}
use Rattle.ad_dir_model.specs.Directory.{Directory, parents, with_objects}
use Rattle.ad_dir_model.specs.Changes.{new_sid, numbered, goes_with, unlinked}
use Rattle.ad_dir_model.specs.Protection.{has}
use Rattle.ad_dir_model.specs.Weight.{weight}
use Rattle.ad_dir_model.specs.Soundness.{IsContent, LinksAreLive, HasOwnName, HasOwnSid, IsSoundFrame}

-- The object fits among the others: its content is of the schema, its links name live objects or itself, and no
-- other has its parent and its name, or its identifier.
pub record Fits (dir : Directory) (o : Object) : Type 0 where
  pub content : IsContent dir.schema o
  pub links : LinksAreLive (put o dir.objects) o
  pub own_name : HasOwnName dir.objects o
  pub own_sid : HasOwnSid dir.schema dir.objects o

-- It may stand in the place of the object of its number: it has the same identifier, and isn't too heavy.
pub record MayReplace (dir : Directory) (o : Object) : Type 0 where
  pub live : is_live dir.objects o.number ≡ true
  pub fits : Fits dir o
  pub same_sid : sid_in dir.schema o ≡ self_sid dir o.number
  pub weight : weight (with_objects (put o dir.objects) dir) ≤ max_weight

-- its parent is the one from before
abbrev pub KeepsParent : Directory → Object → Type 0
KeepsParent dir o = o.parent ≡ parent_at dir.objects o.number

-- its class and its descriptor too
pub record KeepsDescriptor (dir : Directory) (o : Object) : Type 0 where
  pub class : o.class ≡ (object_at dir.objects o.number).class
  pub sd : o.sd ≡ sd_at dir.objects o.number

-- It isn't the root, its parent is another live object, and each object stands in the tree with this parent, none
-- too deep.
pub record MayMove (dir : Directory) (o : Object) : Type 0 where
  pub below : o.number ≢ root
  pub parent_live : is_live dir.objects o.parent ≡ true
  pub apart : o.number ≢ o.parent
  pub placed : (number : ℕ) → is_live dir.objects number ≡ true → IsPlaced (parent_at (put o dir.objects)) number

-- An object that may be added: its parent is live and not too deep, it fits with the number and the identifier that
-- it gets and has no other identifier, and neither the limits nor the counters are at their ends.
pub record MayBeAdded (dir : Directory) (o : Object) : Type 0 where
  pub parent_live : is_live dir.objects o.parent ≡ true
  pub parent_depth : ℕ
  pub parent_at : IsAtDepth (parents dir) parent_depth o.parent
  pub parent_within : parent_depth < max_depth
  pub fits : Fits dir (numbered dir o)
  pub sid : sid_in dir.schema (numbered dir o) ≡ new_sid dir o.class
  pub few : length dir.objects < max_objects
  pub weight : weight (with_objects (put (numbered dir o) dir.objects) dir) ≤ max_weight
  pub number_fits : dir.meta.next_number < max_counter
  pub rid_fits : IfSome (new_sid dir o.class) (λ sid. dir.meta.next_rid < max_counter)

-- An object as it is read, before its descriptor is computed: all that is asked of a sound one but what it inherits.
pub record IsRead (dir : Directory) (o : Object) : Type 0 where
  pub content : IsContent dir.schema o
  pub no_parent : o.number ≡ root → o.parent ≡ 0
  pub parent_live : o.number ≢ root → is_live dir.objects o.parent ≡ true
  pub placed : o.number ≢ root → IsPlaced (parents dir) o.number
  pub links : LinksAreLive dir.objects o
  pub own_name : HasOwnName dir.objects o
  pub own_sid : HasOwnSid dir.schema dir.objects o

-- a directory as it is read
pub record IsAllRead (dir : Directory) : Type 0 where
  pub rise : Rise dir.objects
  pub frame : IsSoundFrame dir
  pub each : (number : ℕ) (o : Object) → object_of dir.objects number ≡ Some o → IsRead dir o

-- The numbers of the objects that lose links when a subtree is deleted, and of those that go: each object that
-- stays and isn't among the first loses none, and those among the first stay; the second are the live objects that
-- go.
pub record AreOfDeletion (dir : Directory) (number : ℕ) (losing going : List ℕ) : Type 0 where
  pub losing_stay : (n : ℕ) → has losing n ≡ true → (is_live dir.objects n ≡ true) × (goes_with dir number n ≡ false)
  pub others_lose_none : (n : ℕ) → is_live dir.objects n ≡ true → goes_with dir number n ≡ false
      → has losing n ≡ false → unlinked (goes_with dir number) (object_at dir.objects n) ≡ object_at dir.objects n
  pub going_go : (n : ℕ) → has going n ≡ true → goes_with dir number n ≡ true
  pub all_go : (n : ℕ) → is_live dir.objects n ≡ true → goes_with dir number n ≡ true → has going n ≡ true

-- A move that keeps the tree: the new parent is live and isn't the object nor below it, and the object and all
-- below it are none too deep there: where so many parents stand above such an object, above the one that is moved,
-- and above its new parent.
pub record KeepsTree (dir : Directory) (o : Object) : Type 0 where
  pub below : o.number ≢ root
  pub live : is_live dir.objects o.number ≡ true
  pub parent_live : is_live dir.objects o.parent ≡ true
  pub not_into_itself : goes_with dir o.number o.parent ≡ false
  pub within : (n depth moved above : ℕ) → is_live dir.objects n ≡ true → goes_with dir o.number n ≡ true
      → IsAtDepth (parents dir) depth n → IsAtDepth (parents dir) moved o.number
      → IsAtDepth (parents dir) above o.parent → depth + suc above ≤ max_depth + moved
