-- Which number opening tells of parts that aren't those of a sound directory: 0 for the schema, the counters, the
-- limits or a missing root; else the least object at which a sentence fails; else the first bad parent of the
-- pending list. A name that isn't UTF-8 fails by itself; among its siblings it is compared as it stands.
use Rattle.std.specs.Prelude.{◌≡◌, ℕ, Some, List, if◌then◌else◌}
use Rattle.std.specs.Str.{is_utf8}
use Rattle.ad_dn.specs.Fold.{folded}
use Rattle.ad_dir_model.specs.Object.{Object}
use Rattle.ad_dir_model.specs.Objects.{object_of}
use Rattle.ad_dir_model.specs.Directory.{Directory}
use Rattle.ad_dir_model.specs.Soundness.{IsContent, IsSoundFrame, Stands, LinksAreLive, HasOwnSid}
use Rattle.ad_dir_model.specs.Opening.{IsFirstBadPending}
use Rattle.ad_rows_sound.specs.Least.{IsLeast, OfObject}
use Rattle.ad_rows_sound.specs.declared.fault.SoundnessFault.{SoundnessFault}
use Rattle.ad_rows_sound.specs.declared.fault.SoundnessFault.TheVariants.{Unsound, Memory}

-- A name after folding. One that isn't UTF-8 has no characters to fold, and is taken as it stands.
abbrev pub as_folded : List ℕ → List ℕ
as_folded name = if is_utf8 name then folded name else name

-- no other child of its parent has its name so
abbrev pub HasNameAlone : List Object → Object → Type 0
HasNameAlone objects o = (number : ℕ) (other : Object) → object_of objects number ≡ Some other
    → other.parent ≡ o.parent → as_folded other.name ≡ as_folded o.name → other.number ≡ o.number

-- All that is asked of one object. Where all names are UTF-8 it is what a sound directory asks.
pub record IsSoundAmong (dir : Directory) (o : Object) : Type 0 where
  pub content : IsContent dir.schema o
  pub stands : Stands dir o
  pub links : LinksAreLive dir.objects o
  pub own_name : HasNameAlone dir.objects o
  pub own_sid : HasOwnSid dir.schema dir.objects o

-- this number is told
pub data IsToldAt (dir : Directory) (number : ℕ) : Type 0 where
  frame_fails : number ≡ 0 → (IsSoundFrame dir → ⊥) → IsToldAt dir number
  object_fails : IsSoundFrame dir → IsLeast (OfObject dir.objects (IsSoundAmong dir)) (Some number)
      → IsToldAt dir number
  entry_fails : IsSoundFrame dir → ((n : ℕ) → OfObject dir.objects (IsSoundAmong dir) n)
      → IsFirstBadPending dir number → IsToldAt dir number

-- what a fault tells of the directory
abbrev pub IsToldBy : Directory → SoundnessFault → Type 0
IsToldBy dir (Unsound number) = IsToldAt dir number
IsToldBy dir Memory = Unit {0}
