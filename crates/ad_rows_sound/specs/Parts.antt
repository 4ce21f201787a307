-- The parts of a directory, and what is asked of them one by one.
use Rattle.std.specs.Prelude.{◌≡◌, ◌⊎◌, ℕ, ◌<◌, ◌-◌, ◌^◌, ◌==◌, Bool, true, false, Option, Some, List, ◌++◌}
use Rattle.std.specs.Prelude.{slice_get}
use Rattle.std.specs.Option.{option_map_or, option_and_then}
use Rattle.ad_ids.specs.SidValue.{SidValue}
use Rattle.ad_ids.specs.SidChild.{child_of}
use Rattle.std.specs.List.{AllByRecursion}
use Rattle.ad_bytes.specs.Numbers.{be_bytes}
use Rattle.ad_ids.specs.Sid.{IsSid, sid_bytes}
use Rattle.ad_schema.specs.declared.line.SchemaRecord.{SchemaRecord}
use Rattle.prop_queue.specs.declared.pending.Pending.{Pending}
use Rattle.prop_queue.specs.Pending.{AreDistinct}
use Rattle.ad_dir_model.specs.Object.{Stored, plain, link, Held, Object}
use Rattle.ad_inherit.specs.Whole.{explicit_part, whole}
use Rattle.ad_dir_model.specs.Objects.{object_of, is_live, parent_at, sd_at}
use Rattle.ad_dir_model.specs.Tree.{root, IsPlaced}
use Rattle.ad_dir_model.specs.Inheritance.{covers, guid_at}
use Rattle.ad_dir_model.specs.Identity.{sid_in}
use Rattle.ad_dir_model.specs.Directory.{Directory, Meta}
use Rattle.ad_rows_sound.specs.Told.{as_folded}

abbrev pub dir_of : List SchemaRecord → List Object → List Pending → Meta → Directory
dir_of schema objects pending meta = record { schema = schema; objects = objects; pending = pending; meta = meta }

-- a link names a live object
abbrev pub IsLiveLink : List Object → Stored → Type 0
IsLiveLink objects (plain value) = Unit {0}
IsLiveLink objects (link number) = is_live objects number ≡ true

abbrev pub AreLiveLinks : List Object → Held → Type 0
AreLiveLinks objects held = AllByRecursion (IsLiveLink objects) held.values

-- The root has no parent and no inherited entry; any other object has a live parent, is at most 64 parents deep,
-- and has what its parent passes down or is still to get it. And each link names a live object.
abbrev pub IsPlacedBy : Bool → List SchemaRecord → List Object → List Pending → Object → Type 0
IsPlacedBy true schema objects pending o = (o.parent ≡ 0) × (explicit_part o.sd ≡ o.sd)
IsPlacedBy false schema objects pending o =
    (is_live objects o.parent ≡ true) × IsPlaced (parent_at objects) o.number
    × ((o.sd ≡ whole (sd_at objects o.parent) o.sd (guid_at schema o.class))
    ⊎ (covers pending o.parent o.number ≡ true))

abbrev pub IsStanding : List SchemaRecord → List Object → List Pending → Object → Type 0
IsStanding schema objects pending o = AllByRecursion (AreLiveLinks objects) o.values × IsPlacedBy (o.number == root)
    schema objects pending o

-- ---- keys by which names and identifiers are told apart

-- the parent, and the name after folding
abbrev pub name_key : Object → List ℕ
name_key o = be_bytes 4 o.parent ++ as_folded o.name

-- the identifier, or the number of an object that has none
abbrev pub sid_key : List SchemaRecord → Object → List ℕ
sid_key schema o = option_map_or sid_bytes (sid_in schema o) (be_bytes 4 o.number)

-- the key at a place doesn't stand after it again
abbrev pub IsLast : List (List ℕ) → ℕ → Type 0
IsLast keys i = (j : ℕ) (key : List ℕ) → i < j → slice_get keys i ≡ Some key → slice_get keys j ≡ Some key → ⊥

-- no other object has its key
abbrev pub HasOwnKey : (Object → List ℕ) → List Object → Object → Type 0
HasOwnKey key objects o = (number : ℕ) (other : Object) → object_of objects number ≡ Some other → key other ≡ key o
    → other.number ≡ o.number

-- what is known of objects as they were read: a parent is below 2^32, and an identifier is one
abbrev pub HasSmallParent : Object → Type 0
HasSmallParent o = o.parent < 2 ^ 32

abbrev pub HasSid : List SchemaRecord → Object → Type 0
HasSid schema o = (sid : SidValue) → sid_in schema o ≡ Some sid → IsSid sid

-- ---- counters

-- the number is below the next one, and so is the last one of an identifier that is the domain's with one number more
pub record IsCounted (schema : List SchemaRecord) (domain : Option SidValue) (meta : Meta) (o : Object) : Type 0 where
  pub number : o.number < meta.next_number
  pub rid : (rid : ℕ) (sid : SidValue) → sid_in schema o ≡ Some sid → option_and_then (λ d. child_of d rid) domain
      ≡ Some sid → rid < meta.next_rid

-- ---- the pending list

-- parents that are live, each once
pub record ArePending (objects : List Object) (pending : List Pending) : Type 0 where
  pub live : AllByRecursion (λ (entry : Pending). is_live objects entry.parent ≡ true) pending
  pub distinct : AreDistinct pending
