-- What is kept in the fields, and what it stands for.
use Rattle.std.specs.Prelude.{◌≡◌, ℕ, ◌+◌, ◌==◌, if◌then◌else◌, Option, Some, None, List, [], ◌∷◌, map}
use Rattle.std.specs.List.{AllByRecursion}
use Rattle.std.specs.BTreeMap.{IsOrdered}
use Rattle.std.specs.Ordering.{nat_cmp}
use Rattle.ad_ids.specs.SidValue.{SidValue}
use Rattle.ad_sd.specs.declared.parts.Sd.{Sd}
use Rattle.ad_sd.specs.SdIn.{sd_in}
use Rattle.ad_sd.specs.Normal.{SpellsNormal}
use Rattle.sd_pool.specs.declared.id.SdId.{SdId}
use Rattle.sd_pool.specs.Blocks.{Extent}
use Rattle.sd_pool.specs.Sharers.{sharers_at, bytes_at}
use Rattle.ad_dir_objects.specs.Seen.{object_seen}
use Rattle.ad_dir_model.specs.Object.{Object}
use Rattle.ad_dir_table.specs.declared.stored_object.StoredObject.{StoredObject}
use Rattle.ad_dir_table.specs.declared.parts.Parts.{Parts}
use Rattle.ad_dir_table.specs.Entry.{Entry, Holding, objects_in}

-- ---- what is seen

-- the descriptor of an id
abbrev pub sd_of : List Extent → ℕ → Sd
sd_of live id = sd_in (bytes_at live id)

abbrev pub object_kept : List Extent → StoredObject → Object
object_kept live kept = object_seen kept.object (sd_of live kept.id.0)

-- the object with another id of its descriptor
abbrev pub with_id : SdId → StoredObject → StoredObject
with_id id kept = record kept { id = id }

abbrev pub kept_sid : StoredObject → Option SidValue
kept_sid kept = if kept.has_sid then Some kept.sid else None

abbrev pub entry_kept : List Extent → StoredObject → Entry
entry_kept live kept = record { object = object_kept live kept; sid = kept_sid kept }

abbrev pub entries_kept : List Extent → List (ℕ × StoredObject) → List Entry
entries_kept live entries = map (λ entry. entry_kept live entry.1) entries

abbrev pub entries_of : Parts → List Entry
entries_of parts = entries_kept parts.pool.live parts.kept.entries

abbrev pub objects_kept : List Extent → List (ℕ × StoredObject) → List Object
objects_kept live entries = objects_in (entries_kept live entries)

abbrev pub holding : Parts → Holding
holding parts = record { entries = entries_of parts; pool = parts.pool }

-- ---- what holds

-- of each object
abbrev pub AllKept : (StoredObject → Type 0) → List (ℕ × StoredObject) → Type 0
AllKept P entries = AllByRecursion (λ entry. P entry.1) entries

-- each object stands at its number
abbrev pub AreKeyed : List (ℕ × StoredObject) → Type 0
AreKeyed entries = AllByRecursion (λ entry. entry.0 ≡ entry.1.object.number) entries

-- the bytes of an id are the normal bytes of a descriptor
abbrev pub IsNormalAt : List Extent → ℕ → Type 0
IsNormalAt live id = SpellsNormal (sd_of live id) (bytes_at live id)

abbrev pub HasNormal : List Extent → StoredObject → Type 0
HasNormal live kept = IsNormalAt live kept.id.0

-- how many objects name the id
unfoldable pub count_of : ℕ → List (ℕ × StoredObject) → ℕ
count_of id [] = 0
count_of id (entry ∷ entries) = (if entry.1.id.0 == id then 1 else 0) + count_of id entries

-- Each object stands at its number, and names an id whose bytes are normal. Each id has as many sharers as objects
-- name it.
pub record IsTable (parts : Parts) : Type 0 where
  pub keyed : AreKeyed parts.kept.entries
  pub ordered : IsOrdered nat_cmp parts.kept
  pub normal : AllKept (HasNormal parts.pool.live) parts.kept.entries
  pub shared : (id : ℕ) → sharers_at parts.pool.live id ≡ count_of id parts.kept.entries

-- the id that an object which goes has named
abbrev pub one_of : ℕ → Option SdId → ℕ
one_of id None = 0
one_of id (Some was) = if was.0 == id then 1 else 0
