-- How objects are looked up by their names, and by their places below a parent. Only for private contracts,
-- invariants and proofs.
use Rattle.std.specs.Prelude.{◌≡◌, ℕ, ◌^◌, ◌<◌, Option, Some, None, List, ◌++◌, map}
use Rattle.std.specs.List.{AllByRecursion, list_any}
use Rattle.indexmap.specs.IndexSet.{insert_key}
use Rattle.ad_bytes.specs.Numbers.{be_bytes}
use Rattle.ad_ids.specs.SidValue.{SidValue, same_sid}
use Rattle.ad_dn.specs.Fold.{folded}
use Rattle.ad_dn.specs.NameKey.{rdns_key}
use Rattle.ad_dn.specs.Value.{AreRdns}
use Rattle.ad_load_objects.specs.declared.drafts.Drafts.{Drafts}
use Rattle.ad_load_objects.specs.declared.index.Keyed.{Keyed}
use Rattle.ad_schema.specs.declared.line.SchemaRecord.{SchemaRecord}
use Rattle.ad_load_objects.specs.Drafts.{Draft, naming_value}
use Rattle.ad_load_objects.specs.Objects.{has_sid}
use Rattle.ad_load_objects.specs.Seen.{draft_seen}

abbrev pub drafts_seen : Drafts → List Draft
drafts_seen d = map draft_seen d.items.items

abbrev pub name_key_of : Draft → List ℕ
name_key_of draft = rdns_key draft.rdns

-- the parent's number in four bytes, and the naming value after folding
abbrev pub place_key : ℕ → List ℕ → List ℕ
place_key parent name = be_bytes 4 parent ++ folded name

abbrev pub place_key_of : Draft → List ℕ
place_key_of draft = place_key draft.parent (naming_value draft.rdns)

-- the name has its form, and the parent's number four bytes
pub record HasForm (draft : Draft) : Type 0 where
  pub rdns : AreRdns draft.rdns
  pub parent : draft.parent < 2 ^ 32

-- each object's name and place stand at its own place
pub record IsIndex (drafts : List Draft) (name_keys place_keys : List (List ℕ)) : Type 0 where
  pub names : name_keys ≡ map name_key_of drafts
  pub places : place_keys ≡ map place_key_of drafts
  pub forms : AllByRecursion HasForm drafts

-- the names of these objects, each at its own place
abbrev pub AreNames : List Draft → List (List ℕ) → Type 0
AreNames drafts names = (places : List (List ℕ)) × IsIndex drafts names places

abbrev pub IsIndexed : Drafts → Type 0
IsIndexed d = IsIndex (drafts_seen d) d.names d.places

-- the keys are those of the draft
pub record IsKeyed (one : Keyed) : Type 0 where
  pub name : one.name ≡ name_key_of (draft_seen one.draft)
  pub place : one.place ≡ place_key_of (draft_seen one.draft)

-- ---- identifiers

-- the identifiers with one more, where it is given and isn't among them
abbrev pub with_sid : List SidValue → Option SidValue → List SidValue
with_sid sids None = sids
with_sid sids (Some sid) = insert_key same_sid sids sid

-- an identifier is among them exactly where an object has it
pub record AreSids (schema : List SchemaRecord) (drafts : List Draft) (sids : List SidValue) : Type 0 where
  pub same : (sid : SidValue) → list_any (same_sid sid) sids ≡ list_any (has_sid schema sid) drafts

abbrev pub HasSids : List SchemaRecord → Drafts → Type 0
HasSids schema d = AreSids schema (drafts_seen d) d.sids.keys
