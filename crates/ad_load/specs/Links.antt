-- Phase 4: the links in the same order, and then the limits and the default texts.
use Rattle.std.specs.Prelude.{ℕ, ◌+◌, ◌-◌, nat_le, nat_lt, Bool, ◌==◌, ◌&&◌, if◌then◌else◌, Option, Some}
use Rattle.std.specs.Prelude.{None, ok_or, List, [], ◌∷◌, ◌++◌, length, drop, Result, Ok}
use Rattle.std.specs.Option.{option_and_then}
use Rattle.std.specs.List.{list_all}
use Rattle.ad_bytes.specs.Reading.{◌>>=◌, need}
use Rattle.ad_ids.specs.SidValue.{SidValue}
use Rattle.ad_ids.specs.WellKnown.{administrators}
use Rattle.ad_ids.specs.SidChild.{child_of}
use Rattle.ad_dn.specs.declared.rdn.Rdn.{Rdn}
use Rattle.ad_dn.specs.Reading.{dn_of}
use Rattle.ad_dn.specs.Text.{rdns_text}
use Rattle.ad_sd.specs.declared.parts.Sd.{Sd}
use Rattle.ad_inherit.specs.Creation.{chosen}
use Rattle.ad_schema.specs.declared.line.SchemaRecord.{SchemaRecord}
use Rattle.ad_schema.specs.declared.info.ClassInfo.{ClassInfo}
use Rattle.ad_schema.specs.Classes.{classes_of}
use Rattle.ad_schema.specs.Meaning.{attr_is_link}
use Rattle.ad_dir_model.specs.Limits.{max_objects, max_depth, max_weight, max_text, max_counter}
use Rattle.ad_dir_model.specs.Object.{Stored, plain, link, Held, Object}
use Rattle.ad_dir_model.specs.Directory.{Meta, Directory}
use Rattle.ad_dir_model.specs.Weight.{weight}
use Rattle.ad_dir_model.specs.Identity.{is_sid, last_of}
use Rattle.ad_dir_model.specs.Soundness.{default_reads}
use Rattle.ad_load_records.specs.declared.fault.LoadFault.{LoadFault}
use Rattle.ad_load_records.specs.declared.fault.LoadCause.TheVariants as cause
use Rattle.ad_schema_defaults.specs.Defaults.{default_of}
use Rattle.ad_load_records.specs.Faults.{at, of_all}
use Rattle.ad_load_objects.specs.Through.{through}
use Rattle.ad_load_objects.specs.Drafts.{Given, Draft, number_named, naming_value, draft_sid}

-- ---- values

-- the object of a name's text
abbrev pub target_of : List Draft → List ℕ → Option ℕ
target_of drafts text = option_and_then (λ dn. number_named drafts dn.rdns) (dn_of text)

-- a value as it is stored: that of a link is the number of the object that it names
unfoldable pub stored_of : List SchemaRecord → List Draft → Given → Result Stored LoadFault
stored_of schema drafts g =
    if attr_is_link schema g.attr then (ok_or (target_of drafts g.value.shown) (at g.line (cause.Link g.spelled))
    >>= λ number. Ok (link number))
    else Ok (plain g.value)

-- one value more of an attribute, after those that it has; attributes rise
unfoldable pub with_stored : ℕ → Stored → List Held → List Held
with_stored attr value [] = record { attr = attr; values = value ∷ [] } ∷ []
with_stored attr value (held ∷ others) =
    if held.attr == attr then record { attr = attr; values = held.values ++ value ∷ [] } ∷ others
    else (if nat_lt attr held.attr then record { attr = attr; values = value ∷ [] } ∷ held ∷ others
    else held ∷ with_stored attr value others)

unfoldable pub with_given : List SchemaRecord → List Draft → List Held → Given → Result (List Held) LoadFault
with_given schema drafts held g = stored_of schema drafts g >>= λ value. Ok (with_stored g.attr value held)

unfoldable pub all_stored : List SchemaRecord → List Draft → List Given → Result (List Held) LoadFault
all_stored schema drafts given = through (with_given schema drafts) [] given

-- ---- descriptors

-- The descriptor that is given. Else the lists are the class's default, and owner and group the administrators.
abbrev pub own_sd : List SchemaRecord → Option SidValue → ℕ → Option Sd → Sd
own_sd schema domain class (Some sd) = sd
own_sd schema domain class None = chosen None (default_of schema domain class) administrators administrators

-- ---- the root

-- the domain's identifier is the root's
abbrev pub domain_of : List SchemaRecord → List Draft → Option SidValue
domain_of schema [] = None
domain_of schema (root ∷ drafts) = draft_sid schema root

abbrev pub root_rdns : List Draft → List Rdn
root_rdns [] = []
root_rdns (root ∷ drafts) = root.rdns

-- ---- objects

unfoldable pub object_of : List SchemaRecord → List Draft → Option SidValue → ℕ → Draft → Result Object LoadFault
object_of schema drafts domain number draft = do
  values ← all_stored schema drafts draft.given
  Ok (record {
    number = number;
    parent = draft.parent;
    class = draft.class;
    name = naming_value draft.rdns;
    values = values;
    sd = own_sd schema domain draft.class draft.sd;
  })

-- the objects so far, and that of one draft more; all drafts are there to be named by links
unfoldable pub with_object : List SchemaRecord → List Draft → Option SidValue → List Object → Draft
    → Result (List Object) LoadFault
with_object schema drafts domain objects draft = object_of schema drafts domain (length objects + 1) draft >>= λ o.
    Ok (objects ++ o ∷ [])

unfoldable pub objects_of : List SchemaRecord → List Draft → Result (List Object) LoadFault
objects_of schema drafts = through (with_object schema drafts (domain_of schema drafts)) [] drafts

-- ---- the counters

-- the number, where the identifier is the domain's and this number more
abbrev pub rid_if : SidValue → SidValue → ℕ → Option ℕ
rid_if domain sid number = if is_sid sid (child_of domain number) then Some number else None

-- the last number of an identifier that is the domain's and one number more
unfoldable pub rid_of : SidValue → SidValue → Option ℕ
rid_of domain sid = option_and_then (rid_if domain sid) (last_of sid.sub_authorities)

abbrev pub above : ℕ → Option ℕ → ℕ
above n None = n
above n (Some rid) = if nat_lt rid n then n else rid + 1

-- a number above all of these, and no smaller than the first
unfoldable pub above_all : List SchemaRecord → SidValue → ℕ → List Draft → ℕ
above_all schema domain n [] = n
above_all schema domain n (draft ∷ drafts) = above_all schema domain
    (above n (option_and_then (rid_of domain) (draft_sid schema draft))) drafts

-- the last number of the first identifier that a domain gives
abbrev pub first_rid : ℕ
first_rid = 1000

unfoldable pub next_rid : List SchemaRecord → Option SidValue → List Draft → ℕ
next_rid schema None drafts = first_rid
next_rid schema (Some domain) drafts = above_all schema domain first_rid drafts

-- ---- the directory, before its descriptors are computed

unfoldable pub meta_of : List SchemaRecord → List Draft → Meta
meta_of schema drafts = record {
  next_number = length drafts + 1;
  next_rid = next_rid schema (domain_of schema drafts) drafts;
  suffix = drop 1 (root_rdns drafts);
}

-- with these objects
abbrev pub directory_with : List SchemaRecord → List Draft → List Object → Directory
directory_with schema drafts objects = record {
  schema = schema;
  objects = objects;
  pending = [];
  meta
      = meta_of schema drafts;
}

unfoldable pub unsettled : List SchemaRecord → List Draft → Result Directory LoadFault
unsettled schema drafts = do
  objects ← objects_of schema drafts
  Ok (directory_with schema drafts objects)

-- ---- limits and default texts

-- the number of parents above an object is how many parts its name has more than the root's
abbrev pub is_shallow : List Draft → Draft → Bool
is_shallow drafts draft = nat_le (length draft.rdns) (length (root_rdns drafts) + max_depth)

-- the depth is judged by the drafts' names, and the numbers by the counters
unfoldable pub is_within_limits : List Draft → Directory → Bool
is_within_limits drafts dir =
    nat_le (length dir.objects) max_objects && list_all (is_shallow drafts) drafts && nat_le (weight dir) max_weight
    && nat_le dir.meta.next_number max_counter && nat_le dir.meta.next_rid max_counter
    && nat_le (length (rdns_text dir.meta.suffix)) max_text

-- the default text of a class can be read
unfoldable pub with_default : Option SidValue → Unit {0} → ClassInfo → Result (Unit {0}) LoadFault
with_default domain _ info = need (default_reads domain info) (of_all (cause.SchemaDefault info.name))

unfoldable pub all_defaults : List SchemaRecord → Option SidValue → Result (Unit {0}) LoadFault
all_defaults schema domain = through (with_default domain) tt (classes_of schema)

unfoldable pub linked : List SchemaRecord → List Draft → Result Directory LoadFault
linked schema drafts = do
  dir ← unsettled schema drafts
  _ ← need (is_within_limits drafts dir) (of_all cause.Limit)
  _ ← all_defaults schema (domain_of schema drafts)
  Ok dir
