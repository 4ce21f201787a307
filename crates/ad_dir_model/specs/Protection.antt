-- Protected objects, and the run that gives them the descriptor of AdminSDHolder ([MS-ADTS] 3.1.1.6.1).
use Rattle.std.specs.Prelude.{◌≡◌, ◌⊎◌, ℕ, zero, suc, Bool, true, false, not, ◌==◌, ◌&&◌, ◌||◌, if◌then◌else◌}
use Rattle.std.specs.Prelude.{bit_and, pos, negsuc, Option, Some, None, codes, List, [], ◌∷◌, length, map}
use Rattle.std.specs.Prelude.{filter, Result, Ok, Err}
use Rattle.std.specs.Option.{option_map_or, option_and_then}
use Rattle.std.specs.List.{list_any}
use Rattle.std.specs.Str.{bytes_eq}
use Rattle.ad_ids.specs.SidValue.{SidValue}
use Rattle.ad_acl.specs.Entry.{Entry}
use Rattle.ad_sd.specs.declared.parts.AceList.{AceList}
use Rattle.ad_sd.specs.declared.parts.Sd.{Sd}
use Rattle.ad_value.specs.Value.{Value, same_key}
use Rattle.ad_value.specs.declared.value.Key.{Key}
use Rattle.ad_value.specs.declared.value.Key.TheVariants as key
use Rattle.ad_value.specs.declared.fault.ValueFault.{ValueFault}
use Rattle.ad_value.specs.ValueOf.{normal_or_fault}
use Rattle.ad_schema.specs.declared.line.SchemaRecord.{SchemaRecord}
use Rattle.ad_dir_model.specs.Object.{Stored, plain, link, Object, stored_in, names}
use Rattle.ad_dir_model.specs.Objects.{object_at, sd_at, is_live}
use Rattle.ad_schema.specs.Meaning.{attr_is_link, attr_is_back_link}
use Rattle.ad_dir_model.specs.Attributes.{attr_place, syntax_at, member, primary_group}
use Rattle.ad_dir_model.specs.Identity.{first_of_attr, sid_in, is_sid, self_sid, domain_child}
use Rattle.ad_dir_model.specs.Directory.{Directory}
use Rattle.ad_dir_model.specs.Names.{admin_sd_holder}
use Rattle.ad_dir_model.specs.Settings.{takes_out}
use Rattle.ad_dir_model.specs.SameSd.{same_sd}
use Rattle.ad_dir_model.specs.Inheritance.{stored}
use Rattle.ad_dir_model.specs.Changes.{with_values}

-- ---- a frozen descriptor

-- all flags but that of inherited entries
abbrev pub not_inherited : ℕ
not_inherited = 0xcf

abbrev pub frozen_entry : Entry → Entry
frozen_entry entry = record entry { flags = bit_and entry.flags not_inherited }

abbrev pub frozen_list : AceList → AceList
frozen_list list = record { protected = true; entries = map frozen_entry list.entries }

-- The flag of inherited entries is cleared on all entries, and both lists are protected.
unfoldable pub frozen : Sd → Sd
frozen sd = record {
  owner = sd.owner;
  group = sd.group;
  dacl = frozen_list sd.dacl;
  sacl = frozen_list sd.sacl;
}

-- ---- where protection begins

-- S-1-5-32 with one more number
abbrev pub builtin : ℕ → SidValue
builtin number = record { authority = 5; sub_authorities = 32 ∷ number ∷ [] }

abbrev pub is_builtin : Option SidValue → ℕ → Bool
is_builtin sid number = is_sid (builtin number) sid

-- the identifier is the domain's with this number
abbrev pub is_of_domain : Directory → Option SidValue → ℕ → Bool
is_of_domain dir sid rid = option_map_or (λ own. is_sid own sid) (domain_child dir rid) false

-- Administrators, Replicator, and of the domain Domain Admins, Schema Admins and Enterprise Admins. Account
-- Operators, Server Operators, Print Operators and Backup Operators, unless the settings take them out.
unfoldable pub begins_protection : Directory → Option SidValue → Bool
begins_protection dir sid =
    is_builtin sid 544 || (is_builtin sid 552
    || ((is_builtin sid 548 && not (takes_out dir 0)) || ((is_builtin sid 549 && not (takes_out dir 1))
    || ((is_builtin sid 550 && not (takes_out dir 2)) || ((is_builtin sid 551 && not (takes_out dir 3))
    || (is_of_domain dir sid 512 || (is_of_domain dir sid 518 || is_of_domain dir sid 519)))))))

-- Accounts of the domain that are protected and spread nothing: Administrator, krbtgt, Domain Controllers and
-- Read-only Domain Controllers.
unfoldable pub is_protected_alone : Directory → Option SidValue → Bool
is_protected_alone dir sid = is_of_domain dir sid 500
    || (is_of_domain dir sid 502 || (is_of_domain dir sid 516 || is_of_domain dir sid 521))

-- ---- how it spreads

-- the group's member names the object
abbrev pub has_as_member : Directory → Object → ℕ → Bool
has_as_member dir group number = option_map_or (λ attr. names number (stored_in group.values attr))
    (member dir.schema) false

-- the number that a value is, where it isn't negative
abbrev pub number_in : Key → Option ℕ
number_in (key.Number (pos n)) = Some n
number_in (key.Number (negsuc n)) = None
number_in (key.Bytes bytes) = None

-- the primary group of an object: the domain's identifier with its primaryGroupID
unfoldable pub primary_group_sid : Directory → Object → Option SidValue
primary_group_sid dir o = option_and_then (λ value. option_and_then (domain_child dir) (number_in value.key))
    (first_of_attr (primary_group dir.schema) o)

abbrev pub has_as_primary : Directory → Object → Object → Bool
has_as_primary dir o group = option_map_or (λ own. is_sid own (sid_in dir.schema group)) (primary_group_sid dir o) false

-- the object has the group: by the group's member, or by its own primaryGroupID
unfoldable pub has_group : Directory → Object → Object → Bool
has_group dir o group = has_as_member dir group o.number || has_as_primary dir o group

-- ---- the least set

abbrev pub has : List ℕ → ℕ → Bool
has set number = list_any (λ other. other == number) set

-- The set has where protection begins, and with each of its objects all that have it as group.
pub record IsClosed (dir : Directory) (set : List ℕ) : Type 0 where
  pub begins : (number : ℕ) → is_live dir.objects number ≡ true → begins_protection dir (self_sid dir number) ≡ true
      → has set number ≡ true
  pub spreads : (number group : ℕ) → is_live dir.objects number ≡ true → is_live dir.objects group ≡ true
      → has set group ≡ true
      → has_group dir (object_at dir.objects number) (object_at dir.objects group) ≡ true → has set number ≡ true

-- the object is in every such set, and so in the least
abbrev pub IsReachedBySpread : Directory → ℕ → Type 0
IsReachedBySpread dir number = (set : List ℕ) → IsClosed dir set → has set number ≡ true

-- A live object is protected where protection spreads to it, or where it is protected alone.
pub record IsProtected (dir : Directory) (number : ℕ) : Type 0 where
  pub live : is_live dir.objects number ≡ true
  pub reason : IsReachedBySpread dir number ⊎ (is_protected_alone dir (self_sid dir number) ≡ true)

-- ---- the same as a list, by growing where protection begins as often as there are objects

abbrev pub numbers_where : (Object → Bool) → List Object → List ℕ
numbers_where test objects = map (λ o. o.number) (filter test objects)

abbrev pub joins : Directory → List ℕ → Object → Bool
joins dir set o = has set o.number || list_any (λ group. has set group.number && has_group dir o group) dir.objects

unfoldable pub grown : Directory → ℕ → List ℕ → List ℕ
grown dir zero set = set
grown dir (suc n) set = grown dir n (numbers_where (joins dir set) dir.objects)

unfoldable pub spread : Directory → List ℕ
spread dir = grown dir (length dir.objects)
    (numbers_where (λ o. begins_protection dir (sid_in dir.schema o)) dir.objects)

-- the protected objects by rising number
unfoldable pub protected : Directory → List ℕ
protected dir = numbers_where (λ o. has (spread dir) o.number || is_protected_alone dir (sid_in dir.schema o))
    dir.objects

-- ---- adminCount

-- an attribute and the one value that is written
pub record Mark : Type 0 where
  pub attr : ℕ
  pub value : Value

abbrev pub mark_of : ℕ → Result Value ValueFault → Option Mark
mark_of attr (Ok value) = Some (record { attr = attr; value = value })
mark_of attr (Err fault) = None

-- adminCount with the value 1, where the schema has it as no link and no back link and its syntax reads 1
unfoldable pub admin_count : List SchemaRecord → Option Mark
admin_count schema =
    option_and_then (λ attr. if attr_is_link schema attr || attr_is_back_link schema attr then None
    else mark_of attr (normal_or_fault (syntax_at schema attr) (codes "1"))) (attr_place schema
    (codes "adminCount"))

abbrev pub is_value : Value → Stored → Bool
is_value value (plain other) = bytes_eq other.shown value.shown && same_key other.key value.key
is_value value (link number) = false

-- the one value is this
abbrev pub is_one_value : Value → List Stored → Bool
is_one_value value [] = false
is_one_value value (stored ∷ []) = is_value value stored
is_one_value value (stored ∷ other ∷ others) = false

abbrev pub has_mark : Option Mark → Object → Bool
has_mark None o = true
has_mark (Some mark) o = is_one_value mark.value (stored_in o.values mark.attr)

abbrev pub with_mark : Option Mark → Object → Object
with_mark None o = o
with_mark (Some mark) o = record o { values = with_values mark.attr (plain mark.value ∷ []) o.values }

-- ---- the run

-- the object with the descriptor, and with adminCount where it doesn't have it so
unfoldable pub protected_object : Directory → Sd → Object → Object
protected_object dir sd o = record (if has_mark (admin_count dir.schema) o then o
    else with_mark (admin_count dir.schema) o) { sd = sd }

-- the objects of the list get the descriptor one after the other, and each is marked where its own changed
unfoldable pub all_protected : Sd → List ℕ → Directory → Directory
all_protected sd [] dir = dir
all_protected sd (number ∷ others) dir = all_protected sd others
    (stored dir (protected_object dir sd (object_at dir.objects number)))

-- the object changes: its descriptor or its adminCount
abbrev pub changes : Directory → Sd → ℕ → Bool
changes dir sd number = not (same_sd (sd_at dir.objects number) sd && has_mark (admin_count dir.schema)
    (object_at dir.objects number))

-- the directory after a run, how many objects changed, and how many are protected
pub record Run : Type 0 where
  pub directory : Directory
  pub changed : ℕ
  pub protected : ℕ

abbrev pub run_from : Directory → Option ℕ → Run
run_from dir None = record { directory = dir; changed = 0; protected = 0 }
run_from dir (Some holder) =
    let sd = frozen (sd_at dir.objects holder) in
    record {
      directory = all_protected sd (protected dir) dir;
      changed = length (filter (changes dir sd) (protected dir));
      protected = length (protected dir);
    }

-- Each protected object gets the descriptor that AdminSDHolder had before, frozen, and adminCount 1. Those whose
-- descriptor changed are marked by rising number. Without AdminSDHolder the run does nothing.
unfoldable pub protection_run : Directory → Run
protection_run dir = run_from dir (admin_sd_holder dir)
