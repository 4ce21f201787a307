-- What a search tried: of each of its entries the rights by which it has what it has.
use Rattle.std.specs.Prelude.{◌≡◌, ℕ, suc, ◌+◌, ◌^◌, Bool, not, ◌&&◌, ◌||◌, ◌==◌, if◌then◌else◌, is_some, Option, Some}
use Rattle.std.specs.Prelude.{None, List, [], ◌∷◌, ◌++◌, length, filter}
use Rattle.std.specs.List.{flat_map}
use Rattle.ad_ids.specs.declared.token.Token.{Token}
use Rattle.ad_acl.specs.Mask.{read_property, read_control, access_system_security}
use Rattle.ad_acl.specs.Entry.{says}
use Rattle.ad_dn.specs.declared.rdn.Dn.{Dn}
use Rattle.ad_dn.specs.Reading.{dn_of}
use Rattle.ad_schema.specs.declared.info.AttrInfo.{AttrInfo}
use Rattle.ad_schema.specs.Attributes.{attrs_of}
use Rattle.ad_types.specs.TypesOf.{path_of}
use Rattle.ad_ldap.specs.Choices.{owner_part, group_part, dacl_part, sacl_part}
use Rattle.ad_ldap.specs.MessageValue.{SearchValue}
use Rattle.ad_dir_model.specs.Objects.{numbers, object_at}
use Rattle.ad_dir_model.specs.Shown.{shown}
use Rattle.ad_dir_model.specs.Directory.{Directory}
use Rattle.ad_access_dir.specs.Sight.{is_visible}
use Rattle.ad_types.specs.Tried.{TriedValue, success_on}
use Rattle.ad_entries.specs.Seen.{seen_of, is_readable, parts_read, view}
use Rattle.ad_search.specs.Scope.{is_there}
use Rattle.ad_entries.specs.Entry.{is_asked, descriptor_given, is_left_out, entry_of}
use Rattle.ad_search.specs.Search.{done, stop_code, is_found}

-- ---- one entry

-- the right to read the attribute at a place of an object
abbrev pub read_on : Directory → ℕ → ℕ → TriedValue
read_on dir number place =
    success_on number (2 ^ read_property) (path_of dir.schema (record { 0 = (object_at dir.objects number).class })
    (record { 0 = place }))

-- the entry has the attribute: it is asked for, may be read and has a value
abbrev pub has_attr : Directory → Token → ℕ → SearchValue → ℕ → AttrInfo → Bool
has_attr dir token number search place info =
    is_asked search.attrs info.name && is_readable dir token number place info
    && not (length (shown dir number place) == 0)

-- of each attribute that the entry has the right to read it, be it confidential or not, in the order of the schema
unfoldable pub attr_reads : Directory → Token → ℕ → SearchValue → ℕ → List AttrInfo → List TriedValue
attr_reads dir token number search place [] = []
attr_reads dir token number search place (info ∷ infos) =
    (if has_attr dir token number search place info then read_on dir number place ∷ [] else [])
    ++ attr_reads dir token number search (suc place) infos

-- owner, group and discretionary list are read with read control, the system list with the right for it
unfoldable pub part_reads : ℕ → ℕ → List TriedValue
part_reads number flags =
    (if says flags (2 ^ owner_part) || (says flags (2 ^ group_part) || says flags (2 ^ dacl_part))
    then success_on number (2 ^ read_control) [] ∷ [] else [])
    ++ (if says flags (2 ^ sacl_part) then success_on number (2 ^ access_system_security) [] ∷ [] else [])

-- the entry has the descriptor
abbrev pub has_descriptor : Directory → Token → ℕ → SearchValue → ℕ → Bool
has_descriptor dir token number search flags =
    let descriptor = descriptor_given search flags (parts_read dir token number) in
    is_some descriptor && not (is_left_out descriptor)

unfoldable pub descriptor_reads : Directory → Token → ℕ → SearchValue → ℕ → List TriedValue
descriptor_reads dir token number search flags = if has_descriptor dir token number search flags
    then part_reads number flags else []

unfoldable pub entry_reads : Directory → Token → SearchValue → ℕ → ℕ → List TriedValue
entry_reads dir token search flags number =
    attr_reads dir token number search 0 (attrs_of dir.schema) ++ descriptor_reads dir token number search flags

-- ---- the entries

-- those of these objects that are visible and found
unfoldable pub found_among : Directory → Token → SearchValue → Dn → List ℕ → List ℕ
found_among dir token search base objects =
    filter (λ number. is_visible dir token number && is_found dir.schema search base (seen_of dir token number)) objects

-- the bytes of the message of an object's entry
abbrev pub long : Directory → Token → ℕ → SearchValue → ℕ → ℕ → ℕ
long dir token id search flags number = length (entry_of dir.schema id search flags (seen_of dir token number)).message

abbrev pub unless_stops : Option ℕ → List ℕ → List ℕ
unless_stops None numbers = numbers
unless_stops (Some code) numbers = []

-- Those of the objects that have an entry in the answer, where so many were given before with so many bytes: all
-- before the one with which the search ends.
unfoldable pub given_from : Directory → Token → ℕ → SearchValue → ℕ → ℕ → ℕ → List ℕ → List ℕ
given_from dir token id search flags given joined [] = []
given_from dir token id search flags given joined (number ∷ others) =
    unless_stops (stop_code search.size given joined (long dir token id search flags number))
    (number ∷ given_from dir token id search flags (suc given) (joined + long dir token id search flags number) others)

-- the objects that have an entry in the answer
abbrev pub numbers_given : Directory → Token → ℕ → SearchValue → ℕ → Dn → List ℕ
numbers_given dir token id search flags base = given_from dir token id search flags 0 0
    (found_among dir token search base (numbers dir.objects))

-- of each entry in turn
abbrev pub reads_in : Directory → Token → ℕ → SearchValue → ℕ → Dn → List TriedValue
reads_in dir token id search flags base = flat_map (entry_reads dir token search flags)
    (numbers_given dir token id search flags base)

-- nothing where the base can't be read or no object has its name that is seen
abbrev pub reads_at : Directory → Token → ℕ → SearchValue → ℕ → Option Dn → List TriedValue
reads_at dir token id search flags None = []
reads_at dir token id search flags (Some base) = if is_there (view dir token) base.rdns then reads_in dir token id
    search flags base else []

-- What the search tried.
unfoldable pub reads_of : Directory → Token → ℕ → SearchValue → ℕ → List TriedValue
reads_of dir token id search flags = reads_at dir token id search flags (dn_of search.base)

-- The answer is the messages of the entries of these objects in their order, and the one at the end.
pub record HasEntries (dir : Directory) (token : Token) (id : ℕ) (search : SearchValue) (flags : ℕ) (objects : List ℕ)
    (answer : List ℕ) : Type 0 where
  pub code : ℕ
  pub is : answer ≡ flat_map (λ number. (entry_of dir.schema id search flags (seen_of dir token number)).message)
      objects ++ done id code []
