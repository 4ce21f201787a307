-- How a text in lower case is read: from left to right, at each place the longest thing that may stand there. The
-- fault is that of the next place.
use Rattle.std.specs.Prelude.{ℕ, zero, suc, ◌+◌, ◌-◌, ◌*◌, ◌==◌, ◌||◌, not, Bool, true, false, bit_or}
use Rattle.std.specs.Prelude.{if◌then◌else◌, Option, Some, None, List, [], ◌∷◌, length, take, drop, codes}
use Rattle.std.specs.Prelude.{Result, Ok, Err}
use Rattle.std.specs.Option.{is_some}
use Rattle.std.specs.Str.{str_to_ascii_lowercase}
use Rattle.uuid.specs.Text.{is_hex_digit, value_of, hex_digit_value}
use Rattle.ad_bytes.specs.Reading.{Reading, ◌>>=◌, need, or_fault, fault_as}
use Rattle.ad_bytes.specs.Numbers.{byte_at}
use Rattle.ad_ids.specs.declared.guid.Guid.{Guid}
use Rattle.ad_ids.specs.GuidText.{guid_of_text}
use Rattle.ad_ids.specs.SidValue.{SidValue}
use Rattle.ad_ids.specs.SidFront.{longest_front}
use Rattle.ad_acl.specs.declared.kind.AceKind.{AceKind}
use Rattle.ad_acl.specs.declared.kind.AceKind.TheVariants.{Allow, Deny, Audit}
use Rattle.ad_acl.specs.Entry.{Entry}
use Rattle.ad_sd.specs.declared.parts.AceList.{AceList}
use Rattle.ad_sd.specs.declared.parts.SdParts.{SdParts}
use Rattle.ad_sddl.specs.declared.fault.SddlKind.{SddlKind}
use Rattle.ad_sddl.specs.declared.fault.SddlKind.TheVariants as kind
use Rattle.ad_sddl.specs.declared.fault.SddlFault.{SddlFault}
use Rattle.ad_sddl.specs.declared.fault.SddlFault.TheVariants as fault
use Rattle.ad_sddl.specs.declared.fault.ParseError.{ParseError}
use Rattle.ad_sddl.specs.declared.fault.ParseError.TheVariants.{Bad, Memory}
use Rattle.ad_acl.specs.declared.codes.Code.{Code}
use Rattle.ad_sddl.specs.declared.entry.Shape.{Shape}
use Rattle.ad_sddl.specs.Words.{begins, find, find_alias, alias_codes, meant_by}
use Rattle.ad_acl.specs.Codes.{flag_codes, right_codes}
use Rattle.ad_sddl.specs.Grammar.{no_parts}

-- a fault at the beginning of these bytes, which are those up to the end
abbrev pub stop : SddlKind → List ℕ → ParseError
stop kind bytes = Bad kind (length bytes)

-- what has to be there
abbrev pub or_stop : {A : Type 0} → SddlKind → List ℕ → Option A → Result A ParseError
or_stop kind bytes None = Err (stop kind bytes)
or_stop kind bytes (Some x) = Ok x

-- the character that has to end a field
unfoldable pub end_at : ℕ → List ℕ → Reading (Unit {0}) ParseError
end_at end bytes = do
  byte ← or_fault (stop kind.Shape bytes) (byte_at bytes)
  _ ← need (byte.0 == end) (stop kind.Shape bytes)
  Ok (tt, byte.1)

-- ---- the fields of an entry, each with the character that ends it

-- the bits of a code
unfoldable pub code_at : List Code → SddlKind → List ℕ → Reading ℕ ParseError
code_at table kind bytes = do
  first ← or_fault (stop kind bytes) (byte_at bytes)
  second ← or_fault (stop kind bytes) (byte_at first.1)
  code ← or_stop kind bytes (find table first.0 second.0)
  Ok (code.bits, second.1)

-- codes up to a semicolon, which add their bits to the mask; n is no smaller than the number of bytes
unfoldable pub codes_at : List Code → SddlKind → ℕ → ℕ → List ℕ → Reading ℕ ParseError
codes_at table kind zero mask bytes = Err (stop kind bytes)
codes_at table kind (suc n) mask bytes =
    if begins (codes ";") bytes then Ok (mask, drop 1 bytes)
    else (code_at table kind bytes >>= λ bits. codes_at table kind n (bit_or mask bits.0) bits.1)

-- all of them
abbrev pub field_at : List Code → SddlKind → List ℕ → Reading ℕ ParseError
field_at table kind bytes = codes_at table kind (suc (length bytes)) 0 bytes

-- as many hexadecimal digits as there are, up to so many, and the bytes after them
unfoldable pub digits_at : ℕ → ℕ → List ℕ → ℕ × List ℕ
digits_at zero n bytes = (n, bytes)
digits_at (suc room) n [] = (n, [])
digits_at (suc room) n (b ∷ bytes) = if is_hex_digit b then digits_at room (n * 16 + value_of b) bytes
    else (n, b ∷ bytes)

-- the value of the digit at the beginning
abbrev pub digit_here : List ℕ → Option ℕ
digit_here [] = None
digit_here (b ∷ bytes) = hex_digit_value b

-- 0x and 1 to 8 digits
unfoldable pub hex_at : List ℕ → Reading ℕ ParseError
hex_at bytes = do
  _ ← or_stop kind.Rights bytes (digit_here (drop 2 bytes))
  end ← end_at 59 (digits_at 8 0 (drop 2 bytes)).1
  Ok ((digits_at 8 0 (drop 2 bytes)).0, end.1)

abbrev pub rights_at : List ℕ → Reading ℕ ParseError
rights_at bytes = if begins (codes "0x") bytes then hex_at bytes else field_at right_codes kind.Rights bytes

-- 36 characters
unfoldable pub present_guid_at : List ℕ → Reading (Option Guid) ParseError
present_guid_at bytes = do
  guid ← or_stop kind.Guid bytes (guid_of_text (take 36 bytes))
  end ← end_at 59 (drop 36 bytes)
  Ok (Some guid, end.1)

-- a field that is empty, or has a GUID where the type has some
unfoldable pub guid_at : Bool → List ℕ → Reading (Option Guid) ParseError
guid_at is_object bytes =
    if begins (codes ";") bytes then Ok (None, drop 1 bytes)
    else (if is_object then present_guid_at bytes else Err (stop kind.Guid bytes))

unfoldable pub alias_at : Option SidValue → List ℕ → Reading SidValue ParseError
alias_at domain bytes = do
  first ← or_fault (stop kind.Sid bytes) (byte_at bytes)
  second ← or_fault (stop kind.Sid bytes) (byte_at first.1)
  alias ← or_stop kind.Sid bytes (find_alias alias_codes first.0 second.0)
  sid ← or_stop kind.Domain bytes (meant_by domain alias.base alias.number)
  Ok (sid, second.1)

abbrev pub or_else : {A : Type 0} → Result A ParseError → Option A → Result A ParseError
or_else otherwise None = otherwise
or_else otherwise (Some x) = Ok x

-- the longest numeric identifier, else an alias
unfoldable pub sid_at : Option SidValue → List ℕ → Reading SidValue ParseError
sid_at domain bytes = or_else (alias_at domain bytes) (longest_front bytes)

-- ---- entries

abbrev pub shape : AceKind → Bool → Shape
shape kind is_object = record { kind = kind; is_object = is_object }

-- the longest of the six types
unfoldable pub type_at : List ℕ → Reading Shape ParseError
type_at bytes =
    if begins (codes "au") bytes then Ok (shape Audit false, drop 2 bytes)
    else if begins (codes "oa") bytes then Ok (shape Allow true, drop 2 bytes)
    else if begins (codes "od") bytes then Ok (shape Deny true, drop 2 bytes)
    else if begins (codes "ou") bytes then Ok (shape Audit true, drop 2 bytes)
    else if begins (codes "a") bytes then Ok (shape Allow false, drop 1 bytes)
    else if begins (codes "d") bytes then Ok (shape Deny false, drop 1 bytes)
    else Err (stop kind.AceKind bytes)

-- an entry after its (
unfoldable pub entry_at : Option SidValue → List ℕ → Reading Entry ParseError
entry_at domain bytes = do
  type ← type_at bytes
  end ← end_at 59 type.1
  flags ← field_at flag_codes kind.Flag end.1
  rights ← rights_at flags.1
  object ← guid_at type.0.is_object rights.1
  inherited ← guid_at type.0.is_object object.1
  sid ← sid_at domain inherited.1
  close ← end_at 41 sid.1
  Ok (
    record {
      kind = type.0.kind;
      flags = flags.0;
      mask = rights.0;
      object = object.0;
      inherited = inherited.0;
      sid
          = sid.0;
    },
    close.1,
  )

-- entries, as long as one begins; n is no smaller than the number of bytes
unfoldable pub entries_at : Option SidValue → ℕ → List ℕ → Reading (List Entry) ParseError
entries_at domain zero bytes = Ok ([], bytes)
entries_at domain (suc n) bytes =
    if begins (codes "(") bytes then (entry_at domain (drop 1 bytes) >>= λ first. entries_at domain n first.1
    >>= λ others. Ok (first.0 ∷ others.0, others.1))
    else Ok ([], bytes)

-- all of them
abbrev pub all_entries : Option SidValue → List ℕ → Reading (List Entry) ParseError
all_entries domain bytes = entries_at domain (length bytes) bytes

-- ---- lists

-- a flag of a list, which is P or another one
unfoldable pub list_flag_at : List ℕ → Option (Bool × List ℕ)
list_flag_at bytes =
    if begins (codes "p") bytes then Some (true, drop 1 bytes)
    else if begins (codes "ar") bytes || begins (codes "ai") bytes then Some (false, drop 2 bytes)
    else None

abbrev pub if_given : {A B : Type 0} → B → (A → B) → Option A → B
if_given otherwise f None = otherwise
if_given otherwise f (Some x) = f x

-- the flags of a list, as long as there are any: whether P is among them, or was before; n is no smaller than the
-- number of bytes
unfoldable pub list_flags_at : ℕ → Bool → List ℕ → Bool × List ℕ
list_flags_at zero protected bytes = (protected, bytes)
list_flags_at (suc n) protected bytes = if_given (protected, bytes)
    (λ flag. list_flags_at n (protected || flag.0) flag.1) (list_flag_at bytes)

abbrev pub all_flags : List ℕ → Bool × List ℕ
all_flags bytes = list_flags_at (length bytes) false bytes

unfoldable pub list_at : Option SidValue → List ℕ → Reading AceList ParseError
list_at domain bytes = do
  entries ← all_entries domain (all_flags bytes).1
  Ok (record { protected = (all_flags bytes).0; entries = entries.0 }, entries.1)

-- ---- the descriptor

-- A part after its letter and colon: that it isn't there yet, and what it is. The fault of its letter is before
-- these.
unfoldable pub once_at : {A : Type 0} → (List ℕ → Reading A ParseError) → Bool → List ℕ → Reading A ParseError
once_at read is_there bytes = do
  _ ← need (not is_there) (stop kind.Repeated bytes)
  read (drop 2 bytes)

-- the parts with what was read
abbrev pub with_part : {A : Type 0} → (A → SdParts) → Reading A ParseError → Reading SdParts ParseError
with_part put read = read >>= λ found. Ok (put found.0, found.1)

-- the parts with the next one
unfoldable pub part_at : Option SidValue → SdParts → List ℕ → Reading SdParts ParseError
part_at domain parts bytes =
    if begins (codes "o:") bytes then with_part (λ sid. record parts { owner = Some sid })
    (once_at (sid_at domain) (is_some parts.owner) bytes)
    else if begins (codes "g:") bytes then with_part (λ sid. record parts { group = Some sid })
    (once_at (sid_at domain) (is_some parts.group) bytes)
    else if begins (codes "d:") bytes then with_part (λ list. record parts { dacl = Some list })
    (once_at (list_at domain) (is_some parts.dacl) bytes)
    else if begins (codes "s:") bytes then with_part (λ list. record parts { sacl = Some list })
    (once_at (list_at domain) (is_some parts.sacl) bytes)
    else Err (stop kind.Part bytes)

-- one part, and others up to the end; n is no smaller than the number of bytes after the first
unfoldable pub rest_at : Option SidValue → ℕ → SdParts → List ℕ → Result SdParts ParseError
rest_at domain zero parts bytes = Err (stop kind.Part bytes)
rest_at domain (suc n) parts bytes = part_at domain parts bytes >>= λ next. if length next.1 == 0 then Ok next.0
    else rest_at domain n next.0 next.1

abbrev pub parts_at : Option SidValue → SdParts → List ℕ → Result SdParts ParseError
parts_at domain parts bytes = rest_at domain (suc (length bytes)) parts bytes

-- the parts of a whole text
abbrev pub parts_of : Option SidValue → List ℕ → Result SdParts ParseError
parts_of domain bytes = parts_at domain no_parts bytes

-- the fault at its place, in a text of so many bytes
abbrev pub located : ℕ → ParseError → SddlFault
located total (Bad kind left) = fault.Bad (total - left) kind
located total Memory = fault.Memory

abbrev pub is_out_of_memory : SddlFault → Bool
is_out_of_memory (fault.Bad place kind) = false
is_out_of_memory fault.Memory = true

-- what a text in either case is read as
unfoldable pub read_of : Option SidValue → List ℕ → Result SdParts SddlFault
read_of domain text = fault_as (located (length text)) (parts_of domain (str_to_ascii_lowercase text))
