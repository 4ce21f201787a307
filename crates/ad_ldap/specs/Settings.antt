-- What the controls of a message ask for, and which of them is faulty.
use Rattle.std.specs.Prelude.{ℕ, ◌-◌, ◌%◌, ◌==◌, ◌&&◌, nat_eq, nat_lt, nat_le, Bool, true, false, List, [], ◌∷◌}
use Rattle.std.specs.Prelude.{◌++◌, length, slice_index, Option, None, Some, is_some, Result, Ok, Err, codes}
use Rattle.std.specs.Prelude.{if◌then◌else◌}
use Rattle.std.specs.List.{list_any}
use Rattle.std.specs.Str.{bytes_eq}
use Rattle.ad_bytes.specs.Reading.{Reading}
use Rattle.ad_ber.specs.declared.fault.BerFault.{BerFault}
use Rattle.ad_ber.specs.declared.finding.Tagged.{Tagged}
use Rattle.ad_ber.specs.Reading.{element_at}
use Rattle.ad_ldap.specs.declared.controls.Control.{Control}
use Rattle.ad_ldap.specs.declared.controls.Settings.{Settings}
use Rattle.ad_ldap.specs.declared.controls.Role.{Role}
use Rattle.ad_ldap.specs.declared.controls.Role.TheVariants as role
use Rattle.ad_ldap.specs.MessageValue.{OpValue, SearchOf, ModifyOf, AddOf, DeleteOf, MessageValue}
use Rattle.ad_ldap.specs.Tags.{integer, sequence}
use Rattle.ad_ldap.specs.ResultCodes.{protocol_error, unavailable_critical_extension}
use Rattle.ad_ldap.specs.Choices.{all_parts}

-- ---- the two controls that are known

abbrev pub sd_flags : List ℕ
sd_flags = codes "1.2.840.113556.1.4.801"

abbrev pub tree_delete : List ℕ
tree_delete = codes "1.2.840.113556.1.4.805"

-- flags of a descriptor apply to what reads or writes one
abbrev pub has_sd_flags : OpValue → Bool
has_sd_flags (SearchOf s) = true
has_sd_flags (ModifyOf m) = true
has_sd_flags (AddOf a) = true
has_sd_flags _ = false

abbrev pub has_tree_delete : OpValue → Bool
has_tree_delete (DeleteOf dn) = true
has_tree_delete _ = false

-- what a control with this identifier is to an operation
abbrev pub role_of : OpValue → List ℕ → Role
role_of op oid =
    if bytes_eq oid sd_flags then (if has_sd_flags op then role.SdFlags else role.Other)
    else if bytes_eq oid tree_delete then (if has_tree_delete op then role.TreeDelete else role.Other)
    else role.Other

-- ---- the value of flags

-- the body, where an element with this tag was read and nothing stands after it
abbrev pub if_alone : ℕ → Reading Tagged BerFault → Option (List ℕ)
if_alone tag (Ok e) = if nat_eq e.0.tag tag && length e.1 == 0 then Some e.0.body else None
if_alone tag (Err d) = None

-- the body of the element with this tag, where the bytes are one
abbrev pub alone : ℕ → List ℕ → Option (List ℕ)
alone tag bytes = if_alone tag (element_at bytes)

-- the four low bits of an integer of one to eight bytes, which are those of its last byte
abbrev pub low_bits_of : List ℕ → Option ℕ
low_bits_of digits = if nat_lt 0 (length digits) && nat_le (length digits) 8
    then Some (slice_index digits (length digits - 1) % 16) else None

abbrev pub low_bits_in : Option (List ℕ) → Option ℕ
low_bits_in None = None
low_bits_in (Some digits) = low_bits_of digits

abbrev pub integer_in : Option (List ℕ) → Option (List ℕ)
integer_in None = None
integer_in (Some body) = alone integer body

-- the flags, where the value is a sequence of one integer
abbrev pub flags_of : Option (List ℕ) → Option ℕ
flags_of None = None
flags_of (Some value) = low_bits_in (integer_in (alone sequence value))

-- ---- the first faulty control

-- one of the controls has this identifier
abbrev pub has_control : List Control → List ℕ → Bool
has_control cs oid = list_any (λ c. bytes_eq c.oid oid) cs

-- the code that a control gives by what it is to the operation
abbrev pub fault_by : Role → Control → Option ℕ
fault_by role.SdFlags c = if is_some (flags_of c.value) then None else Some protocol_error
fault_by role.TreeDelete c = None
fault_by role.Other c = if c.critical then Some unavailable_critical_extension else None

-- the code that a control after these gives, if it is faulty
abbrev pub fault_of : OpValue → List Control → Control → Option ℕ
fault_of op earlier c = if has_control earlier c.oid then Some protocol_error else fault_by (role_of op c.oid) c

-- the first code, or else the other
abbrev pub first_of : Option ℕ → Option ℕ → Option ℕ
first_of (Some code) others = Some code
first_of None others = others

-- the code of the first faulty control, after these
abbrev pub first_fault : OpValue → List Control → List Control → Option ℕ
first_fault op earlier [] = None
first_fault op earlier (c ∷ cs) = first_of (fault_of op earlier c) (first_fault op (earlier ++ c ∷ []) cs)

-- ---- what they ask for

-- none of the four bits set means all of them
abbrev pub shown : Option ℕ → ℕ
shown None = all_parts
shown (Some bits) = if nat_eq bits 0 then all_parts else bits

abbrev pub flags_by : Role → Control → ℕ → ℕ
flags_by role.SdFlags c others = shown (flags_of c.value)
flags_by _ c others = others

abbrev pub flags_among : OpValue → List Control → ℕ
flags_among op [] = all_parts
flags_among op (c ∷ cs) = flags_by (role_of op c.oid) c (flags_among op cs)

abbrev pub tree_by : Role → Bool → Bool
tree_by role.TreeDelete others = true
tree_by _ others = others

abbrev pub tree_among : OpValue → List Control → Bool
tree_among op [] = false
tree_among op (c ∷ cs) = tree_by (role_of op c.oid) (tree_among op cs)

abbrev pub settings_by : Option ℕ → Settings → Result Settings ℕ
settings_by (Some code) s = Err code
settings_by None s = Ok s

unfoldable pub settings_of : MessageValue → Result Settings ℕ
settings_of m = settings_by (first_fault m.op [] m.controls)
    (record { sd_flags = flags_among m.op m.controls; tree = tree_among m.op m.controls })
