-- The value that bytes are in a syntax, read off the bytes: what `IsNormal` says, as a function.
use Rattle.std.specs.Prelude.{ℕ, ℤ, pos, negsuc, true, false, ◌^◌, ◌==◌, nat_lt, ◌&&◌, if◌then◌else◌, Bool, List}
use Rattle.std.specs.Prelude.{length, codes, Option, Some, None, Result, Ok, Err, option_map}
use Rattle.std.specs.Option.{option_or, ok_or}
use Rattle.std.specs.List.{list_all}
use Rattle.std.specs.Str.{bytes_eq, is_utf8, str_to_ascii_lowercase}
use Rattle.std.specs.Str.Parse.{signed_digits_value}
use Rattle.std.specs.Fmt.{signed_decimal}
use Rattle.ad_bytes.specs.Reading.{Reading}
use Rattle.ad_ids.specs.declared.sid.SidFault.{SidFault}
use Rattle.ad_ids.specs.SidValue.{SidValue}
use Rattle.ad_ids.specs.Sid.{sid_bytes}
use Rattle.ad_ids.specs.SidReading.{sid_at}
use Rattle.ad_ids.specs.SidFront.{sid_of_text}
use Rattle.ad_dn.specs.Fold.{folded}
use Rattle.ad_dn.specs.NameKey.{name_key}
use Rattle.ad_dn.specs.Reading.{dn_of}
use Rattle.ad_value.specs.declared.syntax.Syntax.{Syntax}
use Rattle.ad_value.specs.declared.syntax.Syntax.TheVariants as syntax
use Rattle.ad_value.specs.declared.value.Key.TheVariants as key
use Rattle.ad_value.specs.Value.{Value, value, as_shown}
use Rattle.ad_value.specs.declared.fault.ValueFault.{ValueFault}
use Rattle.ad_value.specs.declared.fault.ValueFault.TheVariants as fault

-- a number with so many binary digits after its sign; `negsuc n` is one below -n
abbrev pub fits : ℕ → ℤ → Bool
fits digits (pos n) = nat_lt n (2 ^ digits)
fits digits (negsuc n) = nat_lt n (2 ^ digits)

-- the number that the sign and the digits say, where the bytes are what is written for it
unfoldable pub number_of : ℕ → List ℕ → Option ℤ
number_of digits bytes = if fits digits (signed_digits_value 10 bytes)
    && bytes_eq bytes (signed_decimal (signed_digits_value 10 bytes)) then Some (signed_digits_value 10 bytes)
    else None

abbrev pub number_value : ℕ → List ℕ → Option Value
number_value digits bytes = option_map (λ n. value bytes (key.Number n)) (number_of digits bytes)

abbrev pub is_ascii : ℕ → Bool
is_ascii b = nat_lt b 128

abbrev pub ascii_value : List ℕ → Option Value
ascii_value bytes = if list_all is_ascii bytes then Some (value bytes (key.Bytes (str_to_ascii_lowercase bytes)))
    else None

-- whether it is the word, in either case
abbrev pub is_word : List ℕ → List ℕ → Bool
is_word word bytes = bytes_eq (str_to_ascii_lowercase bytes) (str_to_ascii_lowercase word)

abbrev pub boolean_value : List ℕ → Option Value
boolean_value bytes =
    if is_word (codes "TRUE") bytes then Some (as_shown (codes "TRUE")) else
    (if is_word (codes "FALSE") bytes then Some (as_shown (codes "FALSE")) else None)

abbrev pub text_value : List ℕ → Option Value
text_value bytes = if is_utf8 bytes then Some (value bytes (key.Bytes (folded bytes))) else None

-- the identifier that was read, with nothing after it
abbrev pub whole_sid : Reading SidValue SidFault → Option SidValue
whole_sid (Ok found) = if length found.1 == 0 then Some found.0 else None
whole_sid (Err _) = None

-- the identifier that the bytes are, or that they are the text of
unfoldable pub sid_of : List ℕ → Option SidValue
sid_of bytes = option_or (whole_sid (sid_at bytes)) (sid_of_text bytes)

abbrev pub sid_value : List ℕ → Option Value
sid_value bytes = option_map (λ s. as_shown (sid_bytes s)) (sid_of bytes)

-- the name that the bytes are the text of
abbrev pub name_value : List ℕ → Option Value
name_value bytes = option_map (λ dn. value bytes (key.Bytes (name_key dn))) (dn_of bytes)

-- the value
unfoldable pub normal_of : Syntax → List ℕ → Option Value
normal_of syntax.Name bytes = name_value bytes
normal_of syntax.Ascii bytes = ascii_value bytes
normal_of syntax.Boolean bytes = boolean_value bytes
normal_of syntax.Integer bytes = number_value 31 bytes
normal_of syntax.Large bytes = number_value 63 bytes
normal_of syntax.Octets bytes = Some (as_shown bytes)
normal_of syntax.Unicode bytes = text_value bytes
normal_of syntax.Sid bytes = sid_value bytes
normal_of syntax.Other bytes = Some (as_shown bytes)

-- or the fault
abbrev pub normal_or_fault : Syntax → List ℕ → Result Value ValueFault
normal_or_fault s bytes = if nat_lt 1048576 (length bytes) then Err fault.TooLong else ok_or (normal_of s bytes)
    fault.Syntax

-- the one fault that no bytes have
abbrev pub is_memory : ValueFault → Bool
is_memory fault.Memory = true
is_memory _ = false
