-- How the elements of a message are read, with the fault that stands first. What is read of are the bytes up to the
-- end of the element that they stand in; `end` is the offset of this end in the message, so that `end - length
-- bytes` is that of the bytes.
use Rattle.std.specs.Prelude.{◌≡◌, ℕ, zero, suc, ◌-◌, ◌==◌, Bool, true, false, not, nat_eq, nat_le, List, []}
use Rattle.std.specs.Prelude.{◌∷◌, length, get_or, Option, None, Some, ℤ, pos, negsuc, Result, Ok, Err}
use Rattle.std.specs.Prelude.{if◌then◌else◌}
use Rattle.ad_bytes.specs.Reading.{Reading, ◌>>=◌, need, fault_as}
use Rattle.ad_ber.specs.Integer.{integer_of}
use Rattle.ad_ber.specs.Reading.{element_at}
use Rattle.ad_ldap.specs.declared.fault.LdapFault.{LdapFault}
use Rattle.ad_ldap.specs.declared.fault.LdapFault.TheVariants as fault
use Rattle.ad_ldap.specs.Tags.{octet_string}

-- the one fault that no bytes have
abbrev pub is_memory : LdapFault → Bool
is_memory fault.Memory = true
is_memory _ = false

-- what stands here isn't what a message has here
abbrev pub form : ℕ → List ℕ → LdapFault
form end bytes = fault.Form (end - length bytes)

-- an element with this tag begins here
abbrev pub begins : ℕ → List ℕ → Bool
begins tag [] = false
begins tag (b ∷ bytes) = nat_eq b tag

-- the body of an element with this tag
unfoldable pub body_at : ℕ → ℕ → List ℕ → Reading (List ℕ) LdapFault
body_at tag end bytes = do
  _ ← need (begins tag bytes) (form end bytes)
  e ← fault_as fault.Ber (element_at bytes)
  Ok (e.0.body, e.1)

-- nothing more stands here
abbrev pub ended : ℕ → List ℕ → Result (Unit {0}) LdapFault
ended end bytes = need (length bytes == 0) (form end bytes)

-- something stands here
abbrev pub some : ℕ → List ℕ → Result (Unit {0}) LdapFault
some end bytes = need (not (length bytes == 0)) (form end bytes)

-- a number that isn't negative nor above this one, or the fault
abbrev pub within : ℕ → LdapFault → ℤ → Result ℕ LdapFault
within most d (pos n) = if nat_le n most then Ok n else Err d
within most d (negsuc n) = Err d

-- this fault where there is none
abbrev pub ok_or : {A : Type 0} → LdapFault → Option A → Result A LdapFault
ok_or d None = Err d
ok_or d (Some x) = Ok x

-- the same of a function that may find none
abbrev pub IsWithin : ℕ → ℤ → Option ℕ → Type 0
IsWithin most z found = (d : LdapFault) → within most d z ≡ ok_or d found

unfoldable pub number_at : ℕ → ℕ → ℕ → List ℕ → Reading ℕ LdapFault
number_at tag most end bytes = do
  body ← body_at tag end bytes
  integer ← fault_as fault.Ber (integer_of body.0)
  number ← within most (form end bytes) integer
  Ok (number, body.1)

unfoldable pub boolean_at : ℕ → ℕ → List ℕ → Reading Bool LdapFault
boolean_at tag end bytes = do
  body ← body_at tag end bytes
  _ ← need (length body.0 == 1) (form end bytes)
  Ok (not (nat_eq (get_or body.0 0 0) 0), body.1)

-- an octet string with this tag, where one begins here
unfoldable pub option_at : ℕ → ℕ → List ℕ → Reading (Option (List ℕ)) LdapFault
option_at tag end bytes =
    if begins tag bytes then (body_at tag end bytes >>= λ body. Ok (Some body.0, body.1)) else Ok (None, bytes)

-- a truth value with this tag, where one begins here, else false
unfoldable pub default_at : ℕ → ℕ → List ℕ → Reading Bool LdapFault
default_at tag end bytes = if begins tag bytes then boolean_at tag end bytes else Ok (false, bytes)

-- an element with this tag, whose whole body is read so
unfoldable pub inside_at : {A : Type 0} → ℕ → (ℕ → List ℕ → Result A LdapFault) → ℕ → List ℕ → Reading A LdapFault
inside_at tag whole end bytes = do
  body ← body_at tag end bytes
  value ← whole (end - length body.1) body.0
  Ok (value, body.1)

-- Values of one kind up to the end of the bytes, of which there are at most n.
unfoldable pub each_within : {A : Type 0} → ℕ → (List ℕ → Reading A LdapFault) → List ℕ → Result (List A) LdapFault
each_within n read [] = Ok []
each_within zero read (b ∷ bytes) = Ok []
each_within (suc n) read (b ∷ bytes) = do
  first ← read (b ∷ bytes)
  others ← each_within n read first.1
  Ok (first.0 ∷ others)

-- Values of one kind up to the end of the bytes. No value has no bytes, so there are no more of them than bytes.
abbrev pub each_of : {A : Type 0} → (ℕ → List ℕ → Reading A LdapFault) → ℕ → List ℕ → Result (List A) LdapFault
each_of read end bytes = each_within (length bytes) (read end) bytes

-- octet strings up to the end
unfoldable pub values_of : ℕ → List ℕ → Result (List (List ℕ)) LdapFault
values_of end bytes = each_of (body_at octet_string) end bytes
