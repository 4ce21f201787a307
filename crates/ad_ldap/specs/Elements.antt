-- What a message is made of: elements (BER) with the tags that RFC 4511 gives them.
use Rattle.std.specs.Prelude.{◌≡◌, ℕ, ◌<◌, ◌≤◌, Bool, true, false, not, nat_eq, List, [], ◌∷◌, Option, None, Some, ℤ}
use Rattle.std.specs.Prelude.{pos, Ok, ◌⊎◌}
use Rattle.ad_bytes.specs.Reading.{StartsWith, SpellsEach}
use Rattle.ad_ber.specs.Element.{SpellsElement}
use Rattle.ad_ber.specs.Integer.{integer_of}
use Rattle.ad_ldap.specs.Tags.{octet_string}

-- nothing
abbrev pub IsEmpty : List ℕ → Type 0
IsEmpty text = text ≡ []

-- an element with this tag, of whose body this holds
pub record Tagged (tag : ℕ) (Body : List ℕ → Type 0) (text : List ℕ) : Type 0 where
  pub body : List ℕ
  pub element : SpellsElement (record { tag = tag; body = body }) text
  pub inside : Body body

-- an octet string with this tag
abbrev pub SpellsOctets : ℕ → List ℕ → List ℕ → Type 0
SpellsOctets tag octets text = Tagged tag (λ body. body ≡ octets) text

-- an integer, or a number of an enumeration, with this tag: from 0 up to this one
abbrev pub SpellsNumber : ℕ → ℕ → ℕ → List ℕ → Type 0
SpellsNumber tag most n text = (n ≤ most) × Tagged tag (λ body. integer_of body ≡ Ok (pos n)) text

-- a truth value in one byte: 0 is false, any other is true
abbrev pub IsTruth : Bool → List ℕ → Type 0
IsTruth truth body = (byte : ℕ) × (body ≡ byte ∷ []) × (truth ≡ not (nat_eq byte 0))

abbrev pub SpellsBoolean : ℕ → Bool → List ℕ → Type 0
SpellsBoolean tag truth text = Tagged tag (IsTruth truth) text

-- an octet string with this tag, or none
abbrev pub SpellsOption : ℕ → Option (List ℕ) → List ℕ → Type 0
SpellsOption tag None text = IsEmpty text
SpellsOption tag (Some octets) text = SpellsOctets tag octets text

-- A truth value with this tag. False may be left out.
abbrev pub SpellsDefault : ℕ → Bool → List ℕ → Type 0
SpellsDefault tag truth text = SpellsBoolean tag truth text ⊎ ((truth ≡ false) × IsEmpty text)

-- octet strings, one after the other
abbrev pub SpellsValues : List (List ℕ) → List ℕ → Type 0
SpellsValues values text = SpellsEach (SpellsOctets octet_string) values text
