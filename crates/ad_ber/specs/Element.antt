-- The bytes of an element (X.690 8.1), of those that LDAP allows: a tag of one byte and a definite length.
use Rattle.std.specs.Prelude.{◌≡◌, ◌⊎◌, ℕ, ◌+◌, ◌<◌, ◌^◌, ◌%◌, List, length}
use Rattle.ad_bytes.specs.Reading.{StartsWith}
use Rattle.ad_bytes.specs.Numbers.{SpellsByte, SpellsBe, SpellsPart}
use Rattle.ad_ber.specs.declared.finding.Tagged.{Tagged}

-- a length above 127, or any other: a byte 128 + k, and the length in k bytes, from one on, the most significant
-- first
pub record SpellsLong (n : ℕ) (text : List ℕ) : Type 0 where
  pub count : ℕ
  pub some : 0 < count
  pub few : count < 128
  pub text_is : StartsWith SpellsByte (128 + count) (SpellsBe count n) text

-- A length below 128 may be a byte of its own. Each may have more bytes than it needs. None is above 2^32 - 1.
abbrev pub SpellsLength : ℕ → List ℕ → Type 0
SpellsLength n text = (n < 2 ^ 32) × (((n < 128) × SpellsByte n text) ⊎ SpellsLong n text)

-- the tag, whose number in its low five bits is at most 30, the length of the body, and the body
pub record SpellsElement (e : Tagged) (text : List ℕ) : Type 0 where
  pub number : e.tag % 32 < 31
  pub text_is : StartsWith SpellsByte e.tag
      (StartsWith SpellsLength (length e.body) (SpellsPart (length e.body) e.body)) text
