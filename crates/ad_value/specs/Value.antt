-- Values and what they are compared by.
use Rattle.std.specs.Prelude.{ℕ, ℤ, Bool, false, List, Option, Some, None}
use Rattle.std.specs.Str.{bytes_eq}
use Rattle.std.specs.Ordering.{nat_cmp, int_cmp, int_eq}
use Rattle.std.specs.Cmp.Lexicographic.{slice_cmp}
use Rattle.std.specs.declared.cmp.Ordering.{Ordering}
use Rattle.std.specs.declared.cmp.Ordering.TheVariants.{Less, Greater}
use Rattle.ad_value.specs.declared.value.Key.{Key}
use Rattle.ad_value.specs.declared.value.Key.TheVariants as key

-- a value of an attribute: the bytes that a reader of the directory is shown, and what it is compared by
pub record Value : Type 0 where
  pub shown : List ℕ
  pub key : Key

-- a value that is shown so, and compared by this key
abbrev pub value : List ℕ → Key → Value
value shown key = record { shown = shown; key = key }

-- a value that is compared by the bytes that it shows
abbrev pub as_shown : List ℕ → Value
as_shown bytes = value bytes (key.Bytes bytes)

-- the two are one key
abbrev pub same_key : Key → Key → Bool
same_key (key.Bytes a) (key.Bytes b) = bytes_eq a b
same_key (key.Number a) (key.Number b) = int_eq a b
same_key _ _ = false

-- Numbers by their size, bytes from the first on that differs; a number before all bytes.
abbrev pub key_order : Key → Key → Ordering
key_order (key.Number a) (key.Number b) = int_cmp a b
key_order (key.Bytes a) (key.Bytes b) = slice_cmp nat_cmp a b
key_order (key.Number a) (key.Bytes b) = Less
key_order (key.Bytes a) (key.Number b) = Greater

-- the number that a key is
abbrev pub number_in : Key → Option ℤ
number_in (key.Bytes bytes) = None
number_in (key.Number number) = Some number

-- the bytes that a key is
abbrev pub bytes_in : Key → Option (List ℕ)
bytes_in (key.Bytes bytes) = Some bytes
bytes_in (key.Number number) = None
