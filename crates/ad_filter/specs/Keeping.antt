-- What was read of an object, as it is kept for all items of a filter.
use Rattle.std.specs.Prelude.{◌≡◌, ℕ, true, Option, Some, None, List, IfSome, IsPermutation, IsSortedBy}
use Rattle.std.specs.Ordering.{is_lt, nat_cmp}
use Rattle.std.specs.BTreeMap.{get, BTreeMap}
use Rattle.ad_schema.specs.declared.info.AttrId.{AttrId}
use Rattle.ad_value.specs.Value.{Value, key_order}
use Rattle.ad_filter.specs.declared.value_cache.Values.{Values}
use Rattle.ad_filter.specs.Filtering.{Readable}

-- none has a key below that of the one before it
abbrev pub IsInOrder : List Value → Type 0
IsInOrder values = IsSortedBy (λ a b. is_lt (key_order a.key b.key)) values

-- values in order where they are said to be
abbrev pub IsOrdered : Values → Type 0
IsOrdered values = values.in_order ≡ true → IsInOrder values.all.items

-- what the values are that are kept
abbrev pub as_read : Values → Readable
as_read values = record { syntax = values.syntax; values = values.all.items }

-- the values that may be read, in some order
pub record IsOf (values : Values) (readable : Readable) : Type 0 where
  pub syntax : values.syntax ≡ readable.syntax
  pub same : IsPermutation readable.values values.all.items
  pub ordered : IsOrdered values

abbrev pub IsRead : Option Values → Option Readable → Type 0
IsRead None None = Unit {0}
IsRead None (Some readable) = ⊥
IsRead (Some values) None = ⊥
IsRead (Some values) (Some readable) = IsOf values readable

-- it was read, and tells what may be read
abbrev pub IsKept : Option (Option Values) → Option Readable → Type 0
IsKept None readable = ⊥
IsKept (Some values) readable = IsRead values readable

-- each that is kept tells what may be read of its attribute
abbrev pub AreRead : (AttrId → Option Readable) → BTreeMap ℕ (Option Values) → Type 0
AreRead shown kept = (attr : AttrId) → IfSome (get nat_cmp kept attr.0) (λ values. IsRead values (shown attr))
