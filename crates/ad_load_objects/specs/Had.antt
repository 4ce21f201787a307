-- What is kept of the values of an object once these are many, and what it is to put one more. Only for private
-- contracts, invariants and proofs.
use Rattle.std.specs.Prelude.{◌≡◌, ℕ, Bool, true, false, ◌==◌, ◌&&◌, Option, List, [], ◌∷◌, ◌++◌, MatchOption}
use Rattle.std.specs.declared.cmp.Ordering.{Ordering}
use Rattle.std.specs.Ordering.{nat_cmp, int_cmp, ordering_then}
use Rattle.std.specs.Option.{option_cmp}
use Rattle.std.specs.Cmp.Lexicographic.{slice_cmp}
use Rattle.std.specs.List.{list_any}
use Rattle.std.specs.BTreeSet.{contains}
use Rattle.ad_value.specs.declared.value.Key.{Key}
use Rattle.ad_value.specs.declared.value.Key.TheVariants as variant
use Rattle.ad_value.specs.Value.{same_key, number_in}
use Rattle.ad_load_objects.specs.declared.drafts.Given.{Given as HeldGiven}
use Rattle.ad_load_objects.specs.declared.seen_values.ValueKey.{ValueKey}
use Rattle.ad_load_objects.specs.declared.seen_values.SeenValues.{SeenValues}
use Rattle.ad_load_objects.specs.Drafts.{Given, is_given}
use Rattle.ad_load_objects.specs.Objects.{is_same_given}
use Rattle.ad_load_objects.specs.Seen.{given_seen}

-- by the attribute, and then by the number or the bytes
abbrev pub key_cmp : ValueKey → ValueKey → Ordering
key_cmp a b = ordering_then (nat_cmp a.attr b.attr)
    (ordering_then (option_cmp int_cmp a.number b.number) (slice_cmp nat_cmp a.bytes.items b.bytes.items))

-- the bytes of a key; a number has none
abbrev pub bytes_of : Key → List ℕ
bytes_of (variant.Bytes bytes) = bytes
bytes_of (variant.Number number) = []

-- what a value of the attribute is found by
pub record IsKeyOf (own : ℕ) (key : Key) (one : ValueKey) : Type 0 where
  pub attr : one.attr ≡ own
  pub number : one.number ≡ number_in key
  pub bytes : one.bytes.items ≡ bytes_of key

-- of this attribute, and with this key
abbrev pub has_key : ℕ → Key → Given → Bool
has_key attr key g = g.attr == attr && same_key g.value.key key

-- An attribute is among them exactly where a value is of it, and a key exactly where a value has it.
pub record AreHad (given : List Given) (had : SeenValues) : Type 0 where
  pub attrs : (attr : ℕ) → contains nat_cmp had.attrs attr ≡ list_any (is_given attr) given
  pub values : (attr : ℕ) (key : Key) (one : ValueKey) → IsKeyOf attr key one → contains key_cmp had.values one
      ≡ list_any (has_key attr key) given

-- The value stands after the others, or it is given back where this is true.
abbrev pub PutsUnless : Bool → Given → List Given → List Given → Option HeldGiven → Type 0
PutsUnless had g old new again = MatchOption again
    ((had ≡ false) × (new ≡ old ++ g ∷ []))
    (λ back. (had ≡ true) × (given_seen back ≡ g))

-- the attribute has the value already, or may have no more where one value is all
abbrev pub is_had : Bool → Given → List Given → Bool
is_had single g given = list_any (is_same_given single g.attr g.value) given

abbrev pub PutsOnce : Bool → Given → List Given → List Given → Option HeldGiven → Type 0
PutsOnce single g old new again = PutsUnless (is_had single g old) g old new again
