-- What stands for a stored value among what is counted of its object.
use Rattle.std.specs.Prelude.{ℕ, ◌%◌, Bool, false, if◌then◌else◌, Option, Some, None, List, ◌∷◌, fold, filter_map}
use Rattle.std.specs.Prelude.{slice_index_or}
use Rattle.std.specs.List.{flat_map}
use Rattle.std.specs.declared.hash.DefaultHasher.{DefaultHasher}
use Rattle.std.specs.Hash as fed
use Rattle.std.specs.Hash.DefaultHasher.{initial, write, finish}
use Rattle.ad_value.specs.declared.value.Key.{Key}
use Rattle.ad_value.specs.declared.value.Key.TheVariants as key
use Rattle.ad_value.specs.declared.syntax.Syntax.TheVariants as syntax
use Rattle.ad_dir_model.specs.Object.{Stored, plain, link, Held}
use Rattle.ad_dir_model.specs.Shown.{computed}

-- the state of std's hasher behind a number, and behind a key
abbrev pub with_number : DefaultHasher → ℕ → DefaultHasher
with_number state number = fold write state (fed.u32 number)

abbrev pub with_key : DefaultHasher → Key → DefaultHasher
with_key state (key.Bytes bytes) = write state bytes
with_key state (key.Number number) = fold write state (fed.i64 number)

-- the number that stands for the values of an attribute that have this key, and seldom for others
unfoldable pub mark : ℕ → Key → ℕ
mark attr key = finish (with_key (with_number initial attr) key) % 4294967296

-- whether the values of an attribute are counted, by a flag for each attribute
abbrev pub is_indexed : List Bool → ℕ → Bool
is_indexed indexed attr = slice_index_or indexed attr false

-- a link counts as its target, and another value as its mark, where those are counted
abbrev pub tie : Bool → ℕ → Stored → Option ℕ
tie counts attr (plain value) = if counts then Some (mark attr value.key) else None
tie counts attr (link number) = Some number

-- what is counted of the values that an object has
unfoldable pub ties_in : List Bool → List Held → List ℕ
ties_in indexed values = flat_map (λ held. filter_map (tie (is_indexed indexed held.attr) held.attr) held.values) values

-- the number that stands for a naming value, whatever attributes show it, where they are texts
unfoldable pub name_mark : List ℕ → ℕ
name_mark name = mark 4294967295 (computed syntax.Unicode name).key

-- what is counted of an object of this name and these values
abbrev pub all_ties : List Bool → List ℕ → List Held → List ℕ
all_ties indexed name values = name_mark name ∷ ties_in indexed values
