-- Values as they were sent, and as they are stored.
use Rattle.std.specs.Prelude.{ℕ, Bool, true, false, not, ◌==◌, ◌&&◌, ◌||◌, if◌then◌else◌, Option, option_map}
use Rattle.std.specs.Prelude.{List, [], ◌∷◌, length, filter_map, Result, Ok, Err}
use Rattle.std.specs.Option.{option_map_or}
use Rattle.std.specs.List.{list_any, range_with_len}
use Rattle.std.specs.Result.{result_ok}
use Rattle.sha2.specs.Sha256.{sha256}
use Rattle.ad_value.specs.Value.{Value, as_shown, same_key}
use Rattle.ad_value.specs.declared.fault.ValueFault.{ValueFault}
use Rattle.ad_value.specs.declared.fault.ValueFault.TheVariants as fault
use Rattle.ad_value.specs.ValueOf.{normal_or_fault}
use Rattle.ad_schema.specs.declared.line.SchemaRecord.{SchemaRecord}
use Rattle.ad_schema.specs.Attributes.{attrs_of}
use Rattle.ad_schema.specs.Classes.{is_must}
use Rattle.ad_schema.specs.Meaning.{attr_is_link, is_never_missing}
use Rattle.ad_dir_model.specs.Object.{Stored, plain, link}
use Rattle.ad_dir_model.specs.Attributes.{is_password, syntax_at}
use Rattle.ad_dir_model.specs.Directory.{Directory}
use Rattle.ad_needs_rules.specs.Requests.{number_of_name}

-- ---- attributes

-- all of the schema, in its order
abbrev pub all_attrs : List SchemaRecord → List ℕ
all_attrs schema = range_with_len 0 (length (attrs_of schema))

-- an object of the class lacks the attribute, and may not
abbrev pub is_lacking : List SchemaRecord → ℕ → ℕ → Bool → Bool
is_lacking schema class attr has_some = not has_some
    && (is_must schema class attr && not (is_never_missing schema class attr))

-- ---- one value

-- The value in the attribute's syntax. A password is kept as its digest, and its syntax isn't asked.
unfoldable pub value_in : List SchemaRecord → ℕ → List ℕ → Result Value ValueFault
value_in schema attr bytes = if is_password schema attr then Ok (as_shown (sha256 bytes))
    else normal_or_fault (syntax_at schema attr) bytes

abbrev pub is_unreadable : Result Value ValueFault → Bool
is_unreadable (Err fault.Syntax) = true
is_unreadable _ = false

abbrev pub is_too_long : Result Value ValueFault → Bool
is_too_long (Err fault.TooLong) = true
is_too_long _ = false

-- the object that a link's value names, visible or not
unfoldable pub target_of : Directory → List ℕ → Option ℕ
target_of dir bytes = number_of_name dir bytes

-- the value as it is stored
unfoldable pub stored_of : Directory → ℕ → List ℕ → Option Stored
stored_of dir attr bytes = if attr_is_link dir.schema attr then option_map link (target_of dir bytes)
    else option_map plain (result_ok (value_in dir.schema attr bytes))

-- ---- checks of values

abbrev pub reads : List SchemaRecord → ℕ → List ℕ → Bool
reads schema attr bytes = not (is_unreadable (value_in schema attr bytes))

abbrev pub is_short : List SchemaRecord → ℕ → List ℕ → Bool
is_short schema attr bytes = not (is_too_long (value_in schema attr bytes))

-- a link names an object
abbrev pub leads : Directory → ℕ → List ℕ → Bool
leads dir attr bytes = not (attr_is_link dir.schema attr) || option_map_or (λ number. true) (target_of dir bytes) false

-- a password isn't empty
abbrev pub is_no_empty_password : List SchemaRecord → ℕ → List ℕ → Bool
is_no_empty_password schema attr bytes = not (is_password schema attr && length bytes == 0)

-- one of them has the key of a later one
unfoldable pub are_repeated : List Value → Bool
are_repeated [] = false
are_repeated (value ∷ values) = list_any (λ other. same_key value.key other.key) values || are_repeated values

abbrev pub is_given_twice : List SchemaRecord → ℕ → List (List ℕ) → Bool
is_given_twice schema attr values = are_repeated (filter_map (λ bytes. result_ok (value_in schema attr bytes)) values)

-- ---- stored values

unfoldable pub all_stored : Directory → ℕ → List (List ℕ) → List Stored
all_stored dir attr values = filter_map (stored_of dir attr) values

-- values of one key, or links to one object
abbrev pub same_stored : Stored → Stored → Bool
same_stored (plain a) (plain b) = same_key a.key b.key
same_stored (link a) (link b) = a == b
same_stored _ _ = false

abbrev pub is_among : List Stored → Stored → Bool
is_among values value = list_any (same_stored value) values
