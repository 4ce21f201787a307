-- The values that an object shows: stored ones and computed ones.
use Rattle.std.specs.Prelude.{ℕ, Bool, ◌==◌, ◌||◌, if◌then◌else◌, unwrap_or, slice_get, codes, List, [], ◌∷◌, map}
use Rattle.std.specs.Prelude.{reverse, Result, Ok, Err}
use Rattle.ad_value.specs.declared.syntax.Syntax.{Syntax}
use Rattle.ad_value.specs.Value.{Value, value, as_shown}
use Rattle.ad_value.specs.declared.fault.ValueFault.{ValueFault}
use Rattle.ad_value.specs.ValueOf.{normal_or_fault}
use Rattle.ad_schema.specs.declared.line.SchemaKind.TheVariants.{Class}
use Rattle.ad_schema.specs.declared.line.SchemaRecord.{SchemaRecord}
use Rattle.ad_schema.specs.Attributes.{names_of}
use Rattle.ad_schema.specs.Classes.{naming_of, chain_of}
use Rattle.ad_dir_model.specs.Object.{Stored, plain, link, stored_in}
use Rattle.ad_dir_model.specs.Objects.{object_at}
use Rattle.ad_schema.specs.Meaning.{attr_is_back_link}
use Rattle.ad_dir_model.specs.Attributes.{is_named, syntax_at}
use Rattle.ad_dir_model.specs.Directory.{Directory}
use Rattle.ad_dir_model.specs.Names.{name_text}

-- A value that isn't stored in its normal form: it has the key of the normal form of what it shows, where there is
-- one, and else is compared by its bytes.
abbrev pub with_key_of : List ℕ → Result Value ValueFault → Value
with_key_of shown (Ok v) = value shown v.key
with_key_of shown (Err fault) = as_shown shown

unfoldable pub computed : Syntax → List ℕ → Value
computed syntax shown = with_key_of shown (normal_or_fault syntax shown)

-- ---- objectClass

unfoldable pub class_name : List SchemaRecord → ℕ → List ℕ
class_name schema class = unwrap_or (slice_get (names_of Class schema) class) []

-- the names of the classes from the top of the chain down
unfoldable pub class_names : List SchemaRecord → ℕ → List (List ℕ)
class_names schema class = reverse (map (class_name schema) (chain_of schema class))

-- ---- all attributes

-- a stored value, and for a link the name of its object
abbrev pub shown_value : Directory → Syntax → Stored → Value
shown_value dir syntax (plain v) = v
shown_value dir syntax (link number) = computed syntax (name_text dir number)

abbrev pub is_naming : List SchemaRecord → ℕ → ℕ → Bool
is_naming schema class attr = is_named schema (codes "name") attr || naming_of schema class == attr

-- What an object shows of an attribute. objectClass shows the names of its classes, distinguishedName its name,
-- name and its naming attribute the naming value, a back link nothing, and every other attribute what is stored.
unfoldable pub shown : Directory → ℕ → ℕ → List Value
shown dir number attr =
    let o = object_at dir.objects number in
    let syntax = syntax_at dir.schema attr in
    if is_named dir.schema (codes "objectClass") attr then map (computed syntax) (class_names dir.schema o.class)
    else (if is_named dir.schema (codes "distinguishedName") attr then computed syntax (name_text dir number) ∷ []
    else (if is_naming dir.schema o.class attr then computed syntax o.name ∷ []
    else (if attr_is_back_link dir.schema attr then []
    else map (shown_value dir syntax) (stored_in o.values attr))))
