-- What an object has to store for the filter of a search to be true of it.
use Rattle.std.specs.Prelude.{◌≡◌, ℕ, ◌<◌, Bool, true, false, codes, slice_get, List, length, Some, Ok}
use Rattle.std.specs.List.{list_any}
use Rattle.ad_value.specs.declared.value.Key.{Key}
use Rattle.ad_value.specs.Value.{Value, same_key}
use Rattle.ad_value.specs.ValueOf.{normal_or_fault}
use Rattle.ad_schema.specs.declared.info.AttrId.{AttrId}
use Rattle.ad_schema.specs.declared.info.AttrInfo.{AttrInfo}
use Rattle.ad_schema.specs.Attributes.{attrs_of, attr_named}
use Rattle.ad_schema.specs.declared.line.SchemaRecord.{SchemaRecord}
use Rattle.ad_ldap.specs.FilterValue.{FilterValue}
use Rattle.ad_ldap.specs.MessageValue.{SearchValue}
use Rattle.ad_filter.specs.ThreeValues.{is_true}
use Rattle.ad_filter.specs.Filtering.{truth, is_descriptor}
use Rattle.ad_ids.specs.declared.token.Token.{Token}
use Rattle.ad_dn.specs.declared.rdn.Dn.{Dn}
use Rattle.ad_dir_model.specs.Attributes.{is_named}
use Rattle.ad_dir_model.specs.Directory.{Directory}
use Rattle.ad_search.specs.declared.needles.Needle.{Needle}
use Rattle.ad_entries.specs.Seen.{Seen, reads, values_at}
use Rattle.ad_search.specs.Reads.{found_among}

-- some value has the key
abbrev pub has_key : Key → List Value → Bool
has_key key values = list_any (λ (v : Value). same_key v.key key) values

-- The attribute isn't computed from the class or the whole name, but perhaps from the naming value.
pub record IsPlain (schema : List SchemaRecord) (attr : ℕ) : Type 0 where
  pub no_class : is_named schema (codes "objectClass") attr ≡ false
  pub no_dn : is_named schema (codes "distinguishedName") attr ≡ false

-- The attribute has this name, and is such a one.
pub record IsPlainNamed (schema : List SchemaRecord) (name : List ℕ) (attr : AttrId) : Type 0 where
  pub ordinary : is_descriptor name ≡ false
  pub named : attr_named schema name ≡ Some attr
  pub within : attr.0 < length (attrs_of schema)
  pub plain : IsPlain schema attr.0

-- Of the object a value of this attribute with this key is read.
abbrev pub IsRead : Seen → Needle → Type 0
IsRead seen needle = (values : List Value) × (values_at seen needle.attr.0 ≡ Some values)
    × (has_key needle.value.key values ≡ true)

-- The filter is true only of objects of which that is read.
pub record IsNeedle (schema : List SchemaRecord) (filter : FilterValue) (needle : Needle) : Type 0 where
  pub needed : (seen : Seen) → is_true (truth (reads schema seen) filter) ≡ true → IsRead seen needle
  pub plain : IsPlain schema needle.attr.0

-- it asks for what was sent, as the syntax of the attribute reads it
pub record IsAskedAs (schema : List SchemaRecord) (attr : AttrId) (sent : List ℕ) (needle : Needle) : Type 0 where
  pub info : AttrInfo
  pub known : slice_get (attrs_of schema) attr.0 ≡ Some info
  pub attr_is : needle.attr ≡ attr
  pub value_is : normal_or_fault info.syntax sent ≡ Ok needle.value
  pub plain : IsPlain schema attr.0

-- Of these objects those have entries that have them of the others, whoever asks.
abbrev pub HaveSameEntries : Directory → SearchValue → List ℕ → List ℕ → Type 0
HaveSameEntries dir search some all =
    (token : Token) (base : Dn) → found_among dir token search base some ≡ found_among dir token search base all
