-- How the objects of which a filter may be true are found without a look at the others.
use Rattle.std.specs.Prelude.{◌≡◌, ℕ, ◌<◌, ◌==◌, Bool, true, false, codes, Option, Some, None, List, IfSome}
use Rattle.std.specs.List.{AllByRecursion, list_any}
use Rattle.ad_value.specs.declared.syntax.Syntax.TheVariants as syntax
use Rattle.ad_schema.specs.declared.info.ClassInfo.{ClassInfo}
use Rattle.ad_schema.specs.declared.line.SchemaRecord.{SchemaRecord}
use Rattle.ad_schema.specs.Classes.{classes_of}
use Rattle.ad_ids.specs.declared.token.Token.{Token}
use Rattle.ad_ldap.specs.FilterValue.{FilterValue}
use Rattle.ad_ldap.specs.MessageValue.{SearchValue}
use Rattle.ad_filter.specs.ThreeValues.{is_true}
use Rattle.ad_filter.specs.Filtering.{truth}
use Rattle.ad_dir_model.specs.Objects.{is_live, numbers}
use Rattle.ad_dir_model.specs.Attributes.{is_named, syntax_at}
use Rattle.ad_dir_model.specs.Shown.{shown}
use Rattle.ad_dir_model.specs.Directory.{Directory}
use Rattle.ad_search.specs.declared.needles.Needle.{Needle}
use Rattle.ad_search.specs.declared.indexed.IndexQuery.{IndexQuery}
use Rattle.ad_entries.specs.Seen.{reads, seen_of}
use Rattle.ad_search.specs.Needles.{has_key, IsPlain, HaveSameEntries}

-- some class names its objects by the attribute
abbrev pub names_one : List SchemaRecord → ℕ → Bool
names_one schema attr = list_any (λ (info : ClassInfo). info.naming.0 == attr) (classes_of schema)

-- The naming values that the attribute shows are texts, or it shows none: it is `name`, some class names its objects
-- by it, or neither.
abbrev pub IsNamedBy : List SchemaRecord → ℕ → Bool → Bool → Type 0
IsNamedBy schema attr true by_name = syntax_at schema attr ≡ syntax.Unicode
IsNamedBy schema attr false true = syntax_at schema attr ≡ syntax.Unicode
IsNamedBy schema attr false false = names_one schema attr ≡ false

-- what is sought is what is needed
pub record IsQueryFor (schema : List SchemaRecord) (needle : Needle) (query : IndexQuery) : Type 0 where
  pub attr_is : query.attr ≡ needle.attr
  pub key_is : query.key ≡ needle.value.key
  pub name : is_named schema (codes "name") query.attr.0 ≡ query.is_name
  pub named : IsNamedBy schema query.attr.0 query.is_name query.by_name

-- whoever asks, the filter isn't true of the object
abbrev pub IsNever : Directory → FilterValue → ℕ → Type 0
IsNever dir filter number = (token : Token) → is_true (truth (reads dir.schema (seen_of dir token number)) filter)
    ≡ false

-- the number is before this one, where there is one
abbrev pub IsBefore : ℕ → Option ℕ → Type 0
IsBefore number None = Unit {0}
IsBefore number (Some next) = number < next

-- A number above this one, such that no live object between them shows a value of the attribute with the key.
pub record IsNextShown (dir : Directory) (query : IndexQuery) (above : ℕ) (result : Option ℕ) : Type 0 where
  pub is_above : IfSome result (λ next. above < next)
  pub none : (number : ℕ) → is_live dir.objects number ≡ true → above < number → IsBefore number result
      → IsPlain dir.schema query.attr.0 → is_named dir.schema (codes "name") query.attr.0 ≡ query.is_name
      → IsNamedBy dir.schema query.attr.0 query.is_name query.by_name
      → has_key query.key (shown dir number query.attr.0) ≡ false

-- A number above this one, such that the filter is true of no live object between them.
pub record IsNextFor (dir : Directory) (filter : FilterValue) (above : ℕ) (result : Option ℕ) : Type 0 where
  pub is_above : IfSome result (λ next. above < next)
  pub none : (number : ℕ) → is_live dir.objects number ≡ true → above < number → IsBefore number result
      → IsNever dir filter number

-- These have the entries of all objects, and are live.
pub record IsLeftOfAll (dir : Directory) (search : SearchValue) (left : List ℕ) : Type 0 where
  pub same : HaveSameEntries dir search left (numbers dir.objects)
  pub live : AllByRecursion (λ number. is_live dir.objects number ≡ true) left
