-- Which objects may store a value of an attribute.
use Rattle.std.specs.Prelude.{◌≡◌, ℕ, ◌<◌, ◌≤◌, Bool, true, false, Option, Some, List, IfSome, IsSomeAnd}
use Rattle.std.specs.List.{list_any}
use Rattle.ad_value.specs.declared.value.Key.{Key}
use Rattle.ad_value.specs.Value.{same_key}
use Rattle.ad_value.specs.declared.syntax.Syntax.TheVariants as syntax
use Rattle.ad_dir_model.specs.Shown.{computed}
use Rattle.ad_schema.specs.declared.line.SchemaRecord.{SchemaRecord}
use Rattle.ad_schema.specs.Meaning.{attr_is_link}
use Rattle.ad_dir_links.specs.Marks.{is_indexed}
use Rattle.ad_dir_model.specs.Object.{Object, Stored, plain, link, stored_in}
use Rattle.ad_dir_model.specs.Objects.{object_of}

-- a stored value may show one of the key
abbrev pub may_have : Key → Stored → Bool
may_have key (plain value) = same_key value.key key
may_have key (link number) = true

-- one of those of the attribute may
abbrev pub may_store : ℕ → Key → Object → Bool
may_store attr key o = list_any (may_have key) (stored_in o.values attr)

-- A number above this one, such that no live object between them may store a value of the attribute with the key, and
-- none at all above this one where there is no such number. It may be that of an object that stores none, or of none.
pub record IsNextWith (objects : List Object) (attr : ℕ) (key : Key) (above : ℕ) (result : Option ℕ) : Type 0 where
  pub is_above : IfSome result (λ next. above < next)
  pub each : (number : ℕ) (o : Object) → object_of objects number ≡ Some o → may_store attr key o ≡ true → above
      < number
      → IsSomeAnd result (λ next. next ≤ number)

-- the same of objects whose naming value has the key, as a text
pub record IsNextNamed (objects : List Object) (key : Key) (above : ℕ) (result : Option ℕ) : Type 0 where
  pub is_above : IfSome result (λ next. above < next)
  pub each : (number : ℕ) (o : Object) → object_of objects number ≡ Some o
      → same_key (computed syntax.Unicode o.name).key key ≡ true → above < number
      → IsSomeAnd result (λ next. next ≤ number)

-- the values of the attribute are counted by their keys, and none is a link
pub record AreMarked (schema : List SchemaRecord) (indexed : List Bool) (attr : ℕ) : Type 0 where
  pub flagged : is_indexed indexed attr ≡ true
  pub no_link : attr_is_link schema attr ≡ false
