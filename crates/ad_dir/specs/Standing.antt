-- What holds of the objects of every directory that is kept, whatever is pending and whatever they inherit.
use Rattle.std.specs.Prelude.{◌≡◌, ◌≢◌, ℕ, ◌-◌, ◌^◌, ◌<◌, true, Some, List}
use Rattle.ad_schema.specs.declared.line.SchemaRecord.{SchemaRecord}
use Rattle.ad_dir_model.specs.Object.{Object}
use Rattle.ad_dir_model.specs.Objects.{object_of, is_live, parent_at, Rise}
use Rattle.ad_dir_model.specs.Tree.{root, IsPlaced}
use Rattle.ad_dir_model.specs.Soundness.{IsContent, LinksAreLive, HasOwnName, HasOwnSid}

-- Numbers rise and are below 2^32 - 1. Each object has content of the schema, stands at most 64 parents deep below
-- the root, each of them live, and has links to live objects, a name that no sibling has, and an identifier that no
-- other object has.
pub record AreStanding (schema : List SchemaRecord) (objects : List Object) : Type 0 where
  pub rise : Rise objects
  pub small : (number : ℕ) → is_live objects number ≡ true → number < 2 ^ 32 - 1
  pub content : (number : ℕ) (o : Object) → object_of objects number ≡ Some o → IsContent schema o
  pub parents : (number : ℕ) (o : Object) → object_of objects number ≡ Some o → number ≢ root
      → is_live objects o.parent ≡ true
  pub placed : (number : ℕ) → is_live objects number ≡ true → IsPlaced (parent_at objects) number
  pub links : (number : ℕ) (o : Object) → object_of objects number ≡ Some o → LinksAreLive objects o
  pub own_name : (number : ℕ) (o : Object) → object_of objects number ≡ Some o → HasOwnName objects o
  pub own_sid : (number : ℕ) (o : Object) → object_of objects number ≡ Some o → HasOwnSid schema objects o
