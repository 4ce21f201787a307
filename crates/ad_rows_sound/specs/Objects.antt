-- What is known of objects before they are judged.
use Rattle.std.specs.Prelude.{◌≡◌, ℕ, ◌<◌, ◌-◌, ◌^◌, Option, None, List}
use Rattle.std.specs.List.{AllByRecursion}
use Rattle.ad_schema.specs.declared.line.SchemaRecord.{SchemaRecord}
use Rattle.ad_dir_model.specs.Object.{Object}
use Rattle.ad_dir_model.specs.Objects.{RiseAbove}
use Rattle.ad_dir_model.specs.Soundness.{IsContent}

abbrev pub HasSmallNumber : Object → Type 0
HasSmallNumber o = o.number < 2 ^ 32 - 1

-- Their numbers rise from 1 on, and unless one was noted as bad, their contents are of the schema.
pub record AreObjects (schema : List SchemaRecord) (bad : Option ℕ) (objects : List Object) : Type 0 where
  pub rise : RiseAbove 0 objects
  pub small : AllByRecursion HasSmallNumber objects
  pub content : bad ≡ None → AllByRecursion (IsContent schema) objects
