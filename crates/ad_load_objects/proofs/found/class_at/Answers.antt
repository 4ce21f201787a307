use Rattle.std.proofs.Common.{◌≡◌, ◌<◌, ℕ, List, Some, length, subst}
use Rattle.std.specs.Prelude.{IfSome}
use Rattle.ad_schema.specs.declared.info.ClassId.{ClassId}
use Rattle.ad_schema.specs.Classes.{classes_of, class_named}
use Rattle.ad_load_objects.proofs.found.class_at.Goals as goal

pub returns : goal.returns
returns c = λ schema are.
    subst (λ (name : List ℕ). IfSome c.in_ok-entry_at.field-0.now.class
    (λ (id : ClassId). (class_named schema name ≡ Some id) × (id.0 < length (classes_of schema))))
    c.in_ok-entry_at.ensures.named (c.in_ok-entry_at.ensures.found schema are).class
