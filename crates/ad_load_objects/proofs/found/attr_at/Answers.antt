use Rattle.std.proofs.Common.{◌≡◌, ◌<◌, ℕ, List, Some, length, subst}
use Rattle.std.specs.Prelude.{IfSome}
use Rattle.ad_schema.specs.declared.info.AttrId.{AttrId}
use Rattle.ad_schema.specs.Attributes.{attrs_of, attr_named}
use Rattle.ad_load_objects.proofs.found.attr_at.Goals as goal

pub returns : goal.returns
returns c = λ schema are.
    subst (λ (name : List ℕ). IfSome c.in_ok-entry_at.field-0.now.attr
    (λ (id : AttrId). (attr_named schema name ≡ Some id) × (id.0 < length (attrs_of schema))))
    c.in_ok-entry_at.ensures.named (c.in_ok-entry_at.ensures.found schema are).attr
