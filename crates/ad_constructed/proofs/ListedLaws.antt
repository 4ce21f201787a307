-- One attribute or class more of a list.
use Rattle.std.proofs.Common.{◌≡◌, ℕ, Bool, List, [], Option, Some, ap, sym, ◌∙◌}
use Rattle.std.specs.Prelude.{slice_get}
use Rattle.std.specs.Option.{option_map_or}
use Rattle.ad_schema.specs.declared.line.SchemaRecord.{SchemaRecord}
use Rattle.ad_schema.specs.declared.info.AttrInfo.{AttrInfo}
use Rattle.ad_schema.specs.declared.info.ClassInfo.{ClassInfo}
use Rattle.ad_schema.specs.Attributes.{attrs_of}
use Rattle.ad_schema.specs.Classes.{classes_of}
use Rattle.ad_constructed.specs.Rights.{RightsValue}
use Rattle.ad_constructed.specs.Listed.{name_if, is_listed, attribute_at, is_child_listed, child_at}

pub attribute_is : (schema : List SchemaRecord) (class : ℕ) (rights : RightsValue) (place : ℕ) (info : AttrInfo)
    (listed : Bool) (name : List ℕ)
    → slice_get (attrs_of schema) place ≡ Some info → listed ≡ is_listed schema class rights place info → name
    ≡ info.name
    → name_if listed name ≡ attribute_at schema class rights place
unfolding attribute_at
attribute_is schema class rights place info listed name there so named =
    ap (λ (b : Bool). name_if b name) so
    ∙ ap (name_if (is_listed schema class rights place info)) named
    ∙ ap (λ (found : Option AttrInfo). option_map_or
    (λ (i : AttrInfo). name_if (is_listed schema class rights place i) i.name) found []) (sym there)

pub child_is : (schema : List SchemaRecord) (class : ℕ) (rights : RightsValue) (place : ℕ) (info : ClassInfo)
    (listed : Bool) (name : List ℕ)
    → slice_get (classes_of schema) place ≡ Some info → listed ≡ is_child_listed schema class rights place → name
    ≡ info.name
    → name_if listed name ≡ child_at schema class rights place
unfolding child_at
child_is schema class rights place info listed name there so named =
    ap (λ (b : Bool). name_if b name) so
    ∙ ap (name_if (is_child_listed schema class rights place)) named
    ∙ ap (λ (found : Option ClassInfo). option_map_or
    (λ (i : ClassInfo). name_if (is_child_listed schema class rights place) i.name) found []) (sym there)
