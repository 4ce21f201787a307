use Rattle.std.proofs.Common.{◌≡◌, ℕ, List, Some, sym, ap, ◌∙◌}
use Rattle.std.specs.Prelude.{slice_get}
use Rattle.ad_schema_classes.specs.Names.{same_name}
use Rattle.ad_schema.specs.Attributes.{attrs_of}
use Rattle.ad_schema.specs.declared.info.AttrInfo.{AttrInfo}
use Rattle.ad_dir_objects.proofs.AttrNames.{same_named}
use Rattle.ad_dir_objects.proofs.attributes.may_be_named.Goals as goal

pub returns-in-Some : goal.returns-in-Some
returns-in-Some c = λ named.
    let schema = c.args.schema.now in
    let info : AttrInfo = c.in-Some.info.now in
    let at : slice_get (attrs_of schema) c.args.attr.0 ≡ Some info
    = ap (λ (infos : List AttrInfo). slice_get infos c.args.attr.0) (sym c.attrs.ensures) ∙ sym c.in-Some.ensures
    in
    c.same_name.ensures ∙ ap (λ (n : List ℕ). same_name n c.args.name.now) c.as_slice.ensures
    ∙ same_named schema c.args.name.now c.args.attr.0 info at named
