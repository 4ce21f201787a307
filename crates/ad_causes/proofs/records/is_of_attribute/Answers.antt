use Rattle.std.proofs.Common.{◌∙◌, Bool, codes, ap}
use Rattle.std.specs.Prelude.{◌||◌}
use Rattle.ad_schema_classes.specs.Names.{same_name}
use Rattle.ad_causes.proofs.records.is_of_attribute.Goals as goal

pub returns : goal.returns
returns c =
    let n = c.args.name.now in
    c.is_either.ensures
    ∙ ap (λ (t : Bool). same_name n (codes "lDAPDisplayName") || t) (c.is_one-known-3.ensures
    ∙ ap (λ (t : Bool). same_name n (codes "attributeSyntax") || (same_name n (codes "schemaIDGUID") || t))
    (c.is_one-known-2.ensures
    ∙ ap (λ (t : Bool). same_name n (codes "isSingleValued") || (same_name n (codes "attributeSecurityGUID") || t))
    c.is_one-known.ensures))
