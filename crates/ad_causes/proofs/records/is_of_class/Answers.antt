use Rattle.std.proofs.Common.{◌∙◌, Bool, List, ℕ, codes, ap}
use Rattle.std.specs.Prelude.{◌||◌}
use Rattle.ad_schema_classes.specs.Names.{same_name}
use Rattle.ad_causes.proofs.records.is_of_class.Goals as goal

pub returns : goal.returns
returns c =
    let n = c.args.name.now in
    let two = λ (first second : List ℕ) (t : Bool). same_name n first || (same_name n second || t) in
    c.is_one.ensures
    ∙ ap (two (codes "lDAPDisplayName") (codes "schemaIDGUID")) (c.is_one-known-6.ensures
    ∙ ap (two (codes "subClassOf") (codes "objectClassCategory")) (c.is_one-known-5.ensures
    ∙ ap (two (codes "rDNAttID") (codes "defaultSecurityDescriptor")) (c.is_one-known-4.ensures
    ∙ ap (two (codes "mustContain") (codes "mayContain")) (c.is_one-known-3.ensures
    ∙ ap (two (codes "possSuperiors") (codes "auxiliaryClass")) (c.is_one-known-2.ensures
    ∙ ap (two (codes "systemMustContain") (codes "systemMayContain")) c.is_one-known.ensures)))))
