use Rattle.std.proofs.Common.{◌∙◌}
use Rattle.ad_dir.proofs.NameLaws.{class_within, name_is_value, rdn_is, if_ok}
use Rattle.ad_dir.proofs.names.rdn_of.Goals as goal

pub rdn_of_class-requires-clause-class : goal.rdn_of_class-requires-clause-class
rdn_of_class-requires-clause-class c = class_within c.args.dir.now c.schema.result.now c.args.number
    c.live_object-object.result.now c.invariants.ensures c.requires c.schema.ensures c.live_object-object.ensures

pub rdn_of_class-requires-clause-name : goal.rdn_of_class-requires-clause-name
rdn_of_class-requires-clause-name c = name_is_value c.args.dir.now c.args.number c.live_object-object.result.now
    c.as_slice.result.now c.invariants.ensures c.requires c.live_object-object.ensures c.as_slice.ensures

pub returns-clause-made : goal.returns-clause-made
returns-clause-made c =
    if_ok c.rdn_of_class.result
    (λ rdn is. is ∙ rdn_is c.args.dir.now c.schema.result.now c.args.number c.live_object-object.result.now
    c.as_slice.result.now c.schema.ensures c.live_object-object.ensures c.as_slice.ensures)
    c.rdn_of_class.ensures.made
