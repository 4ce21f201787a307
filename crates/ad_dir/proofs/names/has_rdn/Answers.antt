use Rattle.std.proofs.Common.{◌∙◌, ap}
use Rattle.ad_dn.specs.declared.rdn.Rdn.{Rdn}
use Rattle.ad_dir_model.specs.Names.{same_rdn}
use Rattle.ad_dir.proofs.NameLaws.{class_within, name_is_value, rdn_is}
use Rattle.ad_dir.proofs.names.has_rdn.Goals as goal

pub is_of_rdn-requires-clause-class : goal.is_of_rdn-requires-clause-class
is_of_rdn-requires-clause-class c = class_within c.args.dir.now c.schema.result.now c.args.number
    c.live_object-object.result.now c.invariants.ensures c.requires.live c.schema.ensures c.live_object-object.ensures

pub is_of_rdn-requires-clause-name : goal.is_of_rdn-requires-clause-name
is_of_rdn-requires-clause-name c = (name_is_value c.args.dir.now c.args.number c.live_object-object.result.now
    c.as_slice.result.now c.invariants.ensures c.requires.live c.live_object-object.ensures c.as_slice.ensures).utf8

pub returns : goal.returns
returns c =
    c.is_of_rdn.ensures
    ∙ ap (λ (own : Rdn). same_rdn own (record { kind = c.args.kind.now; value = c.args.value.now }))
    (rdn_is c.args.dir.now c.schema.result.now c.args.number c.live_object-object.result.now c.as_slice.result.now
    c.schema.ensures c.live_object-object.ensures c.as_slice.ensures)
