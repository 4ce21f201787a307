use Rattle.ad_dir_model.specs.Attributes.{attr_name}
use Rattle.ad_schema.specs.Classes.{naming_of}
use Rattle.ad_dir.proofs.NameLaws.{is_of_kind, is_other_kind}
use Rattle.ad_dir.proofs.names.is_of_rdn.Goals as goal

pub returns-then-eq_ignore_ascii_case : goal.returns-then-eq_ignore_ascii_case
returns-then-eq_ignore_ascii_case c =
    is_of_kind (attr_name c.args.schema.now (naming_of c.args.schema.now c.args.class.0)) c.naming_name.result.now
    c.args.name.now c.args.kind.now c.args.value.now c.eq_ignore_ascii_case.result c.same_value.result
    c.naming_name.ensures.name c.eq_ignore_ascii_case.ensures.test c.same_value.ensures c.if-eq_ignore_ascii_case.true

pub returns-else-eq_ignore_ascii_case : goal.returns-else-eq_ignore_ascii_case
returns-else-eq_ignore_ascii_case c =
    is_other_kind (attr_name c.args.schema.now (naming_of c.args.schema.now c.args.class.0)) c.naming_name.result.now
    c.args.name.now c.args.kind.now c.args.value.now c.eq_ignore_ascii_case.result
    c.naming_name.ensures.name c.eq_ignore_ascii_case.ensures.test c.if-eq_ignore_ascii_case.false
