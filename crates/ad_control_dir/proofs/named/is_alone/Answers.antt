use Rattle.std.proofs.Common.{◌∙◌, Option, sym, ap}
use Rattle.std.specs.Prelude.{Result, Ok}
use Rattle.ad_principals.specs.Named.{is_memory}
use Rattle.ad_principals.specs.declared.fault.NameFault.{NameFault}
use Rattle.ad_identities.specs.declared.identity.Identity.{Identity}
use Rattle.ad_control_dir.proofs.Naming.{is_alone, none_if, alone}
use Rattle.ad_control_dir.proofs.named.is_alone.Goals as goal

abbrev some : Option Identity → Result (Option Identity) NameFault
some found = Ok found

pub returns-in-Ok-Some : goal.returns-in-Ok-Some
returns-in-Ok-Some c =
    none_if c.in-Ok-Some.identity.number c.is_none.result c.is_none.ensures
    ∙ sym (ap is_alone (c.in-Ok-Some.ensures ∙ ap some c.in-Ok-Some.field-0-is))
    ∙ alone c.args.dir.now c.args.text.now c.args.sid.now c.requires

pub returns-in-Ok-None : goal.returns-in-Ok-None
returns-in-Ok-None c =
    sym (ap is_alone (c.in-Ok-None.ensures ∙ ap some c.in-Ok-None.field-0-is))
    ∙ alone c.args.dir.now c.args.text.now c.args.sid.now c.requires

pub returns-in-Err-NoObject : goal.returns-in-Err-NoObject
returns-in-Err-NoObject c =
    sym (ap is_alone (c.in-Err-NoObject.ensures (ap is_memory c.in-Err-NoObject.field-0-is)))
    ∙ alone c.args.dir.now c.args.text.now c.args.sid.now c.requires

pub returns-in-Err-Several : goal.returns-in-Err-Several
returns-in-Err-Several c =
    sym (ap is_alone (c.in-Err-Several.ensures (ap is_memory c.in-Err-Several.field-0-is)))
    ∙ alone c.args.dir.now c.args.text.now c.args.sid.now c.requires
