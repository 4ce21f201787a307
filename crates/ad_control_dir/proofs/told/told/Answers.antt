use Rattle.std.proofs.Common.{◌∙◌, refl, ap}
use Rattle.std.specs.Prelude.{Result, Err}
use Rattle.ad_principals.specs.Named.{is_memory}
use Rattle.ad_principals.specs.declared.fault.NameFault.{NameFault}
use Rattle.ad_who.specs.declared.fault.AskFault.TheVariants.{NoObject, Several}
use Rattle.ad_control_graph.specs.declared.node.Node.{Node}
use Rattle.ad_control_dir.proofs.Refusals.{refused}
use Rattle.ad_control_dir.proofs.told.told.Goals as goal

abbrev failed : NameFault → Result Node NameFault
failed fault = Err fault

pub returns-in-Err-NoObject : goal.returns-in-Err-NoObject
returns-in-Err-NoObject c =
    refused c.args.back c.args.dir.now c.args.name.now NoObject c.refusal.result
    (c.in-Err-NoObject.ensures.named (ap is_memory c.in-Err-NoObject.field-0-is)
    ∙ ap failed c.in-Err-NoObject.field-0-is) refl c.refusal.ensures

pub returns-in-Err-Several : goal.returns-in-Err-Several
returns-in-Err-Several c =
    refused c.args.back c.args.dir.now c.args.name.now Several c.refusal-in-Err-Several.result
    (c.in-Err-Several.ensures.named (ap is_memory c.in-Err-Several.field-0-is)
    ∙ ap failed c.in-Err-Several.field-0-is) refl c.refusal-in-Err-Several.ensures
