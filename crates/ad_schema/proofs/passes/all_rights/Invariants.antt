use Rattle.std.proofs.Common.{◌≡◌, ◌++◌, drop, map}
use Rattle.ad_schema.specs.declared.line.SchemaKind.TheVariants.{Right}
use Rattle.ad_schema.specs.Attributes.{lines_of}
use Rattle.ad_schema.specs.Attributes.{right_info}
use Rattle.ad_schema.proofs.passes.all_rights.Given as goal

abbrev pub invariant-loop-record : goal.invariant-loop-record
invariant-loop-record l = l.infos.items ++ map right_info (lines_of Right (drop l.record-index l.records))
    ≡ map right_info (lines_of Right l.records)
