use Rattle.std.proofs.Common.{◌≡◌, ◌++◌, drop, map}
use Rattle.ad_schema.specs.declared.line.SchemaKind.TheVariants.{Attribute}
use Rattle.ad_schema.specs.Attributes.{lines_of}
use Rattle.ad_schema.specs.Attributes.{attr_info}
use Rattle.ad_schema.proofs.passes.all_attrs.Given as goal

abbrev pub invariant-loop-record : goal.invariant-loop-record
invariant-loop-record l = l.infos.items ++ map attr_info (lines_of Attribute (drop l.record-index l.records))
    ≡ map attr_info (lines_of Attribute l.records)
