use Rattle.std.proofs.Common.{◌≡◌, drop}
use Rattle.ad_schema.specs.declared.line.SchemaKind.TheVariants.{Class}
use Rattle.ad_schema.specs.Attributes.{lines_of}
use Rattle.ad_schema.specs.Records.{first_unknown}
use Rattle.ad_schema.proofs.passes.first_unknown.Given as goal

abbrev pub invariant-loop-record : goal.invariant-loop-record
invariant-loop-record l = first_unknown l.attrs l.classes (lines_of Class (drop l.record-index l.records))
    ≡ first_unknown l.attrs l.classes (lines_of Class l.records)
