use Rattle.std.proofs.Common.{◌≡◌, ◌++◌, drop, map}
use Rattle.ad_schema.specs.declared.line.SchemaKind.TheVariants.{Class}
use Rattle.ad_schema.specs.Attributes.{lines_of}
use Rattle.ad_schema.proofs.classes.class_lines.Given as goal

abbrev pub invariant-loop-record : goal.invariant-loop-record
invariant-loop-record l = map (λ lines. lines.now) l.all.items ++ lines_of Class (drop l.record-index l.records)
    ≡ lines_of Class l.records
