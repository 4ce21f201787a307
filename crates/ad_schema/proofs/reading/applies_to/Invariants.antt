use Rattle.std.proofs.Common.{◌≡◌, ◌++◌, drop}
use Rattle.std.specs.List.{filter_map}
use Rattle.ad_schema.specs.declared.field.Field.TheVariants.{AppliesTo}
use Rattle.ad_ids.specs.GuidText.{guid_of_text}
use Rattle.ad_schema.specs.Fields.{values_of}
use Rattle.ad_schema.proofs.reading.applies_to.Given as goal

abbrev pub invariant-loop-line : goal.invariant-loop-line
invariant-loop-line l = l.guids ++ filter_map guid_of_text (values_of AppliesTo AppliesTo (drop l.line-index l.lines))
    ≡ filter_map guid_of_text (values_of AppliesTo AppliesTo l.lines)
