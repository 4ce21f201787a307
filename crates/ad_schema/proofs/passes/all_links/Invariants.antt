use Rattle.std.proofs.Common.{◌≡◌, ◌++◌, drop, map}
use Rattle.ad_schema.specs.declared.line.SchemaKind.TheVariants.{Class}
use Rattle.ad_schema.specs.Attributes.{lines_of}
use Rattle.ad_schema.specs.Links.{links_in}
use Rattle.ad_schema.proofs.passes.all_links.Given as goal

abbrev pub invariant-loop-record : goal.invariant-loop-record
invariant-loop-record l = l.links.items ++ map (links_in l.attrs l.classes)
    (lines_of Class (drop l.record-index l.records)) ≡ map (links_in l.attrs l.classes) (lines_of Class l.records)
