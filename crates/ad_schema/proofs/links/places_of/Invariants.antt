use Rattle.std.proofs.Common.{◌≡◌, ◌++◌, drop}
use Rattle.ad_schema.specs.Classes.{places_of}
use Rattle.ad_schema.proofs.links.places_of.Given as goal

abbrev pub invariant-loop-line : goal.invariant-loop-line
invariant-loop-line l = l.ids ++ places_of l.names l.field l.system (drop l.line-index l.lines)
    ≡ places_of l.names l.field l.system l.lines
