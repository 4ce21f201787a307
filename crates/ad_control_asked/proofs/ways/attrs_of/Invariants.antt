use Rattle.std.proofs.Common.{◌≡◌, map, take}
use Rattle.ad_schema.specs.Attributes.{attr_named}
use Rattle.ad_control_graph.specs.Texts.{texts_seen}
use Rattle.ad_control_asked.proofs.ways.attrs_of.Given as goal

-- those so far
abbrev pub invariant-loop-name : goal.invariant-loop-name
invariant-loop-name l = l.found.items ≡ map (attr_named l.schema) (texts_seen (take l.name-index l.names))
