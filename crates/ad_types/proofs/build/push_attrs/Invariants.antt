use Rattle.std.proofs.Common.{◌≡◌, ◌++◌, map, drop}
use Rattle.ad_types.specs.TypesOf.{infos_at, attr_node}
use Rattle.ad_types.proofs.build.push_attrs.Given as goal

abbrev pub invariant-loop-attr : goal.invariant-loop-attr
invariant-loop-attr l = l.nodes.items ++ map (attr_node l.sets) (infos_at l.schema (drop l.attr-index l.attrs))
    ≡ l.initial.nodes.items ++ map (attr_node l.sets) (infos_at l.schema l.attrs)
