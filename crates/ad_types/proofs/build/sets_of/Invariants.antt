use Rattle.std.proofs.Common.{◌≡◌, [], drop}
use Rattle.ad_types.specs.TypesOf.{infos_at, sets_behind}
use Rattle.ad_types.proofs.build.sets_of.Given as goal

abbrev pub invariant-loop-attr : goal.invariant-loop-attr
invariant-loop-attr l = sets_behind l.sets.items (infos_at l.schema (drop l.attr-index l.attrs))
    ≡ sets_behind [] (infos_at l.schema l.attrs)
