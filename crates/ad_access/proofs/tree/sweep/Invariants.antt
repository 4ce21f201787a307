use Rattle.std.specs.Option.{option_copied}
use Rattle.ad_sd.specs.Seen.{seen}
use Rattle.ad_sd.specs.View.{to_come}
use Rattle.ad_access.specs.Rank.{holder_of}
use Rattle.ad_access.proofs.NodesSwept.{NodesSwept}
use Rattle.ad_access.proofs.tree.sweep.Given as goal

abbrev pub invariant-loop-ace : goal.invariant-loop-ace
invariant-loop-ace l = NodesSwept l.owner (holder_of l.token l.rank) (option_copied l.self_sid) l.nodes
    (seen l.view).dacl.entries (to_come l.ace-iterator) l.want l.found l.still l.owned
