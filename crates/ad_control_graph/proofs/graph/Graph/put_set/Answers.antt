use Rattle.std.proofs.Common.{refl, arith}
use Rattle.ad_control_graph.specs.declared.graph.Graph.{Graph}
use Rattle.ad_control_graph.proofs.Sets.{put_keeps, put_readies, put_is, put_over}
use Rattle.ad_control_graph.proofs.graph.Graph.put_set.Goals as goal

pub returns-clause-over : goal.returns-clause-over
returns-clause-over c =
    let old : Graph = c.args.self.now in
    let new : Graph = record { nodes = old.nodes; sets = c.push.new.self; arcs = old.arcs; kinds = old.kinds } in
    put_over old new c.args.members c.requires.members
    (record { nodes = refl; arcs = refl; kinds = refl; sets = c.in_ok-push.ensures.items })

pub returns-clause-sets : goal.returns-clause-sets
returns-clause-sets c =
    let old : Graph = c.args.self.now in
    let new : Graph = record { nodes = old.nodes; sets = c.push.new.self; arcs = old.arcs; kinds = old.kinds } in
    put_keeps old new c.args.members
    (record { nodes = refl; arcs = refl; kinds = refl; sets = c.in_ok-push.ensures.items })

pub returns-clause-readies : goal.returns-clause-readies
returns-clause-readies c =
    let old : Graph = c.args.self.now in
    let new : Graph = record { nodes = old.nodes; sets = c.push.new.self; arcs = old.arcs; kinds = old.kinds } in
    put_readies old new c.args.members
    (record { nodes = refl; arcs = refl; kinds = refl; sets = c.in_ok-push.ensures.items })

pub returns-clause-set : goal.returns-clause-set
returns-clause-set c =
    let old : Graph = c.args.self.now in
    let new : Graph = record { nodes = old.nodes; sets = c.push.new.self; arcs = old.arcs; kinds = old.kinds } in
    put_is old new c.args.members c.len-place.result (omega (arith, c.len-place.ensures, old.sets.ok.0))
    (record { nodes = refl; arcs = refl; kinds = refl; sets = c.in_ok-push.ensures.items })
