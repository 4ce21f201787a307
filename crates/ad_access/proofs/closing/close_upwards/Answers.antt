use Rattle.std.proofs.Common.{◌≡◌, ◌+◌, ◌-◌, ◌<◌, ℕ, [], None, length, subst, arith, rules}
use Rattle.ad_types.specs.declared.type_tree.Node.{Node}
use Rattle.ad_types.proofs.TreeLaws.{above_earlier}
use Rattle.ad_access.proofs.NodeClosing.{Closed, closed_none, closed_root, closed_more}
use Rattle.ad_access.proofs.closing.close_upwards.Goals as goal

pub loop-i-init : goal.loop-i-init
loop-i-init c = closed_none c.args.nodes.now c.args.rights.now c.requires.each

pub loop-i-preserved-in_default : goal.loop-i-preserved-in_default
loop-i-preserved-in_default c =
    let l = c.loop-i in
    let nodes = c.args.nodes.now in
    let before = c.args.rights.now in
    let d : Node = record { guid = record { bytes = [] }; above = None } in
    let back : l.i ≡ l.i - 1 + 1 = omega (arith, c.loop-i-test.true) in
    let lt : l.i - 1 < length nodes = omega (arith, c.loop-i-test.true, l.invariant.inside) in
    closed_root nodes before l.rights (l.i - 1) d lt c.in_default.is
    (subst (λ (n : ℕ). Closed nodes before l.rights n) back l.invariant)

pub offset_bounds-rights-above : goal.offset_bounds-rights-above
offset_bounds-rights-above c =
    let l = c.loop-i in
    let d : Node = record { guid = record { bytes = [] }; above = None } in
    let lt : l.i - 1 < length c.args.nodes.now = omega (arith, c.loop-i-test.true, l.invariant.inside) in
    let early = above_earlier c.args.nodes.now (l.i - 1) c.in-Some.above d c.requires.tree lt c.in-Some.is in
    let inside : c.in-Some.above < length l.rights = omega (arith, early, lt, l.invariant.len) in
    search rules

pub bounds-rights-above : goal.bounds-rights-above
bounds-rights-above c =
    let l = c.loop-i in
    let d : Node = record { guid = record { bytes = [] }; above = None } in
    let lt : l.i - 1 < length c.args.nodes.now = omega (arith, c.loop-i-test.true, l.invariant.inside) in
    let early = above_earlier c.args.nodes.now (l.i - 1) c.in-Some.above d c.requires.tree lt c.in-Some.is in
    omega (arith, early, lt, l.invariant.len)

pub bounds-rights-above-in-loop-i : goal.bounds-rights-above-in-loop-i
bounds-rights-above-in-loop-i c =
    let l = c.loop-i in
    let d : Node = record { guid = record { bytes = [] }; above = None } in
    let lt : l.i - 1 < length c.args.nodes.now = omega (arith, c.loop-i-test.true, l.invariant.inside) in
    let early = above_earlier c.args.nodes.now (l.i - 1) c.in-Some.above d c.requires.tree lt c.in-Some.is in
    omega (arith, early, lt, l.invariant.len)

pub loop-i-preserved : goal.loop-i-preserved
loop-i-preserved c =
    let l = c.loop-i in
    let nodes = c.args.nodes.now in
    let before = c.args.rights.now in
    let d : Node = record { guid = record { bytes = [] }; above = None } in
    let back : l.i ≡ l.i - 1 + 1 = omega (arith, c.loop-i-test.true) in
    let lt : l.i - 1 < length nodes = omega (arith, c.loop-i-test.true, l.invariant.inside) in
    closed_more nodes before l.rights (l.i - 1) c.in-Some.above d c.requires.tree lt c.in-Some.is
    (subst (λ (n : ℕ). Closed nodes before l.rights n) back l.invariant)
