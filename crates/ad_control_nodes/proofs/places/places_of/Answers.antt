use Rattle.std.proofs.Common.{◌≡◌, ◌∙◌, List, [], ◌∷◌, ◌++◌, length, take, sym, ap, subst, arith, length-take}
use Rattle.std.specs.Prelude.{nat_eq}
use Rattle.std.proofs.lemmas.List.{take_more}
use Rattle.indexmap.specs.IndexMap.{get}
use Rattle.ad_ids.specs.SidValue.{same_sid}
use Rattle.ad_control_graph.specs.declared.node.Node.{Node}
use Rattle.ad_control_nodes.specs.Steps.{AreAt}
use Rattle.ad_control_nodes.proofs.places.places_of.Goals as goal

pub loop-place-preserved : goal.loop-place-preserved
loop-place-preserved c =
    let l = c.loop-place in
    let nodes = c.args.nodes.now in
    let new = c.enter.new.places in
    let node = c.index-nodes-place.result in
    let done = take l.place nodes in
    let long : length done ≡ l.place = simp length-take (omega (arith, c.loop-place-test.true)) in
    subst (λ (k : List Node). AreAt k (get nat_eq new.objects) (get same_sid new.sids))
    (ap (λ (n : Node). done ++ n ∷ []) c.index-nodes-place.is ∙ sym (take_more nodes l.place node c.loop-place-test.true))
    (c.in_ok-enter.ensures done long l.invariant)
