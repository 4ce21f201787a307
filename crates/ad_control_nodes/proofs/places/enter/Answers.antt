use Rattle.std.proofs.Common.{◌∙◌, ℕ, Some, [], ◌∷◌, ◌++◌, cond, sym, ap, subst}
use Rattle.std.specs.Prelude.{nat_eq}
use Rattle.indexmap.specs.IndexMap.{get}
use Rattle.ad_ids.specs.SidValue.{same_sid}
use Rattle.ad_control_graph.specs.declared.node.Node.{Node}
use Rattle.ad_control_nodes.specs.Steps.{AreAt}
use Rattle.ad_control_nodes.proofs.Entering.{object_more, sid_more}
use Rattle.ad_control_nodes.proofs.places.enter.Goals as goal

pub returns-in_ok-insert-in-Object : goal.returns-in_ok-insert-in-Object
returns-in_ok-insert-in-Object c = λ done long at.
    let places = c.args.places.now in
    let number = c.in-Object.number in
    let sids = get same_sid places.sids in
    subst (λ (n : Node). AreAt (done ++ n ∷ []) (get nat_eq c.insert.new.self) sids) (sym c.in-Object.is)
    (object_more done number (get nat_eq places.objects) (get nat_eq c.insert.new.self) sids at
    (λ q. c.in_ok-insert-in-Object.ensures.updates.0 q
    ∙ ap (λ (k : ℕ). cond (nat_eq number q) (Some k) (get nat_eq places.objects q)) (sym long)))

pub returns-in_ok-insert-in-Identifier : goal.returns-in_ok-insert-in-Identifier
returns-in_ok-insert-in-Identifier c = λ done long at.
    let places = c.args.places.now in
    let sid = c.in-Identifier.sid in
    let objects = get nat_eq places.objects in
    let new = get same_sid c.insert-in-Identifier.new.self in
    subst (λ (n : Node). AreAt (done ++ n ∷ []) objects new) (sym c.in-Identifier.is)
    (sid_more done sid objects (get same_sid places.sids) new at
    (λ q. c.in_ok-insert-in-Identifier.ensures.updates.0 q
    ∙ ap (λ (k : ℕ). cond (same_sid sid q) (Some k) (get same_sid places.sids q)) (sym long)))
