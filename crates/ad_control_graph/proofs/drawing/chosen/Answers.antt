use Rattle.std.proofs.Common.{◌≡◌, ◌∙◌, ℕ, ◌+◌, Bool, false, Some, List, sym, subst, arith}
use Rattle.std.specs.Prelude.{slice_get, slice_index_or}
use Rattle.std.specs.Global.{Vec}
use Rattle.std.proofs.lemmas.Option.{slice_get-get_or}
use Rattle.ad_control_graph.proofs.Choosing.{IsFound, found_if, found_unless, found_all}
use Rattle.ad_control_graph.proofs.drawing.chosen.Goals as goal
use Rattle.ad_control_graph.proofs.drawing.chosen.Goals.{in-Some+in_ok-push, in_default}

pub loop-place-preserved : goal.loop-place-preserved
loop-place-preserved c =
    let set : List Bool = c.args.set.now in
    let at : List ℕ = c.args.at.now in
    let l = c.loop-place in
    let flag : Bool = slice_index_or set l.place false in
    let is : slice_get set l.place ≡ Some flag = slice_get-get_or set l.place false c.loop-place-test.true in
    elim c.match-chosen_at.branch [
      | in-Some+in_ok-push w ↦
          subst (λ (v : Vec ℕ). IsFound set at (l.place + 1) v.items) (sym w.found-is)
          (subst (λ (list : List ℕ). IsFound set at (l.place + 1) list) (sym w.in_ok-push.ensures.items)
          (found_if set at l.place flag w.in-Some.node l.found.items is w.in-Some.ensures l.invariant))
      | in_default w ↦
          subst (λ (v : Vec ℕ). IsFound set at (l.place + 1) v.items) (sym w.found-is)
          (found_unless set at l.place flag l.found.items is (sym c.chosen_at.ensures ∙ w.in_default.is) l.invariant)
    ]

pub returns-clause-all : goal.returns-clause-all
returns-clause-all c =
    found_all c.args.set.now c.args.at.now c.loop-place.place c.loop-place.found.items (omega arith)
    c.loop-place.invariant
