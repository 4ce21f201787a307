use Rattle.std.proofs.Common.{◌≡◌, ◌∙◌, ℕ, true, List, subst}
use Rattle.std.specs.List.{All}
use Rattle.std.proofs.lemmas.List.Elements.{All-from_recursion}
use Rattle.ad_dir_model.specs.Objects.{is_live, numbers}
use Rattle.ad_principals.proofs.Identified.{all_live}
use Rattle.ad_control_graph.specs.declared.kind.Kind.{Kind}
use Rattle.ad_control_dir.specs.Drawn.{IsDrawn}
use Rattle.ad_control_dir.proofs.drawing.draw_all.Goals as goal

pub draw_kinds-requires-clause-live : goal.draw_kinds-requires-clause-live
draw_kinds-requires-clause-live c =
    let objects = c.args.dir.now.objects in
    All-from_recursion (λ (n : ℕ). is_live objects n ≡ true) c.as_slice.result.now
    (all_live objects c.as_slice.result.now (c.as_slice.ensures.value ∙ c.in_ok-numbers.ensures))

pub returns-clause-drawn : goal.returns-clause-drawn
returns-clause-drawn c =
    let dir = c.args.dir.now in
    let new = c.draw_kinds.new.graph in
    let of_kinds : List Kind → Type 0 = All (λ (kind : Kind). All (IsDrawn dir new kind) (numbers dir.objects)) in
    subst of_kinds c.all.ensures
    (subst (λ (l : List ℕ). All (λ (kind : Kind). All (IsDrawn dir new kind) l) c.all.result)
    (c.as_slice.ensures.value ∙ c.in_ok-numbers.ensures) c.in_ok-draw_kinds.ensures.drawn)
