use Rattle.std.proofs.Common.{ℕ, take, subst}
use Rattle.std.specs.List.{All}
use Rattle.std.proofs.lemmas.List.{take_all}
use Rattle.std.proofs.lemmas.List.Elements.{All-more, All-weaker}
use Rattle.ad_control_graph.specs.declared.kind.Kind.{Kind}
use Rattle.ad_control_graph.specs.declared.kind.Kind.TheVariants.{Descriptor}
use Rattle.ad_control_dir.specs.Drawn.{IsDrawn}
use Rattle.ad_control_dir.proofs.Growing.{grows_both}
use Rattle.ad_control_dir.proofs.drawing.draw_kinds.Goals as goal

pub loop-kind-preserved : goal.loop-kind-preserved
loop-kind-preserved c =
    let l = c.loop-kind in
    let dir = c.args.dir.now in
    let numbers = c.args.numbers.now in
    let new = c.draw_kind.new.graph in
    record {
      drawing = c.in_ok-draw_kind.ensures.drawing;
      judging = c.in_ok-draw_kind.ensures.judging;
      places = c.in_ok-draw_kind.ensures.places;
      grows = grows_both dir c.args.graph.now l.graph new l.invariant.grows c.in_ok-draw_kind.ensures.grows;
      drawn = All-more (λ (kind : Kind). All (IsDrawn dir new kind) numbers) c.args.kinds.now l.kind-index Descriptor
          c.loop-kind-test.true
          (All-weaker (λ (kind : Kind). All (IsDrawn dir l.graph kind) numbers)
          (λ (kind : Kind). All (IsDrawn dir new kind) numbers)
          (λ kind. All-weaker (IsDrawn dir l.graph kind) (IsDrawn dir new kind)
          (c.in_ok-draw_kind.ensures.grows.drawn kind) numbers) (take l.kind-index c.args.kinds.now) l.invariant.drawn)
          c.in_ok-draw_kind.ensures.drawn;
    }

pub returns-clause-drawn : goal.returns-clause-drawn
returns-clause-drawn c =
    let l = c.loop-kind in
    subst (All (λ (kind : Kind). All (IsDrawn c.args.dir.now l.graph kind) c.args.numbers.now))
    (take_all l.kind-index c.args.kinds.now c.loop-kind-test.false) l.invariant.drawn
