use Rattle.std.proofs.Common.{ℕ, take, subst}
use Rattle.std.specs.List.{All}
use Rattle.std.proofs.lemmas.List.{take_all}
use Rattle.std.proofs.lemmas.List.Elements.{All-more, All-weaker}
use Rattle.ad_control_dir.specs.Drawn.{IsDrawn}
use Rattle.ad_control_dir.proofs.Growing.{grows_both}
use Rattle.ad_control_dir.proofs.drawing.draw_kind.Goals as goal

pub loop-number-preserved : goal.loop-number-preserved
loop-number-preserved c =
    let l = c.loop-number in
    let dir = c.args.dir.now in
    let numbers = c.args.numbers.now in
    let new = c.draw_to.new.graph in
    record {
      drawing = c.in_ok-draw_to.ensures.drawing;
      judging = c.in_ok-draw_to.ensures.judging;
      places = c.in_ok-draw_to.ensures.places;
      grows = grows_both dir c.args.graph.now l.graph new l.invariant.grows c.in_ok-draw_to.ensures.grows;
      drawn = All-more (IsDrawn dir new c.args.kind) numbers l.number-index 0 c.loop-number-test.true
          (All-weaker (IsDrawn dir l.graph c.args.kind) (IsDrawn dir new c.args.kind)
          (c.in_ok-draw_to.ensures.grows.drawn c.args.kind) (take l.number-index numbers) l.invariant.drawn)
          c.in_ok-draw_to.ensures.drawn;
    }

pub returns-clause-drawn : goal.returns-clause-drawn
returns-clause-drawn c =
    let l = c.loop-number in
    subst (All (IsDrawn c.args.dir.now l.graph c.args.kind))
    (take_all l.number-index c.args.numbers.now c.loop-number-test.false) l.invariant.drawn
