use Rattle.std.proofs.Common.{◌∙◌, sym}
use Rattle.ad_control_dir.proofs.Growing.{none_drawn}
use Rattle.ad_control_dir.proofs.drawing.draw_to.Goals as goal

pub returns-then-not-is_of-clause-drawn : goal.returns-then-not-is_of-clause-drawn
returns-then-not-is_of-clause-drawn c =
    none_drawn c.args.dir.now c.args.graph.now c.args.kind c.args.number (sym c.is_of.ensures ∙ c.if-not-is_of.true)
