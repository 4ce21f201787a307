use Rattle.std.proofs.Common.{◌∙◌, Option, ap}
use Rattle.std.specs.Option.{option_map_or}
use Rattle.std.specs.Global.{Vec}
use Rattle.std.proofs.Common.{ℕ}
use Rattle.ad_diff.specs.Frames.{base_at, lines_at}
use Rattle.ad_diff.proofs.columns.lines_at.Goals as goal

pub returns-in-Some : goal.returns-in-Some
unfolding lines_at
returns-in-Some c = c.as_slice.ensures.value
    ∙ ap (λ (found : Option (Vec ℕ)). option_map_or (λ (lines : Vec ℕ). lines.items) found
    (base_at c.args.frame.now c.args.column.now.family c.args.place)) c.in-Some.ensures.value

pub returns-in-None : goal.returns-in-None
unfolding lines_at
returns-in-None c = c.base_at.ensures
    ∙ ap (λ (found : Option (Vec ℕ)). option_map_or (λ (lines : Vec ℕ). lines.items) found
    (base_at c.args.frame.now c.args.column.now.family c.args.place)) c.in-None.ensures.value
