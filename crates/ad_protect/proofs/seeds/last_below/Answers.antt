use Rattle.std.proofs.Common.{ℕ, ◌-◌, List, length, sym, ap, ◌∙◌}
use Rattle.std.specs.Prelude.{slice_get}
use Rattle.ad_protect.proofs.Below.{below_same, below_not}
use Rattle.ad_protect.proofs.seeds.last_below.Goals as goal

pub returns-then-is_below : goal.returns-then-is_below
returns-then-is_below c = λ number.
    below_same c.args.above.now c.args.sid.now c.in_ok-last.field-0.now number
    (ap (λ (words : List ℕ). slice_get words (length words - 1)) (sym c.sub_authorities.ensures)
    ∙ sym c.in_ok-last.ensures.value)
    (sym c.is_below.ensures ∙ c.if-is_below.true)

pub returns : goal.returns
returns c = λ number.
    below_not c.args.above.now c.args.sid.now c.in_ok-last.field-0.now number
    (ap (λ (words : List ℕ). slice_get words (length words - 1)) (sym c.sub_authorities.ensures)
    ∙ sym c.in_ok-last.ensures.value)
    (sym c.is_below.ensures ∙ c.if-is_below.false)
