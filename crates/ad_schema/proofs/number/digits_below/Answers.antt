use Rattle.std.proofs.Common.{◌+◌, ◌*◌, ◌-◌, ◌≤◌, get_or, sym, ◌∙◌}
use Rattle.ad_schema.proofs.NumberLemmas.{digits_more, digits_past}
use Rattle.ad_schema.proofs.number.digits_below.Goals as goal

pub returns-then-number-limit-clause-value : goal.returns-then-number-limit-clause-value
returns-then-number-limit-clause-value c =
    let text = c.args.text.now in
    let i = c.loop-byte.byte-index in
    let step = digits_more c.args.limit c.loop-byte.number text i c.loop-byte-test.true
    (sym c.is_ascii_digit.ensures.value ∙ c.if-not-is_ascii_digit.false) in
    let most : c.args.limit ≤ c.loop-byte.number * 10 + (get_or text i 0 - 48)
    = rw c.from.ensures at c.if-number-limit.true in
    sym (digits_past c.args.limit _ _ most) ∙ sym step ∙ c.loop-byte.invariant.same
