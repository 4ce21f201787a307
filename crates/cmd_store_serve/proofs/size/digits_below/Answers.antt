use Rattle.std.proofs.Common.{◌+◌, ◌*◌, ◌-◌, ◌≤◌, get_or, sym, ◌∙◌}
use Rattle.ad_schema.proofs.NumberLemmas.{digits_more, digits_past}
use Rattle.cmd_store_serve.proofs.size.digits_below.Goals as goal

pub returns-then-number-ge-LIMIT-clause-value : goal.returns-then-number-ge-LIMIT-clause-value
returns-then-number-ge-LIMIT-clause-value c =
    let text = c.args.text.now in
    let i = c.loop-byte.byte-index in
    let step = digits_more 1001 c.loop-byte.number text i c.loop-byte-test.true
    (sym c.is_ascii_digit.ensures.value ∙ c.if-not-is_ascii_digit.false) in
    let most : 1001 ≤ c.loop-byte.number * 10 + (get_or text i 0 - 48)
    = rw c.from.ensures at c.if-number-ge-LIMIT.true in
    sym (digits_past 1001 _ _ most) ∙ sym step ∙ c.loop-byte.invariant.same
