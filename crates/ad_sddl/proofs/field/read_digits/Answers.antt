use Rattle.std.proofs.Common.{◌≡◌, ◌<◌, ◌+◌, ◌*◌, ◌^◌, Some, None, sym, ap, ◌∙◌, arith}
use Rattle.ad_sddl.specs.Reading.{digit_here, digits_at}
use Rattle.ad_sddl.proofs.Digits.{digits_more, digits_end, digits_full, number_more, number_fits}
use Rattle.ad_sddl.proofs.field.read_digits.Goals as goal

pub returns-in_default-clause-read : goal.returns-in_default-clause-read
returns-in_default-clause-read c =
    let none : digit_here c.loop.input ≡ None = ap digit_here (sym c.rest.ensures) ∙ sym c.digit_here.ensures.value
    ∙ c.in_default.is in
    digits_end c.loop.counter c.loop.number c.loop.input (digits_at 8 0 c.args.input.now) none c.loop.invariant.1.1

pub overflow_mul-number : goal.overflow_mul-number
overflow_mul-number c =
    let fits : c.loop.number * 16 + c.in-Some.value < 2 ^ 32 = number_fits c.loop.counter c.loop.number
    c.in-Some.value c.loop-test.true c.loop.invariant.0 c.in-Some.ensures.below in
    omega (arith, fits)

pub overflow_add-number : goal.overflow_add-number
overflow_add-number c =
    let fits : c.loop.number * 16 + c.in-Some.value < 2 ^ 32 = number_fits c.loop.counter c.loop.number
    c.in-Some.value c.loop-test.true c.loop.invariant.0 c.in-Some.ensures.below in
    omega (arith, fits, c.from.ensures)

pub loop-preserved : goal.loop-preserved
loop-preserved c =
    let some : digit_here c.loop.input ≡ Some c.in-Some.value = ap digit_here (sym c.rest.ensures)
    ∙ sym c.digit_here.ensures.value ∙ c.in-Some.is in
    rw c.from.ensures (
      number_more c.loop.counter c.loop.number c.in-Some.value c.loop.invariant.0 c.in-Some.ensures.below,
      (
        omega (arith, c.skip.ensures.shorter, c.loop.invariant.1.0),
        digits_more c.loop.counter c.loop.number c.in-Some.value c.loop.input c.skip.new.input
            (digits_at 8 0 c.args.input.now) c.loop-test.true some c.skip.ensures.left c.loop.invariant.1.1,
      ),
    )

pub returns-clause-read : goal.returns-clause-read
returns-clause-read c = digits_full c.loop.counter c.loop.number c.loop.input (digits_at 8 0 c.args.input.now)
    c.loop-test.false c.loop.invariant.1.1
