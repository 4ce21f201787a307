use Rattle.std.proofs.Common.{ℕ, List, Ok, sym, ap, ◌∙◌, arith}
use Rattle.std.proofs.lemmas.Result.{err_from_is_err_and}
use Rattle.ad_sddl.specs.Reading.{field_at}
use Rattle.ad_sddl.proofs.Codes.{codes_done, codes_more, codes_stop}
use Rattle.ad_sddl.proofs.field.read_codes.Goals as goal

pub returns-in_err-mask-clause-read : goal.returns-in_err-mask-clause-read
returns-in_err-mask-clause-read c =
    let p = err_from_is_err_and c.from_residual.result c.from_residual.ensures.1 in
    let i = c.loop-kind.invariant.1 in
    rw (p.1, p.2) (codes_stop c.args.table.now c.args.kind i.0 c.loop-kind.mask c.loop-kind.input
    c.in_err-mask.field-0.0 (field_at c.args.table.now c.args.kind c.args.input.now) i.1.0
    (sym c.loop-kind-test.ensures.is) c.in_err-mask.ensures.read i.1.1)

pub loop-kind-preserved : goal.loop-kind-preserved
loop-kind-preserved c =
    let i = c.loop-kind.invariant.1 in (
      omega (arith, c.in_ok-mask.ensures.left, c.loop-kind.invariant.0),
      codes_more c.args.table.now c.args.kind i.0
          c.loop-kind.mask c.loop-kind.input c.in_ok-mask.field-0 c.read_code.new.input
          (field_at c.args.table.now c.args.kind c.args.input.now) i.1.0 (sym c.loop-kind-test.ensures.is)
          c.in_ok-mask.ensures.read c.in_ok-mask.ensures.left i.1.1,
    )

pub returns-clause-read : goal.returns-clause-read
returns-clause-read c =
    let i = c.loop-kind.invariant.1 in
    sym i.1.1 ∙ codes_done c.args.table.now c.args.kind i.0 c.loop-kind.mask c.loop-kind.input i.1.0
    (sym c.loop-kind-test.ensures.is) ∙ ap (λ (r : List ℕ). Ok (c.loop-kind.mask, r)) (sym c.skip.ensures.left)

pub returns-clause-left : goal.returns-clause-left
returns-clause-left c = omega (arith, c.skip.ensures.shorter, c.loop-kind.invariant.0)
