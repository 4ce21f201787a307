use Rattle.std.proofs.Common.{◌≡◌, Ok, List, ℕ, ap, sym, ◌∙◌, arith}
use Rattle.std.proofs.lemmas.Result.{err_from_is_err_and}
use Rattle.ad_bytes.specs.Numbers.{part_at}
use Rattle.ad_ber.proofs.Digits.{long_read, long_above, long_short}
use Rattle.ad_ber.proofs.finding.long.Goals as goal

pub returns-in_err-digits-clause-read : goal.returns-in_err-digits-clause-read
returns-in_err-digits-clause-read c =
    let p = err_from_is_err_and c.from_residual.result c.from_residual.ensures.1 in
    rw (p.1, p.2) (long_short c.args.count c.args.input.now (rw c.from.ensures at c.in_err-digits.ensures.read))

pub returns-in-Some-clause-read : goal.returns-in-Some-clause-read
returns-in-Some-clause-read c =
    let part : part_at c.args.count c.args.input.now ≡ Ok (c.rest.result.now, c.part.new.self)
    = ap (λ n. part_at n c.args.input.now) (sym c.from.ensures) ∙ c.in_ok-digits.ensures.read
    ∙ ap (λ (d : List ℕ). Ok (d, c.part.new.self)) (sym c.rest.ensures) in
    long_read c.args.count c.args.input.now c.rest.result.now c.part.new.self c.in-Some.number part c.in-Some.ensures
    (omega arith)

pub returns-in-None-clause-read : goal.returns-in-None-clause-read
returns-in-None-clause-read c =
    let part : part_at c.args.count c.args.input.now ≡ Ok (c.rest.result.now, c.part.new.self)
    = ap (λ n. part_at n c.args.input.now) (sym c.from.ensures) ∙ c.in_ok-digits.ensures.read
    ∙ ap (λ (d : List ℕ). Ok (d, c.part.new.self)) (sym c.rest.ensures) in
    long_above c.args.count c.args.input.now c.rest.result.now c.part.new.self part c.in-None.ensures
