use Rattle.std.proofs.Common.{◌∙◌, sym}
use Rattle.std.proofs.lemmas.Result.{err_from_is_err_and}
use Rattle.cmd_plain.proofs.Refusals.{no_question, one_fault}
use Rattle.cmd_plain.proofs.granting.answer.Goals as goal

pub returns-in_err-request-clause-refused : goal.returns-in_err-request-clause-refused
returns-in_err-request-clause-refused c = λ form question.
    let p = err_from_is_err_and c.from_residual.result c.from_residual.ensures.1 in
    no_question c.in_err-request.field-0.0 question.0 (sym p.2 ∙ one_fault c.from_residual.result p.0 p.1 form)
    (c.in_err-request.ensures.only question.0 question.1)
