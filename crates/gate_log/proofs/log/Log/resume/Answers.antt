use Rattle.std.proofs.Common.{◌∙◌, inr, Err, ap}
use Rattle.std.proofs.lemmas.Result.{err_from_is_err_and}
use Rattle.gate_log.specs.Reading.{bodies_of}
use Rattle.gate_log.specs.declared.fault.LogFault.{LogFault}
use Rattle.gate_log.proofs.Resuming.{same_fault, stopped_resume, shown_otherwise}
use Rattle.gate_log.proofs.log.Log.resume.Goals as goal

pub returns-in_err-log : goal.returns-in_err-log
returns-in_err-log g c =
    let p = err_from_is_err_and c.from_residual.result c.from_residual.ensures.1 in
    same_fault g.S.Site c.args.site.now c.resume_in.new.site (λ parts. parts.items) (λ copies. bodies_of copies.items)
    c.in_err-log.field-0.0 c.from_residual.result (p.1 ∙ ap (λ (f : LogFault). Err f) p.2) c.in_err-log.ensures

pub returns-in_err-copies : goal.returns-in_err-copies
returns-in_err-copies g c =
    let p = err_from_is_err_and c.from_residual-in_err-copies.result c.from_residual-in_err-copies.ensures.1 in
    stopped_resume g.S.Site c.args.site.now c.resume_in.new.site (λ copies. bodies_of copies.items) p.0
    c.from_residual-in_err-copies.result p.1 (inr p.2) c.in_ok-log.ensures.outside (λ never. absurd (cc (never, p.2)))

pub returns : goal.returns
returns g c =
    shown_otherwise g.S.Site c.args.site.now c.resume_in.new.site (λ parts. parts.items)
    (λ copies. bodies_of copies.items) c.in_ok-log.log c.in_ok-log.bodies c.in_ok-copies.copies
    (c.in_ok-copies.ensures ∙ c.as_slice.ensures.value) c.in_ok-log.ensures
