use Rattle.std.proofs.lemmas.Result.{err_from_is_err_and}
use Rattle.ad_frames.specs.Reading.{content_at, message_at}
use Rattle.ad_frames.proofs.SourceSteps.{told_more, fault_on, message_read, message_fault}
use Rattle.ad_frames.proofs.Cutting.{cut_part, same_fault}
use Rattle.ad_frames.specs.declared.fault.FrameFault.TheVariants as fault
use Rattle.ad_frames.proofs.reading.next_message.Goals as goal

pub returns-in_err-content-clause-read : goal.returns-in_err-content-clause-read
returns-in_err-content-clause-read g c =
    let p = err_from_is_err_and c.from_residual.result c.from_residual.ensures.1 in
    rw (p.1, p.2) (fault_on (g.I.Source.rest c.args.source.now) (g.I.Source.rest c.content.new.source)
    c.in_err-content.field-0.0 (content_at c.args.len) (message_at c.args.len)
    (message_fault c.args.len c.in_err-content.field-0.0) c.in_err-content.ensures.read)

pub returns-clause-read : goal.returns-clause-read
returns-clause-read g c = told_more (g.I.Source.rest c.args.source.now) (g.I.Source.rest c.content.new.source) _ _
    (λ b a. message_read c.args.len b c.in_ok-content.content a) c.in_ok-content.ensures.read

pub returns-in_err-content-clause-cut : goal.returns-in_err-content-clause-cut
returns-in_err-content-clause-cut g c =
    let p = err_from_is_err_and c.from_residual.result c.from_residual.ensures.1 in
    rw (p.1, p.2)
    (λ is. cut_part (g.I.Source.rest c.args.source.now) (g.I.Source.rest c.content.new.source) (content_at c.args.len)
    (message_at c.args.len)
    (message_fault c.args.len fault.Truncated)
    (c.in_err-content.ensures.cut (same_fault c.in_err-content.field-0.0 fault.Source is)))
