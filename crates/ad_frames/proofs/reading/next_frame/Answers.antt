use Rattle.std.proofs.Common.{◌≡◌, List, ℕ, Some, Ok}
use Rattle.std.proofs.lemmas.Result.{err_from_is_err_and}
use Rattle.ad_frames.specs.Reading.{option_header_at, body_by, next_of}
use Rattle.ad_frames.proofs.SourceSteps.{told_more, told_then, left_then, fault_on, fault_then, next_none, next_read}
use Rattle.ad_frames.proofs.SourceSteps.{next_wrong, next_fault, not_at_end}
use Rattle.ad_frames.specs.declared.fault.FrameFault.TheVariants as fault
use Rattle.ad_frames.proofs.Cutting.{cut_part, cut_behind, frame_cut_head, same_fault}
use Rattle.ad_frames.specs.Reading.{header_at, frame_at}
use Rattle.ad_frames.proofs.reading.next_frame.Goals as goal

pub returns-in_err-next_header-clause-next : goal.returns-in_err-next_header-clause-next
returns-in_err-next_header-clause-next g c =
    let p = err_from_is_err_and c.from_residual.result c.from_residual.ensures.1 in
    let d = c.in_err-next_header.field-0.0 in
    rw (p.1, p.2) (fault_on (g.I.Source.rest c.args.source.now) (g.I.Source.rest c.next_header.new.source) d
    option_header_at next_of (next_fault d) c.in_err-next_header.ensures.read)

pub returns-in_err-body-in-Some-clause-next : goal.returns-in_err-body-in-Some-clause-next
returns-in_err-body-in-Some-clause-next g c =
    let p = err_from_is_err_and c.from_residual-in_err-body-in-Some.result
    c.from_residual-in_err-body-in-Some.ensures.1 in
    let d = c.in_err-body-in-Some.field-0.0 in
    let h = c.in-Some.header in
    let has = rw c.in-Some.is at c.in_ok-next_header.ensures.read in
    rw (p.1, p.2) (fault_then (g.I.Source.rest c.args.source.now) (g.I.Source.rest c.next_header.new.source)
    (g.I.Source.rest c.next_body.new.source) d (λ (b m : List ℕ). option_header_at b ≡ Ok (Some h, m))
    (body_by h.kind h.len) next_of (λ b m e i. next_wrong b m h d e i) has c.in_err-body-in-Some.ensures.read)

pub returns-in_err-body-in-Some-clause-told : goal.returns-in_err-body-in-Some-clause-told
returns-in_err-body-in-Some-clause-told g c = left_then (g.I.Source.rest c.args.source.now)
    (g.I.Source.rest c.next_header.new.source) (g.I.Source.rest c.next_body.new.source) c.next_header.ensures.told
    c.next_body.ensures.told

pub returns-in_err-body-in-Some-clause-memory : goal.returns-in_err-body-in-Some-clause-memory
returns-in_err-body-in-Some-clause-memory g c = λ _.
    let has = rw c.in-Some.is at c.in_ok-next_header.ensures.read in
    told_then (g.I.Source.rest c.args.source.now) (g.I.Source.rest c.next_header.new.source)
    (g.I.Source.rest c.next_body.new.source) _ _ _ (λ b m a e i. not_at_end b c.in-Some.header m e) has
    c.next_body.ensures.told

pub returns-in-None-clause-next : goal.returns-in-None-clause-next
returns-in-None-clause-next g c =
    let none = rw c.in-None.is at c.in_ok-next_header.ensures.read in
    told_more (g.I.Source.rest c.args.source.now) (g.I.Source.rest c.next_header.new.source) _ _
    (λ b a e. next_none b a e) none

pub returns-in_ok-body-in-Some-clause-next : goal.returns-in_ok-body-in-Some-clause-next
returns-in_ok-body-in-Some-clause-next g c =
    let h = c.in-Some.header in
    let has = rw c.in-Some.is at c.in_ok-next_header.ensures.read in
    told_then (g.I.Source.rest c.args.source.now) (g.I.Source.rest c.next_header.new.source)
    (g.I.Source.rest c.next_body.new.source) _ _ _ (λ b m a e i. next_read b m a h c.in_ok-body-in-Some.body e i)
    has c.in_ok-body-in-Some.ensures.read

pub returns-in_ok-body-in-Some-clause-told : goal.returns-in_ok-body-in-Some-clause-told
returns-in_ok-body-in-Some-clause-told g c = left_then (g.I.Source.rest c.args.source.now)
    (g.I.Source.rest c.next_header.new.source) (g.I.Source.rest c.next_body.new.source) c.next_header.ensures.told
    c.next_body.ensures.told

pub returns-in_err-next_header-clause-cut : goal.returns-in_err-next_header-clause-cut
returns-in_err-next_header-clause-cut g c =
    let p = err_from_is_err_and c.from_residual.result c.from_residual.ensures.1 in
    rw (p.1, p.2)
    (λ is. cut_part (g.I.Source.rest c.args.source.now) (g.I.Source.rest c.next_header.new.source) header_at frame_at
    frame_cut_head (c.in_err-next_header.ensures.cut (same_fault c.in_err-next_header.field-0.0 fault.Source is)))

pub returns-in_err-body-in-Some-clause-cut : goal.returns-in_err-body-in-Some-clause-cut
returns-in_err-body-in-Some-clause-cut g c =
    let p = err_from_is_err_and c.from_residual-in_err-body-in-Some.result
    c.from_residual-in_err-body-in-Some.ensures.1 in
    let h = c.in-Some.header in
    let has = rw c.in-Some.is at c.in_ok-next_header.ensures.read in
    rw (p.1, p.2)
    (λ is. cut_behind (g.I.Source.rest c.args.source.now) (g.I.Source.rest c.next_header.new.source)
    (g.I.Source.rest c.next_body.new.source) h has
    (c.in_err-body-in-Some.ensures.cut (same_fault c.in_err-body-in-Some.field-0.0 fault.Source is)))
