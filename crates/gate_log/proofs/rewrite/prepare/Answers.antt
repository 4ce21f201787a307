use Rattle.std.proofs.Common.{length}
use Rattle.std.proofs.lemmas.Result.{on_ok_weaker}
use Rattle.gate_log.proofs.Rewriting.{closing_moments, writing_moments, prepared}
use Rattle.gate_log.proofs.Outside.{touches_on}
use Rattle.gate_log.proofs.rewrite.prepare.Goals as goal

pub returns-in_err-close-clause-any_moment : goal.returns-in_err-close-clause-any_moment
returns-in_err-close-clause-any_moment g c =
    let s = g.S.Site in
    let old = c.args.site.now in
    let mid = c.close.new.site in
    closing_moments c.args.version c.args.live c.args.generation c.args.other_open c.args.body.now (s.reads old)
    (s.now old) (s.now mid) (s.left old) (s.left mid)
    c.requires.lasts c.close.ensures.outside.moments
    (rw (c.other_of-beside.ensures, c.has_to_close.ensures) at c.close.ensures.images)

pub returns-clause-prepared : goal.returns-clause-prepared
returns-clause-prepared g c =
    let s = g.S.Site in
    let r0 = s.reads c.args.site.now in
    let r1 = s.reads c.close.new.site in
    let r2 = s.reads c.set.new.site in
    let closes = rw (c.other_of-beside.ensures, c.has_to_close.ensures) at c.in_ok-close.ensures.held in
    on_ok_weaker c.set.result (λ puts. prepared c.args.version c.args.live c.args.generation c.args.other_open
    c.args.body.now r0 r1 r2 closes puts)
    (rw (c.other_of-beside.ensures, c.requires.spelled) at c.set.ensures.held)

pub returns-clause-any_moment : goal.returns-clause-any_moment
returns-clause-any_moment g c =
    let s = g.S.Site in
    let old = c.args.site.now in
    let mid = c.close.new.site in
    let new = c.set.new.site in
    let closes = rw (c.other_of-beside.ensures, c.has_to_close.ensures) at c.in_ok-close.ensures.held in
    let so_far = closing_moments c.args.version c.args.live c.args.generation c.args.other_open c.args.body.now
    (s.reads old) (s.now old) (s.now mid) (s.left old) (s.left mid)
    c.requires.lasts c.close.ensures.outside.moments
    (rw (c.other_of-beside.ensures, c.has_to_close.ensures) at c.close.ensures.images) in
    writing_moments c.args.version c.args.live c.args.generation c.args.other_open c.args.body.now (s.reads old)
    (s.reads mid) (s.now old) (s.now mid) (s.now new) (length c.args.bytes.now) (s.left old) (s.left mid)
    (s.left new)
    closes (c.in_ok-close.ensures.lasts c.requires.lasts) c.set.ensures.outside.moments
    (rw c.other_of-beside.ensures at c.set.ensures.images) so_far

pub returns-clause-outside : goal.returns-clause-outside
returns-clause-outside g c = touches_on g.S.Site c.args.site.now c.close.new.site c.set.new.site
    c.close.ensures.outside c.set.ensures.outside
