use Rattle.std.proofs.Common.{length, ◌<◌, ◌^◌, arith}
use Rattle.std.proofs.lemmas.Result.{on_ok_weaker}
use Rattle.gate_log.proofs.Images.{lasts_both, lasts_other}
use Rattle.gate_log.proofs.Switching.{opening_moments, ending_moments, ended}
use Rattle.gate_log.proofs.Outside.{touches_on}
use Rattle.gate_log.proofs.rewrite.switch.Goals as goal

pub returns-in_err-set-clause-any_moment : goal.returns-in_err-set-clause-any_moment
returns-in_err-set-clause-any_moment g c =
    let s = g.S.Site in
    let old = c.args.site.now in
    let mid = c.set.new.site in
    let fits : length c.args.body.now < 2 ^ 64 = omega (arith, c.requires.small) in
    opening_moments c.args.version c.args.live c.args.generation c.args.body.now c.requires.above c.requires.below
    fits (s.reads old) (s.now old) (s.now mid) (s.left old) (s.left mid)
    c.requires.lasts c.set.ensures.outside.moments (rw c.other_of-beside.ensures at c.set.ensures.images)

pub returns-clause-switched : goal.returns-clause-switched
returns-clause-switched g c =
    let s = g.S.Site in
    let fits : length c.args.body.now < 2 ^ 64 = omega (arith, c.requires.small) in
    let puts = rw c.other_of-beside.ensures at c.in_ok-set.ensures.held in
    on_ok_weaker c.close.result (λ closes. ended c.args.version c.args.live c.args.generation c.args.body.now
    c.requires.above c.requires.below fits (s.reads c.args.site.now) (s.reads c.set.new.site)
    (s.reads c.close.new.site) puts closes)
    (rw c.is_first.ensures at c.close.ensures.held)

pub returns-clause-any_moment : goal.returns-clause-any_moment
returns-clause-any_moment g c =
    let s = g.S.Site in
    let old = c.args.site.now in
    let mid = c.set.new.site in
    let new = c.close.new.site in
    let fits : length c.args.body.now < 2 ^ 64 = omega (arith, c.requires.small) in
    let puts = rw c.other_of-beside.ensures at c.in_ok-set.ensures.held in
    let so_far = opening_moments c.args.version c.args.live c.args.generation c.args.body.now c.requires.above
    c.requires.below fits (s.reads old) (s.now old) (s.now mid) (s.left old) (s.left mid)
    c.requires.lasts c.set.ensures.outside.moments (rw c.other_of-beside.ensures at c.set.ensures.images) in
    let lasts = lasts_both c.other_of-beside.result (s.reads mid) (s.now mid) (s.left mid) c.in_ok-set.ensures.lasts
    (c.in_ok-set.ensures.others (lasts_other c.other_of-beside.result (s.reads old) (s.now old) (s.left old)
    c.requires.lasts)) in
    ending_moments c.args.version c.args.live c.args.generation c.args.body.now c.requires.above c.requires.below fits
    (s.reads old) (s.reads mid) (s.now old) (s.now mid) (s.now new) (s.left old) (s.left mid) (s.left new)
    puts lasts c.close.ensures.outside.moments (rw c.is_first.ensures at c.close.ensures.images) so_far

pub returns-clause-outside : goal.returns-clause-outside
returns-clause-outside g c = touches_on g.S.Site c.args.site.now c.set.new.site c.close.new.site c.set.ensures.outside
    c.close.ensures.outside
