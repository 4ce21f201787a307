use Rattle.ad_sets.proofs.Numbering.{members_next, members_end}
use Rattle.ad_sets.proofs.telling.put_members.Goals as goal

pub loop-place-preserved : goal.loop-place-preserved
loop-place-preserved c =
    let l = c.loop-place in
    members_next c.args.set.now c.args.number l.place _ l.facts.items c.put_if.new.facts.items _ c.loop-place-test.true
    c.in_ok-put_if.ensures l.invariant

pub returns : goal.returns
returns c =
    let l = c.loop-place in
    members_end c.args.set.now c.args.number l.place l.facts.items _ c.loop-place-test.false l.invariant
