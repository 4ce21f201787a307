use Rattle.ad_control_linked.proofs.Nodes.{given_next}
use Rattle.ad_control_placed.specs.Standing.{member_at}
use Rattle.ad_control_placed.proofs.members.members.Goals as goal

pub loop-place-preserved : goal.loop-place-preserved
loop-place-preserved c =
    let ground = c.args.ground.now in
    given_next (member_at ground.parties.tokens.all.items ground.at.items c.args.sid.now) c.holders_of-holders.result.now
    c.loop-place.found.items c.put_member.new.into.items c.loop-place.place-index c.loop-place-test.true
    c.loop-place.invariant c.in_ok-put_member.ensures
