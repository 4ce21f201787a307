use Rattle.std.proofs.Common.{arith, ◌∙◌, ◌-◌}
use Rattle.ad_ids.proofs.SidLaws.{other_place, same_places}
use Rattle.ad_ids.proofs.sid.SidPartialEq.eq.Goals as goal

pub returns-then-self-last : goal.returns-then-self-last
returns-then-self-last c = other_place c.self.inside c.other.inside c.args.self.now c.args.other.now
    (c.from-last.result - 1) c.self.view_is c.other.view_is (omega arith) (omega arith) c.if-self-last.true

pub returns-then-self-other-2 : goal.returns-then-self-other-2
returns-then-self-other-2 c = c.eq.ensures ∙ same_places c.self.inside c.other.inside c.args.self.now c.args.other.now
    c.self.view_is c.other.view_is c.self.invariant c.other.invariant (omega arith) c.if-self-other-2.true
