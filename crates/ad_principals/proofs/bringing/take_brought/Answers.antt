use Rattle.std.proofs.Common.{sym}
use Rattle.std.proofs.lemmas.Result.{on_ok_weaker}
use Rattle.ad_principals.specs.Groups.{Brings}
use Rattle.ad_principals.proofs.Identified.{with_sid_has, none_brought}
use Rattle.ad_principals.proofs.Sets.{takes_none}
use Rattle.ad_principals.proofs.Steps.{brought_are}
use Rattle.ad_principals.proofs.bringing.take_brought.Goals as goal

pub returns-in-Some : goal.returns-in-Some
returns-in-Some c =
    on_ok_weaker c.take_of.result
    (brought_are c.args.dir.now c.args.sid.now c.in-Some.number c.args.members.now c.args.taken.now.keys
    c.take_of.new.taken.keys c.invariants.ensures c.requires
    (with_sid_has c.args.dir.now c.args.sid.now c.in-Some.number c.invariants.ensures (sym c.in-Some.ensures)))
    c.take_of.ensures

pub returns-in-None : goal.returns-in-None
returns-in-None c =
    takes_none (Brings c.args.dir.now c.args.sid.now) c.args.taken.now.keys
    (λ other brings. absurd (none_brought c.args.dir.now c.args.sid.now other (sym c.in-None.ensures) brings))
