use Rattle.std.proofs.Common.{◌≡◌, ℕ, List, length, subst, arith}
use Rattle.std.proofs.lemmas.Bool.Decides.{nat_tests}
use Rattle.cmd_call.proofs.Moments.{IsLawful}
use Rattle.ad_ldifmod.proofs.OneByOne.{room_at_first}
use Rattle.cmd_grants.specs.Sending.{Sends}
use Rattle.cmd_grants.proofs.HoldSteps.{sending_none, sending_next, sent_amid, sent_all}
use Rattle.cmd_grants.proofs.sending.send_frames.Goals as goal

pub lines-init : goal.lines-init
lines-init g c =
    let law : IsLawful g.S.Site = record { output = g.met.S.Site.left_output; until = g.met.S.Site.left_until } in
    record {
      so_far = sending_none g.S.Site law c.args.site.now c.args.dir.now c.args.text.now c.nothing-held.result.items
          c.none-taken.result c.none-taken.ensures c.nothing-held.ensures;
      room = room_at_first c.none-taken.result c.args.text.now c.none-taken.ensures c.requires.few;
    }

pub lines-preserved : goal.lines-preserved
lines-preserved g c =
    let l = c.lines in
    let steps = c.in-Ok.ensures.next in
    record {
      so_far = sending_next g.S.Site c.args.site.now l.site c.step.new.site c.args.dir.now c.args.text.now l.rest.now
          c.in-Ok.behind.now l.held.items c.step.new.held.items l.taken c.step.new.taken l.invariant.so_far steps;
      room = steps.room;
    }

pub returns-in-Err : goal.returns-in-Err
returns-in-Err g c =
    let l = c.lines in
    sent_amid g.S.Site c.args.site.now l.site c.step.new.site c.args.dir.now c.args.text.now l.rest.now l.held.items
    l.taken c.in-Err.outcome c.requires.some l.invariant.so_far c.in-Err.ensures.cut

pub returns : goal.returns
returns g c =
    let l = c.lines in
    let none : length l.rest.now ≡ 0 = grind (arith, nat_tests) in
    sent_all g.S.Site c.args.site.now l.site c.send.new.site c.args.dir.now c.args.text.now l.rest.now l.held.items
    l.taken c.send.result none l.invariant.so_far
    (subst (λ (text : List ℕ). Sends g.S.Site text l.site c.send.new.site c.send.result) c.deref.ensures.value
    c.send.ensures)
