use Rattle.std.proofs.Common.{◌≡◌, ◌∙◌, List, length, sym, subst, ap, arith}
use Rattle.std.proofs.lemmas.Bool.Decides.{nat_tests}
use Rattle.ad_ldap.specs.declared.requests.Message.{Message}
use Rattle.ad_ldifmod.specs.Grants.{messages_of}
use Rattle.ad_ldifmod.specs.Taken.{left, joined}
use Rattle.ad_ldifmod.proofs.OneByOne.{more_joined, all_taken, begun, room_at_first}
use Rattle.ad_ldifmod.proofs.Framing.{framed}
use Rattle.ad_ldifmod.proofs.taking.grants.Goals as goal

pub lines-init : goal.lines-init
lines-init c = record {
  goes_on = subst (λ (messages : List Message). messages_of c.args.dir.now c.args.text.now
      ≡ joined messages (left c.args.dir.now c.none-taken.result c.args.text.now)) (sym c.no_messages-messages.ensures)
      (begun c.args.dir.now c.none-taken.result c.args.text.now c.none-taken.ensures);
  room = room_at_first c.none-taken.result c.args.text.now c.none-taken.ensures c.requires;
}

pub lines-preserved : goal.lines-preserved
lines-preserved c =
    let next = c.in_ok-message.ensures.next in
    let others = left c.args.dir.now c.next_message.new.taken c.in_ok-message.behind.now in
    record {
      goes_on = subst (λ (messages : List Message). messages_of c.args.dir.now c.args.text.now
          ≡ joined messages (left c.args.dir.now c.next_message.new.taken c.in_ok-message.behind.now))
          (sym c.in_ok-put.ensures)
          (c.lines.invariant.goes_on ∙ ap (joined c.lines.messages.items) next.given
          ∙ more_joined c.lines.messages.items c.in_ok-message.message others);
      room = next.room;
    }

pub returns-clause-given : goal.returns-clause-given
returns-clause-given c =
    let none : length c.lines.rest.now ≡ 0 = grind (arith, nat_tests) in
    c.lines.invariant.goes_on ∙ all_taken c.args.dir.now c.lines.taken c.lines.messages.items c.lines.rest.now none

pub returns-clause-frames : goal.returns-clause-frames
returns-clause-frames c =
    let none : length c.lines.rest.now ≡ 0 = grind (arith, nat_tests) in
    framed c.args.dir.now c.args.text.now c.lines.messages.items c.requires
    (c.lines.invariant.goes_on ∙ all_taken c.args.dir.now c.lines.taken c.lines.messages.items c.lines.rest.now none)
