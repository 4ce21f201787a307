use Rattle.std.proofs.Common.{◌≡◌, ◌∙◌, [], length, ap, arith}
use Rattle.std.proofs.lemmas.Bool.Decides.{nat_tests}
use Rattle.ad_ldifmod.specs.Taken.{left, joined, with_next}
use Rattle.ad_ldifmod.proofs.OneByOne.{more_joined, all_taken, begun, room_at_first}
use Rattle.ad_ldifmod.proofs.taking.judge.Goals as goal

pub lines-init : goal.lines-init
lines-init c = record {
  goes_on = ([], begun c.args.dir.now c.none-taken.result c.args.text.now c.none-taken.ensures);
  room = room_at_first c.none-taken.result c.args.text.now c.none-taken.ensures c.requires;
}

pub lines-preserved-in-Ok : goal.lines-preserved-in-Ok
lines-preserved-in-Ok c =
    let so_far = c.lines.invariant.goes_on in
    let next = c.in-Ok.ensures.next in
    record {
      goes_on = (
        with_next so_far.0 c.in-Ok.field-0-0,
        so_far.1 ∙ ap (joined so_far.0) next.given ∙ more_joined so_far.0 c.in-Ok.field-0-0
            (left c.args.dir.now c.next_message.new.taken c.in-Ok.behind.now),
      );
      room = next.room;
    }

pub returns-clause-some : goal.returns-clause-some
returns-clause-some c =
    let none : length c.lines.rest.now ≡ 0 = grind (arith, nat_tests) in
    let so_far = c.lines.invariant.goes_on in
    (so_far.0, so_far.1 ∙ all_taken c.args.dir.now c.lines.taken so_far.0 c.lines.rest.now none)

pub returns-in-Err-clause-faulty : goal.returns-in-Err-clause-faulty
returns-in-Err-clause-faulty c =
    λ real. c.lines.invariant.goes_on.1 ∙ ap (joined c.lines.invariant.goes_on.0) (c.in-Err.ensures.faulty real)
