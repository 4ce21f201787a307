use Rattle.std.proofs.Common.{inl, refl}
use Rattle.cmd_store_open.proofs.Parts.{part_whole}
use Rattle.cmd_grants.proofs.HoldSteps.{only_said}
use Rattle.cmd_grants.proofs.sending.send.Goals as goal

pub returns-in-Ok : goal.returns-in-Ok
returns-in-Ok g c =
    let s = g.S.Site in
    let x = c.args.site.now in
    let z = c.emit.new.self in
    let made = c.in-Ok.ensures in
    record {
      whole = made.output;
      part = part_whole (s.emitted x) (s.emitted z) c.args.held.now made.output;
      emits = only_said s x z c.args.held.now made.slots made.images made.moments made.never_falls;
      cut = tt;
    }

pub returns-in-Err : goal.returns-in-Err
returns-in-Err g c =
    let s = g.S.Site in
    let x = c.args.site.now in
    let z = c.emit.new.self in
    let made = c.in-Err.ensures in
    record {
      whole = tt;
      part = made.output;
      emits = only_said s x z c.args.held.now made.slots made.images made.moments made.never_falls;
      cut = inl (refl, made.cause refl);
    }
