use Rattle.std.proofs.Common.{◌∙◌, refl, sym}
use Rattle.cmd_call.proofs.Moments.{IsLawful}
use Rattle.cmd_store_open.proofs.Parts.{part_whole}
use Rattle.cmd_audit.proofs.Telling.{no_bytes, keeps_emit, tells_none}
use Rattle.cmd_audit.proofs.auditing.tell_lines.Goals as goal

pub returns-then-is_empty : goal.returns-then-is_empty
returns-then-is_empty g c =
    let law : IsLawful g.S.Site = record { output = g.met.S.Site.left_output; until = g.met.S.Site.left_until } in
    tells_none g.S.Site law c.args.site.now c.args.text.now
    (no_bytes c.args.text.now (sym c.is_empty.ensures ∙ c.if-is_empty.true))

pub returns-in-Ok : goal.returns-in-Ok
returns-in-Ok g c =
    let s = g.S.Site in
    let x = c.args.site.now in
    let z = c.emit.new.self in
    let made = c.in-Ok.ensures in
    record {
      whole = made.output;
      part = part_whole (s.emitted x) (s.emitted z) c.args.text.now made.output;
      keeps = keeps_emit s x z c.args.text.now made.slots made.images;
      moments = made.moments;
      never_falls = made.never_falls;
      slot_faults = made.slot_faults;
      failed = tt;
    }

pub returns-in-Err : goal.returns-in-Err
returns-in-Err g c =
    let s = g.S.Site in
    let x = c.args.site.now in
    let z = c.emit.new.self in
    let made = c.in-Err.ensures in
    record {
      whole = tt;
      part = made.output;
      keeps = keeps_emit s x z c.args.text.now made.slots made.images;
      moments = made.moments;
      never_falls = made.never_falls;
      slot_faults = made.slot_faults;
      failed = (refl, made.cause refl);
    }
