use Rattle.std.proofs.Common.{◌∙◌, inl, refl, arith}
use Rattle.cmd_call.proofs.Moments.{IsLawful, keeps_not, goes_not}
use Rattle.cmd_store_open.proofs.Parts.{part_none}
use Rattle.cmd_audit.proofs.Telling.{told_self, frame_told}
use Rattle.cmd_audit.proofs.auditing.audit_frame.Goals as goal

pub returns-in-Err : goal.returns-in-Err
returns-in-Err g c =
    let s = g.S.Site in
    let law : IsLawful s = record { output = g.met.S.Site.left_output; until = g.met.S.Site.left_until } in
    record {
      served = tt;
      whole = tt;
      part = part_none (s.emitted c.args.site.now) (s.emitted c.args.site.now) _
          (told_self (s.emitted c.args.site.now));
      keeps = keeps_not s law c.args.site.now;
      moments = goes_not s c.args.site.now;
      never_falls = omega arith;
      slot_faults = refl;
      failed = inl refl;
    }

pub returns : goal.returns
returns g c =
    let s = g.S.Site in
    frame_told s c.args.replay.now c.next_lines.new.replay c.args.number c.args.frame.now c.args.site.now
    c.tell_lines.new.site c.tell_lines.result
    c.deref.result.now (c.deref.ensures.value ∙ c.in-Ok.ensures.lines) c.in-Ok.ensures.served c.tell_lines.ensures
