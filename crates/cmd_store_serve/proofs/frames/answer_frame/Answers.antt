use Rattle.std.proofs.Common.{◌≡◌, ◌∙◌, ℕ, List, inl, inr, ⊎_elim, refl, sym, subst, arith}
use Rattle.site_io.specs.Counts.{HasRisen}
use Rattle.ad_engine_store.proofs.Keeping.{emit_stands_still}
use Rattle.cmd_call.specs.Store.{Emits, EmitsPart}
use Rattle.cmd_call.proofs.Moments.{IsLawful, emits_on, part_on, goes_on_on}
use Rattle.cmd_store_serve.specs.serving.One.{answered_by, IsOfSite}
use Rattle.cmd_store_open.proofs.Failing.{of_site, unspent_fault}
use Rattle.cmd_store_open.proofs.Parts.{part_none, part_whole, known_then, not_so}
use Rattle.cmd_store_serve.proofs.serving.OneFrame.{amid_served, amid_emitted}
use Rattle.cmd_store_serve.proofs.serving.OneFrame.{lasts_emitted}
use Rattle.cmd_store_serve.proofs.frames.answer_frame.Goals as goal

pub outcome_of_fault-requires : goal.outcome_of_fault-requires
outcome_of_fault-requires g c = unspent_fault c.in-Err.fault _ c.requires.unspent c.in-Err.ensures.spent

pub returns-in-Err : goal.returns-in-Err
returns-in-Err g c =
    let s = g.S.Site in
    let made = c.in-Err.ensures in
    let ends = c.outcome_of_fault.ensures in
    record {
      answered = tt;
      part = part_none (s.emitted c.args.site.now) (s.emitted c.serve_frame.new.site) _ made.outside.output;
      amid = amid_served s (record { output = g.met.S.Site.left_output; until = g.met.S.Site.left_until })
          c.args.engine.now c.args.frame.now c.args.site.now c.serve_frame.new.site
          made.outside made.any_moment;
      moments = made.outside.moments;
      known = made.outside.known;
      slot_faults = made.outside.never_falls;
      out_faults = omega (arith, made.outside.out_faults);
      cause = λ is. inl (made.cause (of_site c.in-Err.fault c.outcome_of_fault.result ends is));
      only = ⊎_elim (λ site. subst IsOfSite (sym site.1) tt) (λ memory. subst IsOfSite (sym memory.1) tt) ends;
    }

pub returns-in-Ok-emit : goal.returns-in-Ok-emit
returns-in-Ok-emit g c =
    let s = g.S.Site in
    let x = c.args.site.now in
    let y = c.serve_frame.new.site in
    let z = c.emit.new.self in
    let old = c.args.engine.now in
    let new = c.serve_frame.new.self in
    let made = c.in-Ok.ensures in
    let bytes = c.deref.result.now in
    let text : bytes ≡ (answered_by old c.args.frame.now).output = c.deref.ensures.value ∙ made.output in
    let said : Emits (s.emitted y) (s.emitted z) (answered_by old c.args.frame.now).output =
    subst (λ (t : List ℕ). Emits (s.emitted y) (s.emitted z) t) text c.in-Ok-emit.ensures.output in
    let all : Emits (s.emitted x) (s.emitted z) (answered_by old c.args.frame.now).output =
    emits_on (s.emitted x) (s.emitted y) (s.emitted z) (answered_by old c.args.frame.now).output made.outside.output
    said in
    let law : IsLawful s = record { output = g.met.S.Site.left_output; until = g.met.S.Site.left_until } in
    record {
      answered = record {
        directory = made.directory;
        tokens = made.tokens;
        stands = emit_stands_still new (s.reads y) (s.reads z) (s.now y) (s.now z) (s.left y) (s.left z) bytes
            made.stands c.emit.ensures.slots c.emit.ensures.moments.later c.emit.ensures.images;
        unspent = not_so new.spent _ made.marks.0 (λ no. absurd cc);
        output = all;
        lasts = lasts_emitted s old.dir new.dir x y z bytes made.every_crash c.emit.ensures.moments
            c.emit.ensures.images;
      };
      part = part_whole (s.emitted x) (s.emitted z) (answered_by old c.args.frame.now).output all;
      amid = amid_emitted s law old new c.args.frame.now x y z bytes made.outside made.directory text made.every_crash
          c.emit.ensures.moments c.emit.ensures.images
          (amid_served s law old c.args.frame.now x y made.outside made.any_moment);
      moments = goes_on_on (s.now x) (s.now y) (s.now z) (s.left x) (s.left y) (s.left z) made.outside.moments
          c.emit.ensures.moments;
      known = known_then (s.reads x) (s.reads y) (s.reads z) made.outside.known c.emit.ensures.slots;
      slot_faults = omega (arith, made.outside.never_falls, c.emit.ensures.slot_faults);
      out_faults = omega (arith, made.outside.out_faults, c.emit.ensures.never_falls);
      cause = tt;
      only = tt;
    }

pub returns : goal.returns
returns g c =
    let s = g.S.Site in
    let x = c.args.site.now in
    let y = c.serve_frame.new.site in
    let z = c.emit.new.self in
    let old = c.args.engine.now in
    let new = c.serve_frame.new.self in
    let made = c.in-Ok.ensures in
    let bytes = c.deref.result.now in
    let text : bytes ≡ (answered_by old c.args.frame.now).output = c.deref.ensures.value ∙ made.output in
    let said : EmitsPart (s.emitted y) (s.emitted z) (answered_by old c.args.frame.now).output =
    subst (λ (t : List ℕ). EmitsPart (s.emitted y) (s.emitted z) t) text c.in-Err-emit.ensures.output in
    let law : IsLawful s = record { output = g.met.S.Site.left_output; until = g.met.S.Site.left_until } in
    record {
      answered = tt;
      part = part_on (s.emitted x) (s.emitted y) (s.emitted z) (answered_by old c.args.frame.now).output
          made.outside.output said;
      amid = amid_emitted s law old new c.args.frame.now x y z bytes made.outside made.directory text made.every_crash
          c.emit.ensures.moments c.emit.ensures.images
          (amid_served s law old c.args.frame.now x y made.outside made.any_moment);
      moments = goes_on_on (s.now x) (s.now y) (s.now z) (s.left x) (s.left y) (s.left z) made.outside.moments
          c.emit.ensures.moments;
      known = known_then (s.reads x) (s.reads y) (s.reads z) made.outside.known c.emit.ensures.slots;
      slot_faults = omega (arith, made.outside.never_falls, c.emit.ensures.slot_faults);
      out_faults = omega (arith, made.outside.out_faults, c.emit.ensures.never_falls);
      cause = λ _. inr (subst (λ (k : ℕ). HasRisen k (s.out_faults z)) made.outside.out_faults
          (c.in-Err-emit.ensures.cause refl));
      only = tt;
    }
