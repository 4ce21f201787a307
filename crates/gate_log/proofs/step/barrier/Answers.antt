use Rattle.std.proofs.lemmas.Result.{on_ok_weaker}
use Rattle.site_io.specs.Outside.{OnlyLooks}
use Rattle.site_io.specs.declared.slot.Slot.TheVariants.{A}
use Rattle.site_io.proofs.Looking.{looks_on}
use Rattle.gate_log.proofs.Stepping.{held_on}
use Rattle.gate_log.proofs.step.barrier.Goals as goal

pub returns-clause-lasts_a : goal.returns-clause-lasts_a
returns-clause-lasts_a g c =
    let s = g.S.Site in
    let y = c.sync.new.self in
    let z = c.sync-2.new.self in
    on_ok_weaker c.sync-2.result (λ _. held_on A (s.reads y) (s.reads z) (s.now y) (s.now z) (s.left y) (s.left z)
    c.in_ok-sync.ensures.lasts c.sync-2.ensures.slots c.sync-2.ensures.moments.later c.sync-2.ensures.images)
    c.sync-2.ensures.lasts

pub returns-clause-lasts_b : goal.returns-clause-lasts_b
returns-clause-lasts_b g c = c.sync-2.ensures.lasts

pub returns-clause-outside : goal.returns-clause-outside
returns-clause-outside g c =
    let s = g.S.Site in
    let x = c.args.site.now in
    let y = c.sync.new.self in
    let z = c.sync-2.new.self in
    let first : OnlyLooks s x y = record {
      held = c.sync.ensures.slots;
      output = c.sync.ensures.output;
      moments = c.sync.ensures.moments;
      images = c.sync.ensures.images;
      never_falls = c.sync.ensures.never_falls;
      out_faults = c.sync.ensures.out_faults;
    } in
    let second : OnlyLooks s y z = record {
      held = c.sync-2.ensures.slots;
      output = c.sync-2.ensures.output;
      moments = c.sync-2.ensures.moments;
      images = c.sync-2.ensures.images;
      never_falls = c.sync-2.ensures.never_falls;
      out_faults = c.sync-2.ensures.out_faults;
    } in
    looks_on s x y z first second
