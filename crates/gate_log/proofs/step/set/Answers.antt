use Rattle.std.proofs.Common.{◌∙◌, length, arith}
use Rattle.std.proofs.lemmas.Result.{on_ok_weaker}
use Rattle.gate_log.proofs.Runs.{stays_on, goes_on_on}
use Rattle.gate_log.proofs.Stepping.{put_told, put_known, torn_on, torn_quiet, other_held}
use Rattle.gate_log.proofs.step.set.Goals as goal

pub returns-clause-held : goal.returns-clause-held
returns-clause-held g c =
    let s = g.S.Site in
    on_ok_weaker c.sync.result (λ _. put_told c.args.slot c.args.at c.args.bytes.now (s.reads c.args.site.now)
    (s.reads c.write_at.new.self) (s.reads c.sync.new.self) c.in_ok-write_at.ensures.written c.sync.ensures.slots)
    c.sync.ensures.lasts

pub returns-clause-end : goal.returns-clause-end
returns-clause-end g c = on_ok_weaker c.sync.result (λ _. c.in_ok-write_at.ensures.end) c.sync.ensures.lasts

pub returns-clause-images : goal.returns-clause-images
returns-clause-images g c =
    let s = g.S.Site in
    let x = c.args.site.now in
    let y = c.write_at.new.self in
    let z = c.sync.new.self in
    torn_on c.args.slot c.args.at (length c.args.bytes.now) (s.now x) (s.now y) (s.now z) (s.left x) (s.left y)
    (s.left z) c.write_at.ensures.images c.write_at.ensures.moments c.sync.ensures.moments c.sync.ensures.images

pub returns-clause-lasts : goal.returns-clause-lasts
returns-clause-lasts g c = c.sync.ensures.lasts

pub returns-clause-others : goal.returns-clause-others
returns-clause-others g c =
    let s = g.S.Site in
    let x = c.args.site.now in
    let y = c.write_at.new.self in
    let z = c.sync.new.self in
    on_ok_weaker c.sync.result (λ _. other_held c.args.slot c.args.at (length c.args.bytes.now) c.args.bytes.now
    (s.reads x) (s.reads y) (s.reads z) (s.now x) (s.now y) (s.now z) (s.left x) (s.left y) (s.left z)
    c.in_ok-write_at.ensures.written c.sync.ensures.slots c.write_at.ensures.images c.write_at.ensures.moments.later
    c.sync.ensures.moments.later c.sync.ensures.images) c.sync.ensures.lasts

pub returns-clause-outside : goal.returns-clause-outside
returns-clause-outside g c =
    let s = g.S.Site in
    let x = c.args.site.now in
    let y = c.write_at.new.self in
    let z = c.sync.new.self in
    record {
      known = put_known c.args.slot c.args.at c.args.bytes.now (s.reads x) (s.reads y) (s.reads z)
          c.in_ok-write_at.ensures.written c.sync.ensures.slots;
      output = stays_on (s.emitted x) (s.emitted y) (s.emitted z) c.write_at.ensures.output c.sync.ensures.output;
      moments = goes_on_on (s.now x) (s.now y) (s.now z) (s.left x) (s.left y) (s.left z) c.write_at.ensures.moments
          c.sync.ensures.moments;
      quiet = torn_quiet c.args.slot c.args.at (length c.args.bytes.now) (s.now x) (s.left x) (s.left z)
          (torn_on c.args.slot c.args.at (length c.args.bytes.now) (s.now x) (s.now y) (s.now z) (s.left x) (s.left y)
          (s.left z) c.write_at.ensures.images c.write_at.ensures.moments c.sync.ensures.moments
          c.sync.ensures.images);
      never_falls = omega (arith, c.write_at.ensures.never_falls, c.sync.ensures.never_falls);
      out_faults = c.sync.ensures.out_faults ∙ c.write_at.ensures.out_faults;
    }
