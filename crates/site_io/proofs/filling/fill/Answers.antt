use Rattle.std.proofs.Common.{take, length, subst, sym, arith, rules, ◌-◌}
use Rattle.site_io.proofs.Reading.{Reads, reads_on, filled}
use Rattle.site_io.proofs.filling.fill.Goals as goal

pub loop-n-preserved : goal.loop-n-preserved
loop-n-preserved g c =
    let rest = g.I.Source.rest in
    record {
      told = subst (Reads (rest c.args.source.now) (rest c.take.new.self))
          (sym (filled c.loop-n.n (length c.loop-n.into - c.loop-n.n) c.in_ok-more.more c.loop-n.into c.take.new.into
          c.loop-n.invariant.within c.in_ok-more.ensures.within))
          (reads_on (rest c.args.source.now) (rest c.loop-n.source) (rest c.take.new.self)
          (take c.loop-n.n c.loop-n.into) c.take.new.into c.in_ok-more.more c.loop-n.invariant.told
          c.in_ok-more.ensures.next);
      within = search rules;
      never_falls = omega (arith, c.loop-n.invariant.never_falls, c.take.ensures.never_falls);
    }
