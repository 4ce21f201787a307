use Rattle.std.proofs.Common.{◌-◌, length, rules}
use Rattle.site_io.proofs.Looking.{looks_on}
use Rattle.site_io.proofs.Reading.{full_more}
use Rattle.site_io.proofs.filling.read_full.Goals as goal

pub loop-n-preserved : goal.loop-n-preserved
loop-n-preserved g c =
    let s = g.S.Site in
    let old = c.args.site.now in
    let mid = c.loop-n.site in
    let new = c.read_at.new.self in
    let last = c.read_at.ensures in
    record {
      came = full_more c.args.slot (s.reads old) (s.reads mid) c.args.at c.loop-n.n
          (length c.loop-n.into - c.loop-n.n) c.in_ok-more.more c.loop-n.into c.read_at.new.into
          c.loop-n.invariant.came c.loop-n.invariant.outside.held c.in_ok-more.ensures.held c.loop-n.invariant.within
          c.in_ok-more.ensures.within;
      within = search rules;
      outside = looks_on s old mid new c.loop-n.invariant.outside
          (record {
            held = last.slots;
            output = last.output;
            moments = last.moments;
            images = last.images;
            never_falls
                = last.never_falls;
            out_faults = last.out_faults;
          });
    }
