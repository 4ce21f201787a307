use Rattle.std.proofs.Common.{rules}
use Rattle.gate_log.proofs.Creating.{crash_made}
use Rattle.gate_log.proofs.Outside.{touches_on}
use Rattle.gate_log.proofs.log.Log.begin.Goals as goal

pub returns : goal.returns
returns g c =
    let s = g.S.Site in
    let new = c.fill.new.site in
    record {
      created = search rules;
      stands = search rules;
      every_crash = crash_made c.args.body.now (s.reads new) (s.now new) (s.left new) c.in_ok-fill.ensures.made
          c.in_ok-fill.ensures.lasts;
      generation = search rules;
      counts = search rules;
      unspent = search rules;
      outside = touches_on s c.args.site.now c.clear.new.site new c.clear.ensures.outside c.fill.ensures.outside;
      cause = search rules;
    }
