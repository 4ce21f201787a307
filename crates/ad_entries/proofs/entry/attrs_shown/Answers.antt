use Rattle.std.proofs.Common.{arith}
use Rattle.ad_entries.specs.Places.{shown_at_each}
use Rattle.ad_entries.proofs.EntryLaws.{shown_more, shown_end}
use Rattle.ad_entries.proofs.entry.attrs_shown.Goals as goal

pub each-preserved : goal.each-preserved
each-preserved c =
    shown_more c.args.dir.now c.args.number c.args.types_only c.args.places.now c.each.place-index c.each.attrs
    c.push_if.new.attrs c.in_ok-given.given
    (shown_at_each c.args.dir.now c.args.number c.args.types_only c.args.places.now) c.each-test.true c.each.invariant
    c.in_ok-given.ensures c.in_ok-push_if.ensures

pub returns : goal.returns
returns c =
    shown_end c.args.dir.now c.args.number c.args.types_only c.args.places.now c.each.place-index c.each.attrs
    (shown_at_each c.args.dir.now c.args.number c.args.types_only c.args.places.now)
    (omega (arith, c.each-test.false)) c.each.invariant
