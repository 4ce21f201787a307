use Rattle.std.proofs.Common.{◌∙◌, sym}
use Rattle.ad_rows_write.proofs.Written.{none_written, one_written, all_written}
use Rattle.ad_rows_write.proofs.parts.write_entries.Goals as goal

pub loop-object-init : goal.loop-object-init
loop-object-init c = (
  tt,
  tt,
  none_written c.args.objects.items c.into_iter-object-iterator.result.rest.items
      c.args.into c.into_iter-object-iterator.ensures.into_iter_gives.0,
)

pub loop-object-preserved : goal.loop-object-preserved
loop-object-preserved c = (
  tt,
  tt,
  one_written c.args.objects.items c.loop-object.object-iterator.rest.items c.next.new.self.rest.items
      c.in-Some.object c.in-Some.sd c.args.into c.loop-object.written c.in_ok-written.written c.in_ok-row.row
      c.in-Some.ensures.steps.0
      c.loop-object.invariant.2 c.in_ok-row.ensures c.in_ok-written.ensures,
)

pub returns : goal.returns
returns c = all_written c.args.objects.items c.loop-object.object-iterator.rest.items c.args.into
    c.loop-object.written (sym c.loop-object.object-iterator.rest.ok.0 ∙ c.in-None.ensures.steps.0)
    c.loop-object.invariant.2
