use Rattle.std.proofs.Common.{List, ap}
use Rattle.prop_queue.specs.declared.pending.Pending.{Pending}
use Rattle.ad_dir_objects.specs.declared.edit.Edit.TheVariants as edit
use Rattle.ad_dir_model.specs.Directory.{put_queue}
use Rattle.ad_prop.proofs.stepping.with_queue.Goals as goal

pub returns : goal.returns
returns c = (
  edit.PutQueue c.into_entries.result,
  c.in_ok-push.ensures.items,
  ap (λ (ps : List Pending). put_queue ps)
      c.into_entries.ensures.entries,
  tt,
)
