use Rattle.ad_load.proofs.Settled.{put_entry}
use Rattle.ad_load.proofs.settle.put_sd.Goals as goal

pub returns-clause-seen : goal.returns-clause-seen
returns-clause-seen c = put_entry c.args.objects.now.items c.args.place c.index_mut.result.now c.args.sd c.requires
    c.index_mut.ensures.value
