use Rattle.std.proofs.Common.{[]}
use Rattle.ad_types.proofs.Paths.{last_more}
use Rattle.ad_types.proofs.type_path.last_of.Goals as goal

pub loop-guid-preserved : goal.loop-guid-preserved
loop-guid-preserved c = last_more c.args.guids.now c.loop-guid.guid-index (record { bytes = [] }) c.loop-guid-test.true
