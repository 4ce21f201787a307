use Rattle.ad_types.proofs.BuildLaws.{kept}
use Rattle.ad_types.proofs.build.note_set.Goals as goal

pub returns-then-is_seen : goal.returns-then-is_seen
returns-then-is_seen c = kept c.args.sets.now.items c.as_slice.result.now c.args.set c.in-Some.set c.is_seen.result
    c.in-Some.is c.as_slice.ensures.value c.is_seen.ensures c.if-is_seen.true
