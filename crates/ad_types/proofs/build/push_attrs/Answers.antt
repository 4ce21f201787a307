use Rattle.ad_types.specs.TypesOf.{attr_node}
use Rattle.ad_types.proofs.BuildLaws.{infos_more, infos_end, pushed, ended}
use Rattle.ad_types.proofs.build.push_attrs.Goals as goal

pub loop-attr-preserved : goal.loop-attr-preserved
loop-attr-preserved c =
    let step = infos_more c.args.schema.now c.args.attrs.now c.loop-attr.attr-index _ c.attr_info-info.result.now
    c.loop-attr-test.true c.attr_info-info.ensures in
    rw c.in_ok-push.ensures.items (pushed (attr_node c.args.sets.now) _ _ _ _ _ _ c.loop-attr.invariant step
    c.attr_node.ensures)

pub returns : goal.returns
returns c = ended (attr_node c.args.sets.now) _ _ _ c.loop-attr.invariant
    (infos_end c.args.schema.now c.args.attrs.now c.loop-attr.attr-index c.loop-attr-test.false)
