use Rattle.std.proofs.Common.{sym, ◌∙◌}
use Rattle.ad_types.proofs.BuildLaws.{infos_more, infos_end, sets_more, sets_end}
use Rattle.ad_types.proofs.build.sets_of.Goals as goal

pub loop-attr-preserved : goal.loop-attr-preserved
loop-attr-preserved c =
    let step = infos_more c.args.schema.now c.args.attrs.now c.loop-attr.attr-index _ c.attr_info-info.result.now
    c.loop-attr-test.true c.attr_info-info.ensures in
    sym (sets_more c.loop-attr.sets.items c.note_set.new.sets.items _ _ _ step c.in_ok-note_set.ensures)
    ∙ c.loop-attr.invariant

pub returns : goal.returns
returns c =
    sym (sets_end c.loop-attr.sets.items _
    (infos_end c.args.schema.now c.args.attrs.now c.loop-attr.attr-index c.loop-attr-test.false))
    ∙ c.loop-attr.invariant
