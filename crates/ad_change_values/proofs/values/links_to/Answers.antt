use Rattle.std.proofs.Common.{map, sym, ap, ◌∙◌}
use Rattle.ad_dir_objects.specs.Seen.{stored_seen}
use Rattle.ad_change_values.specs.Values.{target_of}
use Rattle.ad_change_values.proofs.SentLaws.{leads_more, leads_no_more, all_lead}
use Rattle.ad_change_values.proofs.values.links_to.Goals as goal

pub returns-in-None : goal.returns-in-None
unfolding target_of
returns-in-None c =
    leads_no_more c.args.dir.now c.args.attr.0 c.args.sent.now c.loop-text.text-index c.text-item.result
    (map stored_seen c.loop-text.stored)
    c.loop-text-test.true c.text-item.is c.requires
    (sym c.in-None.is ∙ c.in_ok-target.ensures.named ∙ ap (target_of c.args.dir.now) c.as_slice.ensures)
    c.loop-text.invariant

pub loop-text-preserved : goal.loop-text-preserved
unfolding target_of
loop-text-preserved c =
    leads_more c.args.dir.now c.args.attr.0 c.args.sent.now c.loop-text.text-index c.text-item.result c.in-Some.number
    c.loop-text.stored c.push.new.self
    c.loop-text-test.true c.text-item.is c.requires
    (sym c.in-Some.is ∙ c.in_ok-target.ensures.named ∙ ap (target_of c.args.dir.now) c.as_slice.ensures)
    c.in_ok-push-in-Some.ensures.ok c.loop-text.invariant

pub returns : goal.returns
returns c =
    all_lead c.args.dir.now c.args.attr.0 c.args.sent.now c.loop-text.text-index (map stored_seen c.loop-text.stored)
    c.loop-text-test.false c.loop-text.invariant
