use Rattle.std.proofs.Common.{map, sym, ◌∙◌}
use Rattle.ad_dir_objects.specs.Seen.{stored_seen}
use Rattle.ad_change_values.specs.Values.{is_among}
use Rattle.ad_change_values.proofs.ItemLaws.{all_but, all_more, all_found}
use Rattle.ad_change_values.proofs.items.all_among.Goals as goal

pub returns-then-not-there : goal.returns-then-not-there
returns-then-not-there c =
    all_but (is_among (map stored_seen c.args.stored.now)) c.args.new.now c.loop-one.one-index c.one-item.result
    c.loop-one-test.true c.one-item.is
    (sym c.in_ok-there.ensures ∙ c.if-not-there.true) c.loop-one.invariant

pub loop-one-preserved : goal.loop-one-preserved
loop-one-preserved c =
    all_more (is_among (map stored_seen c.args.stored.now)) c.args.new.now c.loop-one.one-index c.one-item.result
    c.loop-one-test.true c.one-item.is
    (sym c.in_ok-there.ensures ∙ c.if-not-there.false) c.loop-one.invariant

pub returns : goal.returns
returns c = all_found (is_among (map stored_seen c.args.stored.now)) c.args.new.now c.loop-one.one-index
    c.loop-one-test.false c.loop-one.invariant
