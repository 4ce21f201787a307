use Rattle.std.proofs.Common.{map, sym, ◌∙◌}
use Rattle.ad_dir_objects.specs.Seen.{stored_seen}
use Rattle.ad_change_values.specs.Values.{is_among}
use Rattle.ad_change_values.proofs.ItemLaws.{any_found, any_more, any_none}
use Rattle.ad_change_values.proofs.items.any_among.Goals as goal

pub returns-then-there : goal.returns-then-there
returns-then-there c =
    any_found (is_among (map stored_seen c.args.stored.now)) c.args.new.now c.loop-one.one-index c.one-item.result
    c.loop-one-test.true c.one-item.is
    (sym c.in_ok-there.ensures ∙ c.if-there.true) c.loop-one.invariant

pub loop-one-preserved : goal.loop-one-preserved
loop-one-preserved c =
    any_more (is_among (map stored_seen c.args.stored.now)) c.args.new.now c.loop-one.one-index c.one-item.result
    c.loop-one-test.true c.one-item.is
    (sym c.in_ok-there.ensures ∙ c.if-there.false) c.loop-one.invariant

pub returns : goal.returns
returns c = any_none (is_among (map stored_seen c.args.stored.now)) c.args.new.now c.loop-one.one-index
    c.loop-one-test.false c.loop-one.invariant
