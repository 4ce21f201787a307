use Rattle.std.proofs.Common.{◌∙◌, ◌+◌, List, map, drop, sym, ap}
use Rattle.ad_dir_objects.specs.declared.object.Stored.{Stored as StoredIn}
use Rattle.ad_dir_objects.specs.Seen.{stored_seen}
use Rattle.ad_dir_objects.proofs.Values.{same_is, other_is, from_here, stored_here, stored_later, none_left}
use Rattle.ad_dir_objects.proofs.sid.stored_of.Goals as goal

pub returns-then-held-attr : goal.returns-then-held-attr
returns-then-held-attr c =
    let values = c.args.values.now in
    let i = c.loop-held.held-index in
    let item = c.held-item.result in
    ap (λ (s : List StoredIn). map stored_seen s) c.as_slice.ensures
    ∙ sym (stored_here item (drop (i + 1) values) c.args.attr.0 (same_is item.0.0 c.args.attr.0 c.if-held-attr.true))
    ∙ sym (from_here values i c.args.attr.0 item c.loop-held-test.true c.held-item.is) ∙ c.loop-held.invariant

pub loop-held-preserved : goal.loop-held-preserved
loop-held-preserved c =
    let values = c.args.values.now in
    let i = c.loop-held.held-index in
    let item = c.held-item.result in
    sym (stored_later item (drop (i + 1) values) c.args.attr.0 (other_is item.0.0 c.args.attr.0 c.if-held-attr.false))
    ∙ sym (from_here values i c.args.attr.0 item c.loop-held-test.true c.held-item.is) ∙ c.loop-held.invariant

pub returns : goal.returns
returns c = sym (none_left c.args.values.now c.loop-held.held-index c.args.attr.0 c.loop-held-test.false)
    ∙ c.loop-held.invariant
