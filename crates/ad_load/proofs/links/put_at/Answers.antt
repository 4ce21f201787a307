use Rattle.std.proofs.Common.{ap, ◌∙◌, map}
use Rattle.ad_dir_objects.specs.Seen.{held_seen}
use Rattle.ad_load.proofs.Putting.{Values, ok_map, same_item, put_same, put_new}
use Rattle.ad_load.proofs.links.put_at.Goals as goal

pub returns-then-index-attr : goal.returns-then-index-attr
returns-then-index-attr c =
    let same = same_item c.args.values.now.items c.args.place c.index_mut.result.now c.index.result.now c.requires
    c.index_mut.ensures.value c.index.ensures in
    ok_map c.push.result
    (λ e. put_same c.args.values.now.items c.args.place c.args.attr.0 c.index_mut.result.now c.push.new.self
    c.args.value c.requires c.index_mut.ensures.value
    (ap (λ (x : Values). x.0.0) same ∙ c.if-index-attr.true) e) c.push.ensures.ok

pub returns : goal.returns
returns c = ap (map held_seen) c.in_ok-insert.ensures.items
    ∙ put_new c.args.values.now.items c.args.place c.args.attr.0 c.index.result.now c.alone-held.result c.args.value
    c.requires c.index.ensures c.if-index-attr.false c.alone-held.ensures
