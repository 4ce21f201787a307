use Rattle.ad_protect.proofs.Values.{with_put}
use Rattle.ad_protect.proofs.adding.with_values.Goals as goal

pub returns : goal.returns
returns c =
    with_put c.args.attr c.args.of_attr c.args.values.items c.remove_if.new.values.items c.insert.new.self.items
    c.as_slice.result.now c.as_slice-2.result.now
    c.place_of-place.result c.stands_at-stands.result c.as_slice.ensures.value c.as_slice-2.ensures.value
    c.place_of-place.ensures c.stands_at-stands.ensures
    c.remove_if.ensures c.in_ok-insert.ensures.items
