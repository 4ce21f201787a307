use Rattle.ad_types.specs.Tried.{tried_value, tried_values}
use Rattle.ad_search.proofs.ReadsLaws.{none_read, read_ok}
use Rattle.ad_search.proofs.observing.push_read.Goals as goal

pub returns-then-place-attrs : goal.returns-then-place-attrs
returns-then-place-attrs c = none_read c.args.dir.now c.args.number c.args.place (tried_values c.args.into.now.items)
    (rw (c.attrs.ensures, c.schema.ensures) at c.if-place-attrs.true)

pub returns : goal.returns
returns c =
    read_ok c.push_if.result c.args.dir.now c.args.number c.args.place (tried_values c.args.into.now.items)
    (tried_values c.push_if.new.into.items) c.in_ok-has.has (tried_value c.read_on.result)
    (rw (c.attrs.ensures, c.schema.ensures) at c.if-place-attrs.false) c.in_ok-has.ensures c.read_on.ensures
    c.push_if.ensures
