use Rattle.std.proofs.Common.{Bool, false, subst, ◌∙◌}
use Rattle.ad_search.specs.Indexed.{IsNamedBy}
use Rattle.ad_search.proofs.IndexLaws.{name_shown, stored_shown, named_shown}
use Rattle.ad_search.proofs.indexed.next_shown.Goals as goal

pub returns-then-query : goal.returns-then-query
returns-then-query c =
    let dir = c.args.dir.now in
    let query = c.args.query.now in
    record {
      is_above = c.next_named.ensures.is_above;
      none = λ n live more before ordinary name named.
          name_shown dir query.attr.0 query.key c.args.above c.invariants.ensures c.next_named.result n
          c.next_named.ensures ordinary (name ∙ c.if-query.true)
          (subst (λ (b : Bool). IsNamedBy dir.schema query.attr.0 b query.by_name) c.if-query.true named) live more
          before;
    }

pub returns-then-query-2 : goal.returns-then-query-2
returns-then-query-2 c =
    let dir = c.args.dir.now in
    let query = c.args.query.now in
    record {
      is_above = c.lesser.ensures.above c.args.above c.next_with-stores.ensures.is_above
          c.next_named-then-query-2.ensures.is_above;
      none = λ n live more before ordinary name named.
          named_shown dir query.attr.0 query.key c.args.above c.invariants.ensures c.next_with-stores.result
          c.next_named-then-query-2.result n c.next_with-stores.ensures c.next_named-then-query-2.ensures ordinary
          (subst (IsNamedBy dir.schema query.attr.0 false) c.if-query-2.true
          (subst (λ (b : Bool). IsNamedBy dir.schema query.attr.0 b query.by_name) c.if-query.false named)) live more
          (c.lesser.ensures.first n before) (c.lesser.ensures.second n before);
    }

pub returns : goal.returns
returns c =
    let dir = c.args.dir.now in
    let query = c.args.query.now in
    record {
      is_above = c.next_with-stores.ensures.is_above;
      none = λ n live more before ordinary name named.
          stored_shown dir query.attr.0 query.key c.args.above c.invariants.ensures c.next_with-stores.result n
          c.next_with-stores.ensures ordinary (name ∙ c.if-query.false)
          (subst (IsNamedBy dir.schema query.attr.0 false) c.if-query-2.false
          (subst (λ (b : Bool). IsNamedBy dir.schema query.attr.0 b query.by_name) c.if-query.false named)) live more
          before;
    }
