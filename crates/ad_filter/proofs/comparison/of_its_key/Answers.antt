use Rattle.std.proofs.Common.{rules, ap, sym, ◌∙◌}
use Rattle.std.proofs.lemmas.Fn.{always_returns_same}
use Rattle.std.proofs.lemmas.List.Sorted.{searchable_from_sorted}
use Rattle.ad_value.specs.Value.{Value, key_order}
use Rattle.ad_filter.proofs.InOrder.{none_of_key}
use Rattle.ad_filter.proofs.comparison.of_its_key.Goals as goal

pub returns-in-Ok : goal.returns-in-Ok
returns-in-Ok c =
    let item = c.index-values-place.result in
    let key = c.args.sent.now.key in
    let at = c.in-Ok.ensures.position (λ (own : Value). key_order own.key key)
    (always_returns_same _ _ _ (λ a r q k. search rules)) in
    let equal = ap (λ (own : Value). key_order own.key key) c.index-values-place.is ∙ at item in (
      (c.in-Ok.place, c.in-Ok.ensures.bound, sym c.index-values-place.is),
      (c.keys_are_ordered.ensures.same item.key key).1 ((c.keys_are_ordered.ensures.equal item.key key).0 equal),
    )

pub returns-in-Err : goal.returns-in-Err
returns-in-Err c =
    let key = c.args.sent.now.key in
    none_of_key c.args.values.now key c.in-Err.field-0 c.keys_are_ordered.ensures.equal c.keys_are_ordered.ensures.same
    (c.in-Err.ensures.position (λ (own : Value). key_order own.key key)
    (always_returns_same _ _ _ (λ a r q k. search rules))
    (searchable_from_sorted c.keys_are_ordered.ensures.total (λ (own : Value). own.key) c.args.values.now key
    c.requires))
