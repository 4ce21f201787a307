use Rattle.std.proofs.Common.{◌≡◌, ◌<◌, ℕ, Bool, List, [], false, length, map, sym, ◌∙◌, arith}
use Rattle.std.specs.Prelude.{if◌then◌else◌, filter}
use Rattle.std.specs.List.{flat_map}
use Rattle.std.proofs.lemmas.Result.{err_from_is_err_and}
use Rattle.std.proofs.lemmas.List.{get_or_default}
use Rattle.ad_schema.specs.Attributes.{attrs_of}
use Rattle.ad_dir_objects.specs.Seen.{held_seen}
use Rattle.ad_needs_rules.specs.Checks.{Check}
use Rattle.ad_change_values.specs.Values.{all_attrs}
use Rattle.ad_change_values.specs.Items.{final_checks, is_item_named}
use Rattle.ad_change_values.proofs.SentLaws.{stops}
use Rattle.ad_change_values.proofs.FinalLaws.{one_more, one_stops, from_start, no_more}
use Rattle.ad_change_values.proofs.finals.judge_attrs.Goals as goal

pub returns-in_err-judge_if : goal.returns-in_err-judge_if
returns-in_err-judge_if c =
    let p = err_from_is_err_and c.from_residual-in_err-judge_if.result c.from_residual-in_err-judge_if.ensures.1 in
    let schema = c.args.schema.now in
    let n = length (attrs_of schema) in
    let attr = c.each.attr in
    let f : ℕ → List Check = final_checks schema c.args.class.0 (map held_seen c.args.held.now) in
    let named : ℕ → Bool = is_item_named c.args.items.now in
    let marks : List Bool = c.in_ok-named.named.items in
    let within : attr < length marks = omega (arith, c.each-test.true, c.in_ok-named.ensures.len) in
    let less : attr < n = omega (arith, c.each-test.true, c.attr_count-count.ensures) in
    let is : c.index.result.now ≡ named attr =
    c.index.ensures ∙ get_or_default marks attr c.index.result.now false within ∙ c.in_ok-named.ensures.each attr
    c.each-test.true in
    rw (p.1, p.2) (stops (if c.index.result.now then f attr else []) (flat_map f (filter named (all_attrs schema)))
    c.in_err-judge_if.field-0.0
    (λ r stopped. from_start f named n ∙ sym c.each.invariant ∙ one_stops f named n attr r c.index.result.now less is
    stopped)
    (c.in_err-judge_if.ensures (map held_seen c.args.held.now) (c.in_ok-counts.ensures attr)))

pub each-preserved : goal.each-preserved
each-preserved c =
    let schema = c.args.schema.now in
    let n = length (attrs_of schema) in
    let attr = c.each.attr in
    let f : ℕ → List Check = final_checks schema c.args.class.0 (map held_seen c.args.held.now) in
    let named : ℕ → Bool = is_item_named c.args.items.now in
    let marks : List Bool = c.in_ok-named.named.items in
    let within : attr < length marks = omega (arith, c.each-test.true, c.in_ok-named.ensures.len) in
    let less : attr < n = omega (arith, c.each-test.true, c.attr_count-count.ensures) in
    let is : c.index.result.now ≡ named attr =
    c.index.ensures ∙ get_or_default marks attr c.index.result.now false within ∙ c.in_ok-named.ensures.each attr
    c.each-test.true in
    sym (one_more f named n attr c.index.result.now less is
    (c.in_ok-judge_if.ensures (map held_seen c.args.held.now) (c.in_ok-counts.ensures attr)).0) ∙ c.each.invariant

pub returns : goal.returns
returns c =
    let schema = c.args.schema.now in
    let n = length (attrs_of schema) in
    let f : ℕ → List Check = final_checks schema c.args.class.0 (map held_seen c.args.held.now) in
    let named : ℕ → Bool = is_item_named c.args.items.now in (
      from_start f named n ∙ sym c.each.invariant ∙ no_more f named n c.each.attr
          (omega (arith, c.each-test.false, c.attr_count-count.ensures)),
      tt,
    )
