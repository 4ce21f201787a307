use Rattle.std.proofs.Common.{◌≡◌, ℕ, ◌+◌, ◌<◌, Bool, not, length, get_or, sym, ap, ◌∙◌, arith}
use Rattle.std.specs.List.{list_all}
use Rattle.std.proofs.lemmas.List.{at_drop_all}
use Rattle.std.proofs.lemmas.List.FromFn.{get_or-range_with_len, length-range_with_len}
use Rattle.ad_schema.specs.Attributes.{attrs_of}
use Rattle.ad_change_values.specs.Values.{all_attrs, is_lacking}
use Rattle.std.specs.BTreeSet.{contains}
use Rattle.std.specs.Ordering.{nat_cmp}
use Rattle.ad_change.proofs.DepthLaws.{all_stops, all_more}
use Rattle.ad_change.proofs.adding.lacks_none.Goals as goal

pub returns-then-is_lacking : goal.returns-then-is_lacking
returns-then-is_lacking c =
    let schema = c.args.schema.now in
    let test : ℕ → Bool = λ (attr : ℕ). not
    (is_lacking schema c.args.class.0 attr (contains nat_cmp c.args.given.now attr)) in
    let n = length (attrs_of schema) in
    let less : c.each.attr < n = omega (arith, c.each-test.true, c.attr_count-attr-end.ensures) in
    let long = length-range_with_len 0 n in
    let within : c.each.attr < length (all_attrs schema) = omega (arith, less, long) in
    let none : 0 + c.each.attr ≡ c.each.attr = omega arith in
    let at : get_or (all_attrs schema) c.each.attr 0 ≡ c.each.attr = get_or-range_with_len 0 n c.each.attr 0 less
    ∙ none in
    all_stops test (all_attrs schema) c.each.attr (list_all test (all_attrs schema)) within
    (ap test at ∙ ap (λ (b : Bool). not (is_lacking schema c.args.class.0 c.each.attr b)) (sym c.is_in.ensures)
    ∙ ap not (sym c.is_lacking.ensures ∙ c.if-is_lacking.true)) c.each.invariant

pub each-preserved : goal.each-preserved
each-preserved c =
    let schema = c.args.schema.now in
    let test : ℕ → Bool = λ (attr : ℕ). not
    (is_lacking schema c.args.class.0 attr (contains nat_cmp c.args.given.now attr)) in
    let n = length (attrs_of schema) in
    let less : c.each.attr < n = omega (arith, c.each-test.true, c.attr_count-attr-end.ensures) in
    let long = length-range_with_len 0 n in
    let within : c.each.attr < length (all_attrs schema) = omega (arith, less, long) in
    let none : 0 + c.each.attr ≡ c.each.attr = omega arith in
    let at : get_or (all_attrs schema) c.each.attr 0 ≡ c.each.attr = get_or-range_with_len 0 n c.each.attr 0 less
    ∙ none in
    all_more test (all_attrs schema) c.each.attr (list_all test (all_attrs schema)) within
    (ap test at ∙ ap (λ (b : Bool). not (is_lacking schema c.args.class.0 c.each.attr b)) (sym c.is_in.ensures)
    ∙ ap not (sym c.is_lacking.ensures ∙ c.if-is_lacking.false)) c.each.invariant

pub returns : goal.returns
returns c =
    let schema = c.args.schema.now in
    let test : ℕ → Bool = λ (attr : ℕ). not
    (is_lacking schema c.args.class.0 attr (contains nat_cmp c.args.given.now attr)) in
    let long = length-range_with_len 0 (length (attrs_of schema)) in
    sym (at_drop_all (list_all test) (all_attrs schema) c.each.attr
    (omega (arith, c.each-test.false, c.attr_count-attr-end.ensures, long))) ∙ c.each.invariant
