use Rattle.std.proofs.Common.{◌≡◌, ◌+◌, ◌++◌, ℕ, List, refl, sym, ap, subst, ◌∙◌, arith}
use Rattle.ad_ldif.specs.Lines.{physical, behind_first}
use Rattle.ad_ldif.specs.Folds.{Adds, Folds}
use Rattle.ad_ldif.proofs.LineLemmas.{begun, behind_first_is, empty_is, is_empty_length}
use Rattle.ad_ldif.proofs.FoldLemmas.{one_passed, all_passed}
use Rattle.ad_ldif.proofs.folded.folded_of.Goals as goal

pub slice_bounds-extend_from_slice-count : goal.slice_bounds-extend_from_slice-count
slice_bounds-extend_from_slice-count c = begun 32 _ _ _ refl refl (sym c.begins_with.ensures ∙ c.lines-test.true)
    c.cut.ensures.line

pub slice_bounds-extend_from_slice-start : goal.slice_bounds-extend_from_slice-start
slice_bounds-extend_from_slice-start c = begun 32 _ _ _ refl refl (sym c.begins_with.ensures ∙ c.lines-test.true)
    c.cut.ensures.line

pub lines-preserved : goal.lines-preserved
lines-preserved c =
    let items : c.extend_from_slice.new.self.items ≡ c.lines.tail.items ++ behind_first c.cut.result.0.now =
    c.in_ok-extend_from_slice.ensures.items ∙ ap (λ (more : List ℕ). c.lines.tail.items ++ more)
    (behind_first_is c.cut.result.0.now) in
    record {
      adds = subst (λ (tail : List ℕ). Adds (physical c.args.raw.now) tail (c.lines.count + 1)
          (physical c.cut.result.1.now)) (sym items)
          (one_passed _ _ _ _ _ _ (sym c.begins_with.ensures ∙ c.lines-test.true) c.cut.ensures.line
          c.lines.invariant.adds);
      few = omega (arith, c.cut.ensures.shorter, c.lines.invariant.few);
    }

pub invariant_of-result-clause-folds : goal.invariant_of-result-clause-folds
invariant_of-result-clause-folds c =
    let none = empty_is _ (is_empty_length _ ∙ sym c.is_empty.ensures ∙ c.if-not-is_empty.false) in
    subst (λ (raw : List ℕ). Folds raw c.lines.tail.items c.lines.count) (sym c.in_ok-from_slice.ensures.items)
    (all_passed _ _ _ _ none (c.is_whole.ensures c.if-not-is_whole.false) c.lines.invariant.adds)
