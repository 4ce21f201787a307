use Rattle.std.proofs.Common.{◌≡◌, ℕ, List, true, sym, subst, ◌∙◌}
use Rattle.std.specs.Prelude.{nat_eq}
use Rattle.std.specs.List.{Contains, dedup}
use Rattle.std.proofs.lemmas.Bool.{eqb-true}
use Rattle.std.proofs.lemmas.Cmp.{nat_eq_equiv}
use Rattle.std.proofs.lemmas.List.Filters.{dedup_is}
use Rattle.std.proofs.lemmas.List.Kept.{Contains-dedup_nat, Contains-from_dedup}
use Rattle.std.proofs.lemmas.List.Sorted.{list_any-IsPermutation}
use Rattle.std.proofs.lemmas.Map.Keys.{IsStrictlyIncreasing-dedup}
use Rattle.std.proofs.lemmas.Map.Views.{Contains-from_any, list_any-from_Contains}
use Rattle.ad_entries.specs.Rising.{is_in}
use Rattle.ad_entries.proofs.ListLaws.{both_true}
use Rattle.ad_entries.proofs.rising.rise.Goals as goal

pub returns-clause-rises : goal.returns-clause-rises
returns-clause-rises c = rw (dedup_is _ _ _ c.dedup.ensures.filtered)
    (IsStrictlyIncreasing-dedup _ c.sort_unstable.ensures.sorted)

pub returns-clause-same : goal.returns-clause-same
returns-clause-same c = λ n.
    let sorted = c.sort_unstable.new.self.items in
    let once = c.dedup.new.self.items in
    let is : once ≡ dedup nat_eq sorted = dedup_is nat_eq sorted once c.dedup.ensures.filtered in
    let contained : (ns : List ℕ) → is_in n ns ≡ true → Contains ns n = λ ns there. Contains-from_any {eq = nat_eq}
    eqb-true n ns there in
    let found : (ns : List ℕ) → Contains ns n → is_in n ns ≡ true = λ ns there. list_any-from_Contains {eq = nat_eq}
    nat_eq_equiv n ns there in
    both_true (is_in n once) (is_in n sorted)
    (λ there. found sorted (Contains-from_dedup nat_eq sorted n
    (subst (λ (ns : List ℕ). Contains ns n) is (contained once there))))
    (λ there. found once (subst (λ (ns : List ℕ). Contains ns n) (sym is)
    (Contains-dedup_nat sorted n (contained sorted there))))
    ∙ sym (list_any-IsPermutation (nat_eq n) c.args.numbers.now.items sorted c.sort_unstable.ensures.permutation)
