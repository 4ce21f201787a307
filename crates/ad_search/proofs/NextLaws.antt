-- The next object that shows what is needed, from the next ones that show its parts.
use Rattle.std.proofs.Common.{◌≡◌, ◌⊎◌, ℕ, ◌+◌, ◌<◌, ◌≤◌, true, false, List, [], ◌∷◌, length, get_or, drop}
use Rattle.std.proofs.Common.{Option, Some, None, Vec, Global, inl, inr, sym, subst, ap, ◌∙◌, arith}
use Rattle.std.specs.Prelude.{nat_lt, if◌then◌else◌, IfSome}
use Rattle.std.proofs.lemmas.Bool.{both_ways}
use Rattle.std.proofs.lemmas.List.{drop_more, drop_all}
use Rattle.ad_value.specs.declared.value.Key.{Key}
use Rattle.ad_schema.specs.declared.info.AttrId.{AttrId}
use Rattle.ad_dir_model.specs.Objects.{is_live}
use Rattle.ad_dir_model.specs.Shown.{shown}
use Rattle.ad_dir_model.specs.Directory.{Directory}
use Rattle.ad_dir.specs.Standing.{AreStanding}
use Rattle.ad_search.specs.declared.indexed.IndexQuery.{IndexQuery}
use Rattle.ad_search.specs.declared.index_plan.Leaf.{Leaf}
use Rattle.ad_search.specs.declared.index_plan.IndexPlan.{IndexPlan, AnyOf, AllOf}
use Rattle.ad_search.specs.Needles.{has_key, IsPlain}
use Rattle.ad_search.specs.Indexed.{IsQueryFor, IsBefore, IsNextShown}
use Rattle.ad_search.specs.Needed.{Shows, IsMet, HasMet, AreMet, IsNextOf}
use Rattle.ad_search.proofs.NeedLaws.{any_met, all_met}
use Rattle.ad_search.proofs.IndexLaws.{greater_parts, greater_above}

-- ---- of a value

pub shown_next : (dir : Directory) (leaf : Leaf) (query : IndexQuery) (above : ℕ) (result : Option ℕ) → leaf.query
    ≡ Some query → IsNextShown dir query above result → IsNextOf dir (λ (n : ℕ). Shows dir n leaf) above result
shown_next dir leaf query above result is next = record {
  is_above = next.is_above;
  none = λ n live more before shows.
      let for : IsQueryFor dir.schema leaf.needle query
      = subst (λ (o : Option IndexQuery). IfSome o (IsQueryFor dir.schema leaf.needle)) is shows.query_for in
      let plain : IsPlain dir.schema query.attr.0
      = subst (λ (id : AttrId). IsPlain dir.schema id.0) (sym for.attr_is) shows.plain in
      let none : has_key leaf.needle.value.key (shown dir n leaf.needle.attr.0) ≡ false
      = subst (λ (k : Key). has_key k (shown dir n leaf.needle.attr.0) ≡ false) for.key_is
      (subst (λ (id : AttrId). has_key query.key (shown dir n id.0) ≡ false) for.attr_is
      (next.none n live more before plain for.name for.named)) in
      both_ways (has_key leaf.needle.value.key (shown dir n leaf.needle.attr.0)) none shows.value;
}

pub next_any : (dir : Directory) (plan : IndexPlan) (plans : Vec IndexPlan Global) (items : List IndexPlan) (above : ℕ)
    (result : Option ℕ) → plan ≡ AnyOf plans → items ≡ plans.items
    → IsNextOf dir (λ (n : ℕ). HasMet dir n items) above result
    → IsNextOf dir (λ (n : ℕ). IsMet dir n plan) above result
next_any dir plan plans items above result is same next = record {
  is_above = next.is_above;
  none = λ n live more before met. next.none n live more before
      (subst (HasMet dir n) (sym same) ((any_met dir n plans).0 (subst (IsMet dir n) is met)));
}

pub next_all : (dir : Directory) (plan : IndexPlan) (plans : Vec IndexPlan Global) (items : List IndexPlan) (above : ℕ)
    (result : Option ℕ) → plan ≡ AllOf plans → items ≡ plans.items
    → IsNextOf dir (λ (n : ℕ). AreMet dir n items) above result
    → IsNextOf dir (λ (n : ℕ). IsMet dir n plan) above result
next_all dir plan plans items above result is same next = record {
  is_above = next.is_above;
  none = λ n live more before met. next.none n live more before
      (subst (AreMet dir n) (sym same) ((all_met dir n plans).0 (subst (IsMet dir n) is met)));
}

-- between a number and the one after it there is none
pub next_after : (dir : Directory) (P : ℕ → Type 0) (above : ℕ) (result : Option ℕ)
    → AreStanding dir.schema dir.objects → IfSome result (λ next. above < next)
    → ((n : ℕ) → n < 4294967295 → above < n → IsBefore n result → ⊥) → IsNextOf dir P above result
next_after dir P above result standing more nearest = record {
  is_above = more;
  none = λ n live above_it before meets. nearest n (let small = standing.small n live in omega (arith, small)) above_it
      before;
}

-- ---- of one of several

-- Before the least number so far none of those that were asked for is met.
pub record IsLeastSoFar (dir : Directory) (plans : List IndexPlan) (i above : ℕ) (next : Option ℕ) : Type 0 where
  pub is_above : IfSome next (λ n. above < n)
  pub left : (n : ℕ) → is_live dir.objects n ≡ true → above < n → IsBefore n next → HasMet dir n plans
      → HasMet dir n (drop i plans)

pub least_none : (dir : Directory) (plans : List IndexPlan) (above : ℕ) → IsLeastSoFar dir plans 0 above None
least_none dir plans above = record { is_above = tt; left = λ n live more before met. met }

met_here : (dir : Directory) (n : ℕ) (plans : List IndexPlan) (i : ℕ) (plan : IndexPlan) → i < length plans
    → plan ≡ get_or plans i plan → HasMet dir n (drop i plans) → IsMet dir n plan ⊎ HasMet dir n (drop (i + 1) plans)
met_here dir n plans i plan lt is met =
    subst (HasMet dir n) (drop_more plans i plan lt ∙ ap (λ (x : IndexPlan). x ∷ drop (i + 1) plans) (sym is)) met

-- where it isn't met here, one that is left is
pub met_left : (dir : Directory) (n : ℕ) (plans : List IndexPlan) (i : ℕ) (plan : IndexPlan) → i < length plans
    → plan ≡ get_or plans i plan → (IsMet dir n plan → ⊥) → HasMet dir n (drop i plans)
    → HasMet dir n (drop (i + 1) plans)
met_left dir n plans i plan lt is unmet met = by (met_here dir n plans i plan lt is met)
  where
    by : IsMet dir n plan ⊎ HasMet dir n (drop (i + 1) plans) → HasMet dir n (drop (i + 1) plans)
    by (inl here) = absurd (unmet here)
    by (inr others) = others

pub met_none : (dir : Directory) (n : ℕ) (plans : List IndexPlan) (i : ℕ) → length plans ≤ i → HasMet dir n (drop i plans)
    → ⊥
met_none dir n plans i le met = subst (HasMet dir n) (drop_all i plans le) met

pub least_more : (dir : Directory) (plans : List IndexPlan) (i above : ℕ) (plan : IndexPlan) (so_far one next : Option ℕ) → i
    < length plans → plan ≡ get_or plans i plan → IsNextOf dir (λ (n : ℕ). IsMet dir n plan) above one
    → IfSome next (λ n. above < n)
    → ((n : ℕ) → IsBefore n next → IsBefore n so_far) → ((n : ℕ) → IsBefore n next → IsBefore n one)
    → IsLeastSoFar dir plans i above so_far → IsLeastSoFar dir plans (i + 1) above next
least_more dir plans i above plan so_far one next lt is next_one more first second before_it = record {
  is_above = more;
  left = λ n live above_it before met. met_left dir n plans i plan lt is
      (next_one.none n live above_it (second n before))
      (before_it.left n live above_it (first n before) met);
}

pub least_of_all : (dir : Directory) (plans : List IndexPlan) (i above : ℕ) (next : Option ℕ) → length plans ≤ i
    → IsLeastSoFar dir plans i above next → IsNextOf dir (λ (n : ℕ). HasMet dir n plans) above next
least_of_all dir plans i above next le so_far = record {
  is_above = so_far.is_above;
  none = λ n live more before met. met_none dir n plans i le (so_far.left n live more before met);
}

-- ---- of all of several

-- Before the greatest number so far one of those that were asked for isn't met.
pub record IsGreatestSoFar (dir : Directory) (plans : List IndexPlan) (above next : ℕ) : Type 0 where
  pub is_above : above < next
  pub none : (n : ℕ) → is_live dir.objects n ≡ true → above < n → n < next → AreMet dir n plans → ⊥

pub greatest_more : (dir : Directory) (plans : List IndexPlan) (above : ℕ) (plan : IndexPlan) (so_far one next : ℕ)
    → next ≡ (if nat_lt so_far one then one else so_far)
    → IsNextOf dir (λ (n : ℕ). IsMet dir n plan) above (Some one)
    → ((n : ℕ) → AreMet dir n plans → IsMet dir n plan)
    → IsGreatestSoFar dir plans above so_far → IsGreatestSoFar dir plans above next
greatest_more dir plans above plan so_far one next is next_one item before_it = record {
  is_above = greater_above so_far one above next is next_one.is_above;
  none = λ n live more less met. greater_parts so_far one n next is ⊥ less
      (λ before. before_it.none n live more before met)
      (λ before. next_one.none n live more before (item n met));
}
