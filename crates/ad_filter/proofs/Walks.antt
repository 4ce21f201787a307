-- Filters of a list, one after the other.
use Rattle.std.proofs.Common.{◌≡◌, ℕ, zero, suc, ◌+◌, ◌<◌, ◌≤◌, List, [], ◌∷◌, map, length, drop, get_or, max, refl}
use Rattle.std.proofs.Common.{sym, ap, ◌∙◌, arith}
use Rattle.std.proofs.lemmas.List.{drop_more, drop_all}
use Rattle.ad_ldap.specs.declared.filter.Filter.{Filter}
use Rattle.ad_ldap.specs.FilterValue.{FilterList, filter_seen, filters_of, depth, depth_of_all}
use Rattle.ad_filter.specs.declared.outcome.Truth.{Truth}
use Rattle.ad_filter.specs.declared.outcome.Truth.TheVariants.{True, False, Undefined}
use Rattle.ad_filter.specs.ThreeValues.{both, either}
use Rattle.ad_filter.specs.Filtering.{View, truth, all_of, some_of}

both_assoc : (a b c : Truth) → both (both a b) c ≡ both a (both b c)
both_assoc True b c = refl
both_assoc False b c = refl
both_assoc Undefined True c = refl
both_assoc Undefined False c = refl
both_assoc Undefined Undefined True = refl
both_assoc Undefined Undefined False = refl
both_assoc Undefined Undefined Undefined = refl

either_assoc : (a b c : Truth) → either (either a b) c ≡ either a (either b c)
either_assoc True b c = refl
either_assoc False b c = refl
either_assoc Undefined True c = refl
either_assoc Undefined False c = refl
either_assoc Undefined Undefined True = refl
either_assoc Undefined Undefined False = refl
either_assoc Undefined Undefined Undefined = refl

both_false : (a : Truth) → both a False ≡ False
both_false True = refl
both_false False = refl
both_false Undefined = refl

either_true : (a : Truth) → either a True ≡ True
either_true True = refl
either_true False = refl
either_true Undefined = refl

both_true : (a : Truth) → both a True ≡ a
both_true True = refl
both_true False = refl
both_true Undefined = refl

either_false : (a : Truth) → either a False ≡ a
either_false True = refl
either_false False = refl
either_false Undefined = refl

-- the filters from a place on
abbrev pub from : List Filter → ℕ → FilterList
from filters i = filters_of (map filter_seen (drop i filters))

from_here : (filters : List Filter) (i : ℕ) (f : Filter) → i < length filters → f ≡ get_or filters i f
    → drop i filters ≡ f ∷ drop (i + 1) filters
from_here filters i f lt is = drop_more filters i f lt ∙ ap (λ (g : Filter). g ∷ drop (i + 1) filters) (sym is)

all_here : (view : View) (filters : List Filter) (i : ℕ) (f : Filter) → i < length filters → f ≡ get_or filters i f
    → all_of view (from filters i) ≡ both (truth view (filter_seen f)) (all_of view (from filters (i + 1)))
unfolding truth all_of some_of
all_here view filters i f lt is = ap (λ (fs : List Filter). all_of view (filters_of (map filter_seen fs)))
    (from_here filters i f lt is)

some_here : (view : View) (filters : List Filter) (i : ℕ) (f : Filter) → i < length filters → f ≡ get_or filters i f
    → some_of view (from filters i) ≡ either (truth view (filter_seen f)) (some_of view (from filters (i + 1)))
unfolding truth all_of some_of
some_here view filters i f lt is = ap (λ (fs : List Filter). some_of view (filters_of (map filter_seen fs)))
    (from_here filters i f lt is)

pub all_more : (view : View) (filters : List Filter) (i : ℕ) (f : Filter) (so_far next whole : Truth) → i
    < length filters → f ≡ get_or filters i f → next ≡ truth view (filter_seen f)
    → both so_far (all_of view (from filters i)) ≡ whole → both (both so_far next)
    (all_of view (from filters (i + 1))) ≡ whole
all_more view filters i f so_far next whole lt is says before =
    both_assoc so_far next (all_of view (from filters (i + 1)))
    ∙ ap (λ (t : Truth). both so_far (both t (all_of view (from filters (i + 1))))) says
    ∙ ap (both so_far) (sym (all_here view filters i f lt is))
    ∙ before

pub all_false : (view : View) (filters : List Filter) (i : ℕ) (f : Filter) (so_far whole : Truth) → i < length filters
    → f ≡ get_or filters i f → False ≡ truth view (filter_seen f)
    → both so_far (all_of view (from filters i)) ≡ whole → False ≡ whole
all_false view filters i f so_far whole lt is says before =
    sym (both_false so_far)
    ∙ ap (λ (t : Truth). both so_far (both t (all_of view (from filters (i + 1))))) says
    ∙ ap (both so_far) (sym (all_here view filters i f lt is))
    ∙ before

pub all_end : (view : View) (filters : List Filter) (i : ℕ) (so_far whole : Truth) → length filters ≤ i
    → both so_far (all_of view (from filters i)) ≡ whole → so_far ≡ whole
unfolding truth all_of some_of
all_end view filters i so_far whole le before =
    sym (both_true so_far) ∙ ap (λ (fs : List Filter). both so_far (all_of view (filters_of (map filter_seen fs))))
    (sym (drop_all i filters le)) ∙ before

pub some_more : (view : View) (filters : List Filter) (i : ℕ) (f : Filter) (so_far next whole : Truth) → i
    < length filters → f ≡ get_or filters i f → next ≡ truth view (filter_seen f)
    → either so_far (some_of view (from filters i)) ≡ whole → either (either so_far next)
    (some_of view (from filters (i + 1))) ≡ whole
some_more view filters i f so_far next whole lt is says before =
    either_assoc so_far next (some_of view (from filters (i + 1)))
    ∙ ap (λ (t : Truth). either so_far (either t (some_of view (from filters (i + 1))))) says
    ∙ ap (either so_far) (sym (some_here view filters i f lt is))
    ∙ before

pub some_true : (view : View) (filters : List Filter) (i : ℕ) (f : Filter) (so_far whole : Truth) → i < length filters
    → f ≡ get_or filters i f → True ≡ truth view (filter_seen f)
    → either so_far (some_of view (from filters i)) ≡ whole → True ≡ whole
some_true view filters i f so_far whole lt is says before =
    sym (either_true so_far)
    ∙ ap (λ (t : Truth). either so_far (either t (some_of view (from filters (i + 1))))) says
    ∙ ap (either so_far) (sym (some_here view filters i f lt is))
    ∙ before

pub some_end : (view : View) (filters : List Filter) (i : ℕ) (so_far whole : Truth) → length filters ≤ i
    → either so_far (some_of view (from filters i)) ≡ whole → so_far ≡ whole
unfolding truth all_of some_of
some_end view filters i so_far whole le before =
    sym (either_false so_far) ∙ ap (λ (fs : List Filter). either so_far
    (some_of view (filters_of (map filter_seen fs)))) (sym (drop_all i filters le)) ∙ before

-- ---- depths

max_first : (a b : ℕ) → a ≤ max a b
max_first a b = omega arith

max_second : (a b : ℕ) → b ≤ max a b
max_second a b = omega arith

-- a filter of a list is no deeper than the list
pub less_deep : (filters : List Filter) (i : ℕ) (f : Filter) → i < length filters → f ≡ get_or filters i f
    → depth (filter_seen f) ≤ depth_of_all (filters_of (map filter_seen filters))
less_deep [] i f lt is = absurd (omega (arith, lt))
less_deep (g ∷ gs) zero f lt is = rw is (max_first (depth (filter_seen g))
    (depth_of_all (filters_of (map filter_seen gs))))
less_deep (g ∷ gs) (suc i) f lt is =
    le_trans' (less_deep gs i f (omega (arith, lt)) is)
    (max_second (depth (filter_seen g)) (depth_of_all (filters_of (map filter_seen gs))))
  where
    le_trans' : {a b c : ℕ} → a ≤ b → b ≤ c → a ≤ c
    le_trans' ab bc = omega (arith, ab, bc)
