-- Filters of filters.
use Rattle.std.proofs.Common.{◌≡◌, Bool, ◌||◌, ◌&&◌, refl, ap, ◌∙◌}
use Rattle.std.specs.List.{list_any, list_all}
use Rattle.ad_ldap.specs.FilterValue.{FilterValue, FilterList, none, more}
use Rattle.ad_ldap.specs.FilterValue as filter
use Rattle.ad_filter.specs.declared.outcome.Truth.{Truth}
use Rattle.ad_filter.specs.declared.outcome.Truth.TheVariants.{True, False, Undefined}
use Rattle.ad_filter.specs.ThreeValues.{both, either, opposite, is_true, is_false, SaysAll, SaysSome}
use Rattle.ad_filter.specs.Filtering.{View, truth, all_of, some_of, truths, nots}

both_false : (a b : Truth) → is_false (both a b) ≡ is_false a || is_false b
both_false True b = refl
both_false False b = refl
both_false Undefined True = refl
both_false Undefined False = refl
both_false Undefined Undefined = refl

both_true : (a b : Truth) → is_true (both a b) ≡ is_true a && is_true b
both_true True b = refl
both_true False b = refl
both_true Undefined True = refl
both_true Undefined False = refl
both_true Undefined Undefined = refl

either_true : (a b : Truth) → is_true (either a b) ≡ is_true a || is_true b
either_true True b = refl
either_true False b = refl
either_true Undefined True = refl
either_true Undefined False = refl
either_true Undefined Undefined = refl

either_false : (a b : Truth) → is_false (either a b) ≡ is_false a && is_false b
either_false True b = refl
either_false False b = refl
either_false Undefined True = refl
either_false Undefined False = refl
either_false Undefined Undefined = refl

opposite_both : (a b : Truth) → opposite (both a b) ≡ either (opposite a) (opposite b)
opposite_both True b = refl
opposite_both False b = refl
opposite_both Undefined True = refl
opposite_both Undefined False = refl
opposite_both Undefined Undefined = refl

all_false : (view : View) (filters : FilterList) → is_false (all_of view filters)
    ≡ list_any is_false (truths view filters)
unfolding truth all_of some_of truths
all_false view none = refl
all_false view (more f filters) = both_false (truth view f) (all_of view filters)
    ∙ ap (λ (b : Bool). is_false (truth view f) || b) (all_false view filters)

all_true : (view : View) (filters : FilterList) → is_true (all_of view filters) ≡ list_all is_true (truths view filters)
unfolding truth all_of some_of truths
all_true view none = refl
all_true view (more f filters) = both_true (truth view f) (all_of view filters)
    ∙ ap (λ (b : Bool). is_true (truth view f) && b) (all_true view filters)

some_true : (view : View) (filters : FilterList) → is_true (some_of view filters)
    ≡ list_any is_true (truths view filters)
unfolding truth all_of some_of truths
some_true view none = refl
some_true view (more f filters) = either_true (truth view f) (some_of view filters)
    ∙ ap (λ (b : Bool). is_true (truth view f) || b) (some_true view filters)

some_false : (view : View) (filters : FilterList) → is_false (some_of view filters)
    ≡ list_all is_false (truths view filters)
unfolding truth all_of some_of truths
some_false view none = refl
some_false view (more f filters) = either_false (truth view f) (some_of view filters)
    ∙ ap (λ (b : Bool). is_false (truth view f) && b) (some_false view filters)

pub says_all : (view : View) (filters : FilterList) → SaysAll (truth view (filter.And filters)) (truths view filters)
unfolding truth
says_all view filters = record { when_false = all_false view filters; when_true = all_true view filters }

pub says_some : (view : View) (filters : FilterList) → SaysSome (truth view (filter.Or filters)) (truths view filters)
unfolding truth
says_some view filters = record { when_true = some_true view filters; when_false = some_false view filters }

opposite_all : (view : View) (filters : FilterList) → opposite (all_of view filters) ≡ some_of view (nots filters)
unfolding truth all_of some_of nots
opposite_all view none = refl
opposite_all view (more f filters) = opposite_both (truth view f) (all_of view filters)
    ∙ ap (either (opposite (truth view f))) (opposite_all view filters)

pub not_all : (view : View) (filters : FilterList) → truth view (filter.Not (filter.And filters))
    ≡ truth view (filter.Or (nots filters))
unfolding truth
not_all view filters = opposite_all view filters
