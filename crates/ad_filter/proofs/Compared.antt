-- Values compared with what was sent.
use Rattle.std.proofs.Common.{◌≡◌, ℕ, ◌+◌, ◌<◌, ◌≤◌, Bool, true, false, ◌&&◌, ◌||◌, List, ◌∷◌, length, drop, get_or}
use Rattle.std.proofs.Common.{Option, Result, Some, Ok, Err, if◌then◌else◌, sym, ap, ◌∙◌}
use Rattle.std.specs.Result.{result_ok}
use Rattle.std.proofs.lemmas.List.{drop_more, drop_all}
use Rattle.std.proofs.lemmas.Option.{none-some, same_Some}
use Rattle.ad_value.specs.declared.syntax.Syntax.{Syntax}
use Rattle.ad_value.specs.declared.value.Key.{Key}
use Rattle.ad_value.specs.Value.{Value}
use Rattle.ad_value.specs.declared.pattern.Pattern.{Pattern}
use Rattle.ad_value.specs.declared.fault.ValueFault.{ValueFault}
use Rattle.ad_value.specs.ValueOf.{normal_or_fault}
use Rattle.ad_value.specs.Pieces.{fits_key}
use Rattle.ad_value.specs.Sent.{pattern_of}
use Rattle.ad_filter.specs.declared.outcome.Truth.{Truth}
use Rattle.ad_filter.specs.declared.outcome.Truth.TheVariants as truth
use Rattle.ad_filter.specs.declared.comparison.Comparison.{Comparison}
use Rattle.ad_filter.specs.ThreeValues.{truth_of}
use Rattle.ad_filter.specs.Filtering.{is_compared, of_sent, of_pieces, some_value, says_pieces}
use Rattle.ad_filter.specs.Comparing.{passes, any_passes, is_asked_of, says_compared}

-- ---- one value after the other

from_here : (values : List Value) (i : ℕ) (v : Value) → i < length values → v ≡ get_or values i v → drop i values ≡ v
    ∷ drop (i + 1) values
from_here values i v lt is = drop_more values i v lt ∙ ap (λ (w : Value). w ∷ drop (i + 1) values) (sym is)

pub this_passes : (syntax : Syntax) (test : Key → Bool) (values : List Value) (i : ℕ) (v : Value) → i < length values
    → v ≡ get_or values i v → true ≡ is_compared syntax v && test v.key
    → any_passes syntax test (drop i values) ≡ any_passes syntax test values → true ≡ any_passes syntax test values
unfolding any_passes
this_passes syntax test values i v lt is holds so_far =
    ap (λ (b : Bool). b || any_passes syntax test (drop (i + 1) values)) holds
    ∙ sym (ap (any_passes syntax test) (from_here values i v lt is)) ∙ so_far

pub others_pass : (syntax : Syntax) (test : Key → Bool) (values : List Value) (i : ℕ) (v : Value) → i < length values
    → v ≡ get_or values i v → false ≡ is_compared syntax v && test v.key
    → any_passes syntax test (drop i values) ≡ any_passes syntax test values
    → any_passes syntax test (drop (i + 1) values) ≡ any_passes syntax test values
unfolding any_passes
others_pass syntax test values i v lt is holds so_far =
    ap (λ (b : Bool). b || any_passes syntax test (drop (i + 1) values)) holds
    ∙ sym (ap (any_passes syntax test) (from_here values i v lt is)) ∙ so_far

pub none_passes : (syntax : Syntax) (test : Key → Bool) (values : List Value) (i : ℕ) → length values ≤ i
    → any_passes syntax test (drop i values) ≡ any_passes syntax test values
    → false ≡ any_passes syntax test values
unfolding any_passes
none_passes syntax test values i le so_far = sym (ap (any_passes syntax test) (drop_all i values le)) ∙ so_far

-- ---- what is said

is_ok_of : (r : Result Value ValueFault) (v : Value) → Some v ≡ result_ok r → r ≡ Ok v
is_ok_of (Ok w) v is = ap (λ (x : Value). Ok x) (sym (same_Some v w is))
is_ok_of (Err e) v is = absurd (none-some v (sym is))

pub said : (comparison : Comparison) (syntax : Syntax) (sent : List ℕ) (values : List Value) (v : Value) (any : Bool)
    (t : Truth) → true ≡ is_asked_of comparison syntax
    → Some v ≡ result_ok (normal_or_fault syntax sent) → any ≡ any_passes syntax (passes comparison v.key) values → t
    ≡ truth_of any
    → t ≡ says_compared comparison sent (record { syntax = syntax; values = values })
unfolding any_passes
said comparison syntax sent values v any t asked read passed is =
    is ∙ ap truth_of passed
    ∙ sym (
    ap (λ (b : Bool). if b then of_sent (normal_or_fault syntax sent)
    (λ (key : Key). some_value (record { syntax = syntax; values = values }) (passes comparison key))
    else truth.Undefined) (sym asked)
    ∙ ap (λ (r : Result Value ValueFault). of_sent r
    (λ (key : Key). some_value (record { syntax = syntax; values = values }) (passes comparison key)))
    (is_ok_of (normal_or_fault syntax sent) v read))

pub said_of_pieces : (syntax : Syntax) (sent pattern : Pattern) (values : List Value) (any : Bool) (t : Truth)
    → Some pattern ≡ pattern_of syntax sent
    → any ≡ any_passes syntax (fits_key pattern) values → t ≡ truth_of any → t
    ≡ says_pieces sent (record { syntax = syntax; values = values })
unfolding any_passes
said_of_pieces syntax sent pattern values any t read passed is =
    is ∙ ap truth_of passed
    ∙ ap (λ (p : Option Pattern). of_pieces p
    (λ (q : Pattern). some_value (record { syntax = syntax; values = values }) (fits_key q))) read
