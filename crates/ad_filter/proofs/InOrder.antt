-- Values in order by their keys.
use Rattle.std.proofs.Common.{◌≡◌, ◌↔◌, ℕ, Bool, true, false, ◌&&◌, ◌||◌, IsTrue, List, [], ◌∷◌, get_or, inl, inr}
use Rattle.std.proofs.Common.{refl, sym, ap, ◌∙◌, arith}
use Rattle.std.specs.Prelude.{All, Contains}
use Rattle.std.specs.List.{list_any}
use Rattle.std.specs.List.Sorted.{IsPartitionPoint}
use Rattle.std.specs.Ordering.{is_lt, is_gt}
use Rattle.std.specs.declared.cmp.Ordering.{Ordering}
use Rattle.std.specs.declared.cmp.Ordering.TheVariants.{Less, Equal, Greater}
use Rattle.std.proofs.lemmas.Bool.{cases_Bool, cases_lt, both_ways, or_parts, and_from}
use Rattle.std.proofs.lemmas.List.Folds.{list_any_none, list_any_at}
use Rattle.ad_value.specs.declared.value.Key.{Key}
use Rattle.ad_value.specs.declared.syntax.Syntax.{Syntax}
use Rattle.ad_value.specs.Value.{Value, same_key, key_order}
use Rattle.ad_filter.specs.Filtering.{is_compared}
use Rattle.ad_filter.specs.Comparing.{any_passes}

-- what is told of keys
abbrev pub Tells : Type 0
Tells = (a b : Key) → (key_order a b ≡ Equal) ↔ (a ≡ b)

abbrev pub Decides : Type 0
Decides = (a b : Key) → IsTrue (same_key a b) ↔ (a ≡ b)

-- ---- a key that stands nowhere

not_same : (a b : Key) → Tells → Decides → (key_order a b ≡ Equal → ⊥) → same_key a b ≡ false
not_same a b tells decides other = elim (cases_Bool (same_key a b)) [
  | inl same ↦ absurd (other ((tells a b).1 ((decides a b).0 same)))
  | inr differ ↦ differ
]

less_differs : (o : Ordering) → o ≡ Less → o ≡ Equal → ⊥
less_differs o less equal = both_ways (is_lt o) (ap is_lt equal) (ap is_lt less)

greater_differs : (o : Ordering) → o ≡ Greater → o ≡ Equal → ⊥
greater_differs o greater equal = both_ways (is_gt o) (ap is_gt equal) (ap is_gt greater)

-- where those before a place have lesser keys and those from it on greater ones, none has the key
pub none_of_key : (values : List Value) (key : Key) (i : ℕ) → Tells → Decides
    → IsPartitionPoint (λ (own : Value). key_order own.key key ≡ Less)
    (λ (own : Value). key_order own.key key ≡ Greater) values i
    → list_any (λ (own : Value). same_key own.key key) values ≡ false
none_of_key values key i tells decides parts = list_any_none (λ (own : Value). same_key own.key key) values each
  where
    each : All (λ (own : Value). same_key own.key key ≡ false) values
    each k d lt = elim (cases_lt k i) [
      | inl before ↦ not_same (get_or values k d).key key tells decides
          (less_differs (key_order (get_or values k d).key key) (parts.0 k d (omega arith) before))
      | inr behind ↦ not_same (get_or values k d).key key tells decides
          (greater_differs (key_order (get_or values k d).key key) (parts.1 k d behind lt))
    ]

-- ---- what is compared

pub none_compared : (syntax : Syntax) (test : Key → Bool) (values : List Value)
    → list_any (λ (own : Value). test own.key) values ≡ false → false ≡ any_passes syntax test values
unfolding any_passes
none_compared syntax test [] none = refl
none_compared syntax test (v ∷ vs) none =
    let parts = or_parts (test v.key) (list_any (λ (own : Value). test own.key) vs) none in
    none_compared syntax test vs parts.1
    ∙ ap (λ (b : Bool). b || any_passes syntax test vs)
    (sym (ap (λ (b : Bool). is_compared syntax v && b) parts.0 ∙ and_false (is_compared syntax v)))
  where
    and_false : (b : Bool) → (b && false) ≡ false
    and_false true = refl
    and_false false = refl

pub one_compared : (syntax : Syntax) (test : Key → Bool) (values : List Value) (own : Value) → Contains values own
    → true ≡ is_compared syntax own → test own.key ≡ true → true ≡ any_passes syntax test values
unfolding any_passes
one_compared syntax test values own there compared passes =
    let both : (λ (v : Value). is_compared syntax v && test v.key) own ≡ true = and_from (is_compared syntax own)
    (test own.key) (sym compared) passes in
    sym (list_any_at (λ (v : Value). is_compared syntax v && test v.key) values there.0 own there.1
    (ap (λ (v : Value). is_compared syntax v && test v.key) there.2 ∙ both))
