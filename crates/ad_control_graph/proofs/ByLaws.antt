-- Arcs from the nodes of things by a test: tests that agree, none that passes, and one of two.
use Rattle.std.proofs.Common.{◌≡◌, ◌∙◌, ℕ, ◌+◌, ◌<◌, ◌⊎◌, inl, inr, Bool, false, ◌||◌, List, [], ◌∷◌, length, map}
use Rattle.std.proofs.Common.{take, get_or, refl, sym, ap}
use Rattle.std.specs.List.{list_any}
use Rattle.std.proofs.Math.Bool.{or-false}
use Rattle.std.proofs.lemmas.Bool.{false≢true, or_cases, or_left, or_right}
use Rattle.std.proofs.lemmas.List.{take_more}
use Rattle.std.proofs.lemmas.List.Folds.{list_any-append}
use Rattle.ad_control_graph.specs.declared.kind.Kind.{Kind}
use Rattle.ad_control_graph.specs.declared.graph.Graph.{Graph}
use Rattle.ad_control_graph.specs.Drawing.{Adds, IsBy}
use Rattle.ad_control_graph.proofs.AddLaws.{Nobody, adds_nothing, adds_both, adds_alike}

pub by_same : {A : Type 0} (things : List A) (at : List ℕ) (f g : A → Bool) (x : ℕ)
    → ((thing : A) → f thing ≡ g thing) → IsBy things at f x → IsBy things at g x
by_same things at f g x same by = record {
  place = by.place;
  thing = by.thing;
  is_thing = by.is_thing;
  is_at = by.is_at;
  passes = sym (same by.thing) ∙ by.passes;
}

pub adds_same : {A : Type 0} (a b : Graph) (kind : Kind) (to : ℕ) (things : List A) (at : List ℕ) (f g : A → Bool)
    → ((thing : A) → f thing ≡ g thing) → Adds a b kind to (IsBy things at f) → Adds a b kind to (IsBy things at g)
adds_same a b kind to things at f g same adds =
    adds_alike a b kind to (IsBy things at f) (IsBy things at g) (λ x by. by_same things at f g x same by)
    (λ x by. by_same things at g f x (λ thing. sym (same thing)) by) adds

-- nothing passes
pub adds_unmet : {A : Type 0} (graph : Graph) (kind : Kind) (to : ℕ) (things : List A) (at : List ℕ) (f : A → Bool)
    → ((thing : A) → f thing ≡ false) → Adds graph graph kind to (IsBy things at f)
adds_unmet graph kind to things at f none =
    adds_alike graph graph kind to Nobody (IsBy things at f) (λ x nobody. absurd nobody)
    (λ x by. false≢true (sym (none by.thing) ∙ by.passes)) (adds_nothing graph kind to)

-- ---- one of two

by_first : {A : Type 0} (things : List A) (at : List ℕ) (f g : A → Bool) (x : ℕ) → IsBy things at f x
    → IsBy things at (λ (thing : A). f thing || g thing) x
by_first things at f g x by = record {
  place = by.place;
  thing = by.thing;
  is_thing = by.is_thing;
  is_at = by.is_at;
  passes = or_left (f by.thing) (g by.thing) by.passes;
}

by_second : {A : Type 0} (things : List A) (at : List ℕ) (f g : A → Bool) (x : ℕ) → IsBy things at g x
    → IsBy things at (λ (thing : A). f thing || g thing) x
by_second things at f g x by = record {
  place = by.place;
  thing = by.thing;
  is_thing = by.is_thing;
  is_at = by.is_at;
  passes = or_right (f by.thing) (g by.thing) by.passes;
}

by_one_of : {A : Type 0} (things : List A) (at : List ℕ) (f g : A → Bool) (x : ℕ)
    → IsBy things at (λ (thing : A). f thing || g thing) x → IsBy things at f x ⊎ IsBy things at g x
by_one_of things at f g x by = elim (or_cases (f by.thing) (g by.thing) by.passes) [
  | inl first ↦ inl (record {
    place = by.place;
    thing = by.thing;
    is_thing = by.is_thing;
    is_at = by.is_at;
    passes = first;
  })
  | inr second ↦ inr (record {
    place = by.place;
    thing = by.thing;
    is_thing = by.is_thing;
    is_at = by.is_at;
    passes = second;
  })
]

pub adds_either : {A : Type 0} (a b c : Graph) (kind : Kind) (to : ℕ) (things : List A) (at : List ℕ) (f g : A → Bool)
    → Adds a b kind to (IsBy things at f) → Adds b c kind to (IsBy things at g)
    → Adds a c kind to (IsBy things at (λ (thing : A). f thing || g thing))
adds_either {A} a b c kind to things at f g first second =
    adds_alike a c kind to (λ x. IsBy things at f x ⊎ IsBy things at g x)
    (IsBy things at (λ (thing : A). f thing || g thing))
    (λ x from. elim from [
      | inl one ↦ by_first things at f g x one
      | inr other ↦ by_second things at f g x other
    ])
    (λ x by. by_one_of things at f g x by)
    (adds_both a b c kind to (IsBy things at f) (IsBy things at g) first second)

-- ---- one of a list, one after the other

next : {Y : Type 0} (test : Y → Bool) (ys : List Y) (i : ℕ) (d : Y) → i < length ys
    → list_any test (take i ys) || test (get_or ys i d) ≡ list_any test (take (i + 1) ys)
next test ys i d lt =
    sym (ap (list_any test) (take_more ys i d lt)
    ∙ list_any-append test (take i ys) (get_or ys i d ∷ [])
    ∙ ap (λ (b : Bool). list_any test (take i ys) || b) (or-false (test (get_or ys i d))))

-- what is drawn for the first of a list, and then for one more
pub adds_next : {A Y : Type 0} (a b c : Graph) (kind : Kind) (to : ℕ) (things : List A) (at : List ℕ)
    (test : A → Y → Bool) (ys : List Y) (i : ℕ) (d : Y) → i < length ys
    → Adds a b kind to (IsBy things at (λ (thing : A). list_any (test thing) (take i ys)))
    → Adds b c kind to (IsBy things at (λ (thing : A). test thing (get_or ys i d)))
    → Adds a c kind to (IsBy things at (λ (thing : A). list_any (test thing) (take (i + 1) ys)))
adds_next {A} {Y} a b c kind to things at test ys i d lt first second =
    adds_same a c kind to things at (λ (thing : A). list_any (test thing) (take i ys) || test thing (get_or ys i d))
    (λ (thing : A). list_any (test thing) (take (i + 1) ys)) (λ thing. next (test thing) ys i d lt)
    (adds_either a b c kind to things at (λ (thing : A). list_any (test thing) (take i ys))
    (λ (thing : A). test thing (get_or ys i d)) first second)

any_seen : {X Y : Type 0} (test : Y → Bool) (seen : X → Y) (xs : List X)
    → list_any (λ (x : X). test (seen x)) xs ≡ list_any test (map seen xs)
any_seen test seen [] = refl
any_seen test seen (x ∷ xs) = ap (λ (b : Bool). test (seen x) || b) (any_seen test seen xs)

-- the same of a list of what others represent
pub adds_any : {A X Y : Type 0} (a b c : Graph) (kind : Kind) (to : ℕ) (things : List A) (at : List ℕ)
    (test : A → Y → Bool) (seen : X → Y) (xs : List X) (i : ℕ) (d : X) → i < length xs
    → Adds a b kind to (IsBy things at (λ (thing : A). list_any (test thing) (map seen (take i xs))))
    → Adds b c kind to (IsBy things at (λ (thing : A). test thing (seen (get_or xs i d))))
    → Adds a c kind to (IsBy things at (λ (thing : A). list_any (test thing) (map seen (take (i + 1) xs))))
adds_any {A} {X} {Y} a b c kind to things at test seen xs i d lt first second =
    let on = λ (thing : A) (x : X). test thing (seen x) in
    adds_same a c kind to things at (λ (thing : A). list_any (on thing) (take (i + 1) xs))
    (λ (thing : A). list_any (test thing) (map seen (take (i + 1) xs)))
    (λ thing. any_seen (test thing) seen (take (i + 1) xs))
    (adds_next a b c kind to things at on xs i d lt
    (adds_same a b kind to things at (λ (thing : A). list_any (test thing) (map seen (take i xs)))
    (λ (thing : A). list_any (on thing) (take i xs)) (λ thing. sym (any_seen (test thing) seen (take i xs))) first)
    second)

-- none of an empty list
pub adds_any_none : {A Y : Type 0} (graph : Graph) (kind : Kind) (to : ℕ) (things : List A) (at : List ℕ)
    (test : A → Y → Bool) → Adds graph graph kind to (IsBy things at (λ (thing : A). list_any (test thing) []))
adds_any_none {A} graph kind to things at test =
    adds_unmet graph kind to things at (λ (thing : A). list_any (test thing) []) (λ thing. refl)
