-- Of classes that are gone over, the one that is left is the only one that may have all of them in its chain.
use Rattle.std.proofs.Common.{◌≡◌, ◌∙◌, ℕ, zero, suc, ◌+◌, ◌<◌, ◌≤◌, Bool, true, false, inl, inr, List, [], ◌∷◌, drop}
use Rattle.std.proofs.Common.{length, get_or, Option, Some, None, refl, sym, ap, subst, arith}
use Rattle.std.specs.Prelude.{find, slice_get, option_map, cond, ◌==◌, ◌||◌, ◌&&◌}
use Rattle.std.specs.List.{list_all}
use Rattle.std.specs.Option.{option_map_or}
use Rattle.std.proofs.lemmas.Bool.{cases_Bool, eqb-true, and_from}
use Rattle.std.proofs.lemmas.List.{length-map, drop_all, at_drop_more}
use Rattle.std.proofs.lemmas.List.Folds.{list_all-map}
use Rattle.std.proofs.lemmas.Option.{slice_get-map, slice_get-get_or}
use Rattle.ad_schema_classes.specs.Chains.{contains, option_at, chain, chain_within}
use Rattle.ad_schema.specs.declared.line.SchemaRecord.{SchemaRecord}
use Rattle.ad_schema.specs.declared.info.ClassId.{ClassId}
use Rattle.ad_schema.specs.declared.line.SchemaKind.TheVariants.{Class}
use Rattle.ad_schema.specs.Attributes.{lines_of, names_of}
use Rattle.ad_schema.specs.Classes.{chain_of, superclass, superclasses, classes_of}
use Rattle.ad_schema.specs.Sound.{ChainsEnd}
use Rattle.ad_schema.proofs.SchemaLemmas.{length-classes}
use Rattle.ad_schema_defaults.specs.Lowest.{is_below_all, if_below_all, lower}
use Rattle.ad_schema_defaults.proofs.Naming.{ids}

-- ---- what stands in the chain of one that stands in a chain

or_true : (a b : Bool) → b ≡ true → (a || b) ≡ true
or_true true b e = refl
or_true false b e = e

within : (options : List (Option ℕ)) (class above : ℕ) → option_at options class ≡ Some above → class < length options
unfolding option_at
within [] class above e = absurd cc
within (o ∷ options) zero above e = omega arith
within (o ∷ options) (suc class) above e = let lt : class < length options = within options class above e
    in omega (arith, lt)

-- the chain of a class with none above it, whether it is one of the schema or not
alone : (above : List (Option ℕ)) (n class : ℕ) → option_at above class ≡ None → (x : ℕ)
    → contains (chain_within above n class) x ≡ true → class ≡ x
unfolding chain_within
alone above zero class none x e = absurd cc
alone above (suc n) class none x e = by (class == x) refl
    (sym (ap (λ (o : Option ℕ). contains (class ∷ option_map_or (chain_within above n) o []) x) none) ∙ e)
  where
    by : (same : Bool) → (class == x) ≡ same → (same || false) ≡ true → class ≡ x
    by true same t = eqb-true class x same
    by false same t = absurd cc

nothing : (classes : List ℕ) (x : ℕ) → length classes ≤ 0 → contains classes x ≡ true → ⊥
nothing [] x le at = absurd cc
nothing (class ∷ classes) x le at = absurd (omega (arith, le))

counted : (schema : List SchemaRecord) → length (superclasses schema) ≡ length (classes_of schema)
unfolding superclasses
counted schema = length-map (lines_of Class schema) (superclass (names_of Class schema)) ∙ sym (length-classes schema)

chain_alone : (schema : List SchemaRecord) (class x : ℕ) → option_at (superclasses schema) class ≡ None
    → contains (chain_of schema class) x ≡ true → class ≡ x
unfolding chain_of chain
chain_alone schema class x none at = alone (superclasses schema) (length (superclasses schema)) class none x at

goes_up : (schema : List SchemaRecord) → ChainsEnd schema → (n class x y : ℕ) → length (chain_of schema class) ≤ n
    → contains (chain_of schema class) x ≡ true → contains (chain_of schema x) y ≡ true
    → contains (chain_of schema class) y ≡ true
goes_up schema ends zero class x y le at more = absurd (nothing (chain_of schema class) x le at)
goes_up schema ends (suc n) class x y le at more = by (option_at (superclasses schema) class) refl
    (λ d less in_rest. goes_up schema ends n d x y less in_rest more)
  where
    same : class ≡ x → contains (chain_of schema class) y ≡ true
    same is = subst (λ (c : ℕ). contains (chain_of schema c) y ≡ true) (sym is) more

    by : (o : Option ℕ) → option_at (superclasses schema) class ≡ o
        → ((d : ℕ) → length (chain_of schema d) ≤ n → contains (chain_of schema d) x ≡ true
        → contains (chain_of schema d) y ≡ true)
        → contains (chain_of schema class) y ≡ true
    by None none again = same (chain_alone schema class x none at)
    by (Some d) some again =
        let lt : class < length (superclasses schema) = within (superclasses schema) class d some in
        let inside : class < length (classes_of schema) = omega (arith, lt, counted schema) in
        let step : chain_of schema class ≡ class ∷ chain_of schema d =
        ends.step class inside ∙ ap (λ (o : Option ℕ). class ∷ option_map_or (chain_of schema) o []) some in
        let long : length (chain_of schema class) ≡ suc (length (chain_of schema d)) = ap length step in
        elim (cases_Bool (class == x)) [
          | inl is ↦ same (eqb-true class x is)
          | inr other ↦
              let rest : contains (chain_of schema d) x ≡ true =
              sym (ap (λ (b : Bool). b || contains (chain_of schema d) x) other)
              ∙ sym (ap (λ (l : List ℕ). contains l x) step) ∙ at in
              ap (λ (l : List ℕ). contains l y) step
              ∙ or_true (class == y) (contains (chain_of schema d) y) (again d (omega (arith, long, le)) rest)
        ]

-- ---- all are in a chain, or one isn't

all_from : (f g : ℕ → Bool) → ((x : ℕ) → f x ≡ true → g x ≡ true) → (xs : List ℕ) → list_all f xs ≡ true
    → list_all g xs ≡ true
all_from f g more [] all = refl
all_from f g more (x ∷ xs) all = elim (cases_Bool (f x)) [
  | inl here ↦ and_from (g x) (list_all g xs) (more x here)
      (all_from f g more xs (sym (ap (λ (b : Bool). b && list_all f xs) here) ∙ all))
  | inr not ↦ let no : false ≡ true = sym (ap (λ (b : Bool). b && list_all f xs) not) ∙ all in absurd cc
]

not_all : (f : ℕ → Bool) (xs : List ℕ) (i x : ℕ) → slice_get xs i ≡ Some x → f x ≡ false → list_all f xs ≡ false
not_all f [] i x at not = absurd cc
not_all f (y ∷ xs) zero x at not = let is : y ≡ x = cc in ap (λ (b : Bool). b && list_all f xs) (ap f is ∙ not)
not_all f (y ∷ xs) (suc i) x at not = and_false (f y) (list_all f xs) (not_all f xs i x at not)
  where
    and_false : (a b : Bool) → b ≡ false → (a && b) ≡ false
    and_false true b e = e
    and_false false b e = refl

-- ---- one class more

-- the first of these that has all in its chain
abbrev pub found : List SchemaRecord → List ℕ → List ℕ → Option ℕ
found schema classes some = find (is_below_all schema classes) some

pub one_lower : (schema : List SchemaRecord) → ChainsEnd schema → (classes rest : List ℕ) (i class next : ℕ)
    → slice_get classes i ≡ Some next
    → found schema classes (class ∷ next ∷ rest) ≡ found schema classes (lower schema class next ∷ rest)
one_lower schema ends classes rest i class next at = elim (cases_Bool (contains (chain_of schema class) next)) [
  | inl in_chain ↦ rw in_chain (skipped (is_below_all schema classes class) refl in_chain)
  | inr not_in ↦
      let not_below : is_below_all schema classes class ≡ false = not_all (contains (chain_of schema class)) classes i
      next at not_in in
      rw (not_in, not_below) refl
]
  where
    skipped : (below : Bool) → is_below_all schema classes class ≡ below → contains (chain_of schema class) next ≡ true
        → cond below (Some class) (found schema classes (next ∷ rest)) ≡ cond below (Some class)
        (found schema classes rest)
    skipped true is in_chain = refl
    skipped false is in_chain = elim (cases_Bool (is_below_all schema classes next)) [
      | inl all ↦
          let also : is_below_all schema classes class ≡ true =
          all_from (contains (chain_of schema next)) (contains (chain_of schema class))
          (λ x e. goes_up schema ends (length (chain_of schema class)) class next x (omega arith) in_chain e) classes
          all in
          let no : true ≡ false = sym also ∙ is in
          absurd cc
      | inr not ↦ rw not refl
    ]

-- ---- the loop

twice : (schema : List SchemaRecord) (classes rest : List ℕ) (class : ℕ) → found schema classes (class ∷ class ∷ rest)
    ≡ found schema classes (class ∷ rest)
twice schema classes rest class = by (is_below_all schema classes class)
  where
    by : (below : Bool) → cond below (Some class) (cond below (Some class) (found schema classes rest))
        ≡ cond below (Some class) (found schema classes rest)
    by true = refl
    by false = refl

pub begun : (schema : List SchemaRecord) (classes : List ClassId) (first : ClassId) → slice_get classes 0 ≡ Some first
    → found schema (ids classes) (first.0 ∷ ids classes) ≡ found schema (ids classes) (ids classes)
begun schema [] first e = absurd cc
begun schema (c ∷ classes) first e =
    let is : c ≡ first = cc in
    ap (λ (f : ClassId). found schema (ids (c ∷ classes)) (f.0 ∷ ids (c ∷ classes))) (sym is)
    ∙ twice schema (ids (c ∷ classes)) (ids classes) c.0

pub gone_on : (schema : List SchemaRecord) → ChainsEnd schema → (classes : List ClassId) (i class : ℕ) (d : ClassId)
    → i < length classes
    → found schema (ids classes) (class ∷ ids (drop i classes)) ≡ found schema (ids classes)
    (lower schema class (get_or classes i d).0 ∷ ids (drop (i + 1) classes))
gone_on schema ends classes i class d lt =
    let at : slice_get (ids classes) i ≡ Some (get_or classes i d).0 =
    slice_get-map (λ (id : ClassId). id.0) classes i ∙ ap (option_map (λ (id : ClassId). id.0))
    (slice_get-get_or classes i d lt) in
    at_drop_more (λ (left : List ClassId). found schema (ids classes) (class ∷ ids left)) classes i d lt
    ∙ one_lower schema ends (ids classes) (ids (drop (i + 1) classes)) i class (get_or classes i d).0 at

pub ended : (schema : List SchemaRecord) (classes : List ClassId) (i class : ℕ) → length classes ≤ i
    → found schema (ids classes) (class ∷ ids (drop i classes)) ≡ if_below_all schema (ids classes) class
ended schema classes i class past = ap (λ (left : List ClassId). found schema (ids classes) (class ∷ ids left))
    (drop_all i classes past)

pub judged : (schema : List SchemaRecord) (classes : List ClassId) (class : ℕ) (b : Bool)
    → list_all (λ (other : ClassId). contains (chain_of schema class) other.0) classes ≡ b
    → if_below_all schema (ids classes) class ≡ cond b (Some class) None
judged schema classes class b is =
    ap (λ (t : Bool). cond t (Some class) None)
    (list_all-map (contains (chain_of schema class)) (λ (id : ClassId). id.0) classes ∙ is)
