-- A line more, among the attributes so far.
use Rattle.std.proofs.Common.{◌≡◌, inl, inr, ℕ, zero, suc, ◌+◌, ◌<◌, ◌≤◌, Bool, true, false, ltb, cond, not, List, []}
use Rattle.std.proofs.Common.{◌∷◌, ◌++◌, map, length, get_or, slice_set, Option, Some, None, refl, sym, ap, ◌∙◌}
use Rattle.std.proofs.Common.{arith}
use Rattle.std.specs.List.{position, position_or_len}
use Rattle.std.proofs.lemmas.Bool.{cases_Bool}
use Rattle.std.proofs.lemmas.Bool.Decides.{nat_tests}
use Rattle.std.proofs.lemmas.List.{length-map, map_push}
use Rattle.std.proofs.lemmas.List.Sums.{prefix_len-le-length}
use Rattle.std.proofs.lemmas.Grind.{common_steps}
use Rattle.ad_schema_classes.specs.Names.{same_name, place_of}
use Rattle.ad_ldif.specs.declared.record.LdifLine.{LdifLine}
use Rattle.ad_ldif.specs.Records.{Field, field_of}
use Rattle.ad_ldifmod_message.specs.Asked.{Attribute, and_line, grouped_behind, grouped}
use Rattle.ad_ldifmod_message.specs.Grouping.{with_value}

abbrev pub names_of : List Attribute → List (List ℕ)
names_of attrs = map (λ a. a.0) attrs

abbrev first_of : List (List ℕ) → List ℕ → ℕ
first_of names name = position_or_len (λ other. same_name other name) names

-- ---- by the first place of the name

later : (a : Attribute) (attrs : List Attribute) (n : ℕ) (value : List ℕ) → with_value (1 + n) value (a ∷ attrs) ≡ a
    ∷ with_value n value attrs
unfolding with_value
later a attrs n value = let e : 1 + n ≡ suc n = omega arith in rw e refl

there : (attrs : List Attribute) (f : Field) → first_of (names_of attrs) f.name < length attrs → and_line attrs f
    ≡ with_value (first_of (names_of attrs) f.name) f.value attrs
unfolding and_line with_value
there [] f lt = absurd (omega (arith, lt))
there (a ∷ attrs) f lt = elim (cases_Bool (same_name a.0 f.name)) [
  | inl same ↦ rw same refl
  | inr others ↦ rw others (ap (λ (rest : List Attribute). a ∷ rest) (there attrs f (below _ _ _ others lt))
      ∙ sym (later a attrs (first_of (names_of attrs) f.name) f.value))
]
  where
    below : (same : Bool) (n m : ℕ) → same ≡ false → cond (not same) (1 + n) 0 < suc m → n < m
    below true n m e lt = absurd cc
    below false n m e lt = omega (arith, lt)

nowhere : (attrs : List Attribute) (f : Field) → length attrs ≤ first_of (names_of attrs) f.name → and_line attrs f
    ≡ attrs ++ (f.name, f.value ∷ []) ∷ []
unfolding and_line
nowhere [] f le = refl
nowhere (a ∷ attrs) f le = elim (cases_Bool (same_name a.0 f.name)) [
  | inl same ↦ absurd (first _ _ _ same le)
  | inr others ↦ rw others (ap (λ (rest : List Attribute). a ∷ rest) (nowhere attrs f (above _ _ _ others le)))
]
  where
    first : (same : Bool) (n m : ℕ) → same ≡ true → suc m ≤ cond (not same) (1 + n) 0 → ⊥
    first true n m e le = omega (arith, le)
    first false n m e le = absurd cc

    above : (same : Bool) (n m : ℕ) → same ≡ false → suc m ≤ cond (not same) (1 + n) 0 → m ≤ n
    above true n m e le = absurd cc
    above false n m e le = omega (arith, le)

-- ---- by what the look-up found

some_place : (n m k : ℕ) → cond (ltb n m) (Some n) None ≡ Some k → (n ≡ k) × (n < m)
some_place n m k e = (grind (arith, common_steps, nat_tests), grind (arith, common_steps, nat_tests))

no_place : (n m : ℕ) → cond (ltb n m) (Some n) None ≡ None → m ≤ n
no_place n m e = grind (arith, common_steps, nat_tests)

pub found : (names : List (List ℕ)) (attrs : List Attribute) (f : Field) (place : ℕ) → names ≡ names_of attrs
    → place_of names f.name ≡ Some place → (place < length attrs)
    × (and_line attrs f ≡ with_value place f.value attrs)
unfolding place_of
found names attrs f place are at =
    let p = some_place (first_of (names_of attrs) f.name) (length (names_of attrs)) place
    (ap (λ (ns : List (List ℕ)). position (λ other. same_name other f.name) ns) (sym are) ∙ at) in
    let count : length (names_of attrs) ≡ length attrs = length-map attrs (λ (a : Attribute). a.0) in
    let lt : first_of (names_of attrs) f.name < length attrs = omega (arith, p.1) in
    (omega (arith, lt, p.0), there attrs f lt ∙ ap (λ (n : ℕ). with_value n f.value attrs) p.0)

pub missing : (names : List (List ℕ)) (attrs : List Attribute) (f : Field) → names ≡ names_of attrs
    → place_of names f.name ≡ None → and_line attrs f ≡ attrs ++ (f.name, f.value ∷ []) ∷ []
unfolding place_of
missing names attrs f are at =
    let le = no_place (first_of (names_of attrs) f.name) (length (names_of attrs))
    (ap (λ (ns : List (List ℕ)). position (λ other. same_name other f.name) ns) (sym are) ∙ at) in
    let count : length (names_of attrs) ≡ length attrs = length-map attrs (λ (a : Attribute). a.0) in
    nowhere attrs f (omega (arith, le))

-- ---- what a value more leaves

pub same_names : (place : ℕ) (value : List ℕ) (attrs : List Attribute) → names_of (with_value place value attrs)
    ≡ names_of attrs
unfolding with_value
same_names zero value [] = refl
same_names (suc place) value [] = refl
same_names zero value (a ∷ attrs) = refl
same_names (suc place) value (a ∷ attrs) = ap (λ (ns : List (List ℕ)). a.0 ∷ ns) (same_names place value attrs)

pub one_line : (front : List Attribute) (fs : List Field) (f : Field) → grouped_behind front (fs ++ f ∷ [])
    ≡ and_line (grouped_behind front fs) f
unfolding grouped_behind
one_line front [] f = refl
one_line front (g ∷ fs) f = one_line (and_line front g) fs f

pub none_grouped : [] ≡ grouped []
unfolding grouped_behind
none_grouped = refl

pub one_grouped : (lines more : List LdifLine) (line : LdifLine) → more ≡ lines ++ line ∷ []
    → and_line (grouped (map field_of lines)) (field_of line) ≡ grouped (map field_of more)
one_grouped lines more line is =
    sym (one_line [] (map field_of lines) (field_of line))
    ∙ ap (grouped_behind []) (sym (map_push field_of lines line))
    ∙ ap (λ (all : List LdifLine). grouped (map field_of all)) (sym is)

pub value_put : (attrs : List Attribute) (place : ℕ) (value : List ℕ) (one : Attribute) (new : List (List ℕ)) → place
    < length attrs → one ≡ get_or attrs place one → new ≡ one.1 ++ value ∷ []
    → slice_set attrs place (one.0, new) ≡ with_value place value attrs
unfolding with_value
value_put [] place value one new lt at is = absurd (omega (arith, lt))
value_put (a ∷ attrs) zero value one new lt at is = ap (λ (vs : List (List ℕ)). (one.0, vs) ∷ attrs) is
    ∙ ap (λ (x : Attribute). (x.0, x.1 ++ value ∷ []) ∷ attrs) at
value_put (a ∷ attrs) (suc place) value one new lt at is = ap (λ (rest : List Attribute). a ∷ rest)
    (value_put attrs place value one new (omega (arith, lt)) at is)
