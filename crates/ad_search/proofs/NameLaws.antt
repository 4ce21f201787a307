-- Names, part by part.
use Rattle.std.proofs.Common.{◌≡◌, ◌↔◌, ℕ, zero, suc, ◌+◌, ◌-◌, ◌<◌, ◌≤◌, Bool, true, false, ◌&&◌, ◌||◌, IsTrue, List}
use Rattle.std.proofs.Common.{[], ◌∷◌, length, drop, get_or, add-one, inl, inr, refl, sym, subst, ap, ◌∙◌, arith}
use Rattle.std.specs.Str.{bytes_eq, str_to_ascii_uppercase}
use Rattle.std.proofs.lemmas.Bool.{cases_Bool, cases_lt, and_parts, and_from, both_ways}
use Rattle.std.proofs.lemmas.List.{drop_all}
use Rattle.std.proofs.lemmas.Slice.Eq.{bytes_eq-Decides}
use Rattle.ad_dn.specs.declared.rdn.Rdn.{Rdn}
use Rattle.ad_dn.specs.Fold.{folded, IsSameRdn}
use Rattle.ad_dir_model.specs.Names.{same_folded, same_rdn}
use Rattle.ad_dn.specs.Text.{rdns_text}
use Rattle.ad_entries.specs.Seen.{Seen}
use Rattle.ad_search.specs.Scope.{same_rdns, is_at_or_below, is_there, nearest}
use Rattle.ad_entries.proofs.ListLaws.{from_here}

-- ---- one part

pub to_part : (a b : Rdn) → IsSameRdn a b → same_rdn a b ≡ true
to_part a b same =
    and_from (bytes_eq (str_to_ascii_uppercase a.kind) (str_to_ascii_uppercase b.kind)) (same_folded a.value b.value)
    ((bytes_eq-Decides (str_to_ascii_uppercase a.kind) (str_to_ascii_uppercase b.kind)).1 same.kind)
    ((bytes_eq-Decides (folded a.value) (folded b.value)).1 same.value)

pub from_part : (a b : Rdn) → same_rdn a b ≡ true → IsSameRdn a b
from_part a b same =
    let parts = and_parts (bytes_eq (str_to_ascii_uppercase a.kind) (str_to_ascii_uppercase b.kind))
    (same_folded a.value b.value) same in
    record {
      kind = (bytes_eq-Decides (str_to_ascii_uppercase a.kind) (str_to_ascii_uppercase b.kind)).0 parts.0;
      value = (bytes_eq-Decides (folded a.value) (folded b.value)).0 parts.1;
    }

pub part_same : (r : Bool) (a b : Rdn) → (IsTrue r ↔ IsSameRdn a b) → r ≡ same_rdn a b
part_same true a b is = sym (to_part a b (is.0 refl))
part_same false a b is = elim (cases_Bool (same_rdn a b)) [
  | inl same ↦ is.1 (from_part a b same) ∙ sym same
  | inr other ↦ sym other
]

-- ---- all parts

same_length : (a b : List Rdn) → same_rdns a b ≡ true → length a ≡ length b
unfolding same_rdns
same_length [] [] same = refl
same_length [] (b ∷ bs) same = absurd (both_ways false refl same)
same_length (a ∷ as') [] same = absurd (both_ways false refl same)
same_length (a ∷ as') (b ∷ bs) same = ap suc (same_length as' bs (and_parts (same_rdn a b) (same_rdns as' bs) same).1)

pub other_length : (a b : List Rdn) → (length a ≡ length b → ⊥) → same_rdns a b ≡ false
other_length a b differ = elim (cases_Bool (same_rdns a b)) [
  | inl same ↦ absurd (differ (same_length a b same))
  | inr other ↦ other
]

pub next_part : (a b : List Rdn) (i : ℕ) (x y : Rdn) → i < length a → i < length b → x ≡ get_or a i x → y ≡ get_or b i y
    → same_rdns (drop i a) (drop i b) ≡ same_rdn x y && same_rdns (drop (i + 1) a) (drop (i + 1) b)
unfolding same_rdns
next_part a b i x y la lb xa yb =
    ap (λ (as' : List Rdn). same_rdns as' (drop i b)) (from_here a i x la xa)
    ∙ ap (λ (bs : List Rdn). same_rdns (x ∷ drop (i + 1) a) bs) (from_here b i y lb yb)

pub no_part : (a b : List Rdn) (i : ℕ) → length a ≤ i → length b ≤ i → same_rdns (drop i a) (drop i b) ≡ true
unfolding same_rdns
no_part a b i la lb =
    ap (λ (as' : List Rdn). same_rdns as' (drop i b)) (drop_all i a la)
    ∙ ap (λ (bs : List Rdn). same_rdns [] bs) (drop_all i b lb)

-- ---- at or below

pub too_short : (base name : List Rdn) → length name < length base → is_at_or_below base name ≡ false
unfolding is_at_or_below
too_short base [] lt = other_length [] base (λ e. absurd (omega arith))
too_short base (rdn ∷ rdns) lt =
    ap (λ (b : Bool). b || is_at_or_below base rdns) (other_length (rdn ∷ rdns) base (λ e. absurd (omega arith)))
    ∙ too_short base rdns (omega arith)

or_false : (b : Bool) → (b || false) ≡ b
or_false true = refl
or_false false = refl

pub long_enough : (base name : List Rdn) → length base ≤ length name → is_at_or_below base name
    ≡ same_rdns (drop (length name - length base) name) base
unfolding is_at_or_below
long_enough [] [] le = refl
long_enough (b ∷ bs) [] le = absurd (omega arith)
long_enough base (rdn ∷ rdns) le = elim (cases_lt (length rdns) (length base)) [
  | inl less ↦
      let none : suc (length rdns) - length base ≡ 0 = omega arith in
      ap (λ (b : Bool). same_rdns (rdn ∷ rdns) base || b) (too_short base rdns less)
      ∙ or_false (same_rdns (rdn ∷ rdns) base)
      ∙ ap (λ (n : ℕ). same_rdns (drop n (rdn ∷ rdns)) base) (sym none)
  | inr more ↦
      let one_more : suc (length rdns) - length base ≡ suc (length rdns - length base) = omega arith in
      ap (λ (b : Bool). b || is_at_or_below base rdns) (other_length (rdn ∷ rdns) base (λ e. absurd (omega arith)))
      ∙ long_enough base rdns more
      ∙ ap (λ (n : ℕ). same_rdns (drop n (rdn ∷ rdns)) base) (sym one_more)
]

-- ---- the names above

pub first_left : (rdns : List Rdn) (i : ℕ) → i < length rdns → (x : Rdn) × (drop i rdns ≡ x ∷ drop (suc i) rdns)
first_left [] i lt = absurd (omega (arith, lt))
first_left (x ∷ xs) zero lt = (x, refl)
first_left (x ∷ xs) (suc i) lt = first_left xs i (omega (arith, lt))

pub nearest_here : (view : List Seen) (rdns : List Rdn) (i : ℕ) → i < length rdns → true ≡ is_there view (drop i rdns)
    → rdns_text (drop i rdns) ≡ nearest view (drop i rdns)
unfolding nearest
nearest_here view rdns i lt is =
    let first = first_left rdns i lt in
    by first.0 (drop i rdns) (drop (suc i) rdns) first.1 is
  where
    by : (x : Rdn) (all rest : List Rdn) → all ≡ x ∷ rest → true ≡ is_there view all → rdns_text all ≡ nearest view all
    by x all rest whole there = subst (λ (names : List Rdn). true ≡ is_there view names → rdns_text names
        ≡ nearest view names) (sym whole) (λ t. rw (← t) refl) there

pub nearest_later : (view : List Seen) (rdns : List Rdn) (i : ℕ) → i < length rdns → false
    ≡ is_there view (drop i rdns) → nearest view (drop i rdns) ≡ nearest view (drop (i + 1) rdns)
unfolding nearest
nearest_later view rdns i lt is =
    let first = first_left rdns i lt in
    by first.0 (drop i rdns) (drop (suc i) rdns) first.1 is ∙ ap (λ (n : ℕ). nearest view (drop n rdns))
    (sym (add-one i))
  where
    by : (x : Rdn) (all rest : List Rdn) → all ≡ x ∷ rest → false ≡ is_there view all → nearest view all
        ≡ nearest view rest
    by x all rest whole there = subst (λ (names : List Rdn). false ≡ is_there view names → nearest view names
        ≡ nearest view rest) (sym whole) (λ t. rw (← t) refl) there

pub nearest_none : (view : List Seen) (rdns : List Rdn) (i : ℕ) → length rdns ≤ i → nearest view (drop i rdns) ≡ []
unfolding nearest
nearest_none view rdns i le = ap (nearest view) (drop_all i rdns le)
