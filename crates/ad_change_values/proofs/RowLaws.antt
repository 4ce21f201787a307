-- The attributes with their values by their numbers, in order.
use Rattle.std.proofs.Common.{◌≡◌, ◌∙◌, ℕ, zero, suc, ◌+◌, ◌-◌, ◌<◌, ◌≤◌, append_assoc, Bool, nat_eq, nat_lt, true}
use Rattle.std.proofs.Common.{false, inl, inr}
use Rattle.std.proofs.Common.{List, [], ◌∷◌, ◌++◌, length, map, get_or, drop, Option, Some, None, refl, sym, ap}
use Rattle.std.proofs.Common.{subst, arith}
use Rattle.std.specs.Prelude.{◌==◌, cond, unwrap_or}
use Rattle.std.specs.declared.cmp.Ordering.TheVariants.{Less, Equal, Greater}
use Rattle.std.specs.Ordering.{nat_cmp, is_eq}
use Rattle.std.specs.Map.{lookup, remove_entry}
use Rattle.std.specs.BTreeMap.{BTreeMap, insert_entry, is_at}
use Rattle.std.proofs.lemmas.Bool.{cases_Bool, eqb-true, ne_eqb, lt-ltb, ltb-true, eq-eqb, eqb-false}
use Rattle.std.proofs.lemmas.List.{at_drop_more, drop_all, length-map}
use Rattle.ad_schema.specs.declared.info.AttrId.{AttrId}
use Rattle.ad_dir_objects.specs.declared.object.Stored.{Stored as StoredIn}
use Rattle.ad_dir_objects.specs.Seen.{stored_seen, held_seen}
use Rattle.ad_dir_model.specs.Object.{Stored, Held, stored_in}
use Rattle.ad_dir_model.specs.Changes.{with_values}
use Rattle.ad_dir_model.specs.Soundness.{AttrsRiseFrom}
use Rattle.ad_change_values.specs.Items.{without, with_these}
use Rattle.ad_change_values.specs.Judging.{HoldsNone}
use Rattle.ad_change_values.specs.ByAttr.{by_attr, count_in}
use Rattle.ad_change_values.proofs.HeldLaws.{without_above, without_none}

-- ---- numbers that are compared

less_is : (a b : ℕ) → nat_lt a b ≡ true → nat_cmp a b ≡ Less
less_is a b less = rw less refl

equal_is : (a b : ℕ) → nat_lt a b ≡ false → nat_eq a b ≡ true → nat_cmp a b ≡ Equal
equal_is a b more same = rw (more, same) refl

greater_is : (a b : ℕ) → nat_lt a b ≡ false → nat_eq a b ≡ false → nat_cmp a b ≡ Greater
greater_is a b more other = rw (more, other) refl

turned : (a b : ℕ) → nat_eq a b ≡ true → nat_eq b a ≡ true
turned a b same = eq-eqb b a (sym (eqb-true a b same))

turned_away : (a b : ℕ) → nat_eq a b ≡ false → nat_eq b a ≡ false
turned_away a b other = ne_eqb b a (λ e. eqb-false a b other (sym e))

itself : (n : ℕ) → nat_lt n n ≡ false
itself n = elim (cases_Bool (nat_lt n n)) [
  | inl less ↦ let lt : n < n = ltb-true n n less in absurd (omega (arith, lt))
  | inr more ↦ more
]

-- whether a number is that of a row
pub at_is : (a b : ℕ) → is_at (nat_cmp a) b ≡ nat_eq b a
at_is a b = elim (cases_Bool (nat_lt a b)) [
  | inl less ↦
      let lt : a < b = ltb-true a b less in
      ap is_eq (less_is a b less) ∙ sym (ne_eqb b a (λ e. omega (arith, lt, e)))
  | inr more ↦ elim (cases_Bool (nat_eq a b)) [
    | inl same ↦ ap is_eq (equal_is a b more same) ∙ sym (turned a b same)
    | inr other ↦ ap is_eq (greater_is a b more other) ∙ sym (turned_away a b other)
  ]
]

-- ---- a row that is put

pub put_among : (es : List (ℕ × List StoredIn)) (attr : ℕ) (vs : List StoredIn)
    → by_attr (insert_entry nat_cmp es attr vs) ≡ with_values attr (map stored_seen vs) (by_attr es)
unfolding with_values
put_among [] attr vs = refl
put_among (e ∷ es) attr vs = elim (cases_Bool (nat_lt attr e.0)) [
  | inl before ↦
      let lt : attr < e.0 = ltb-true attr e.0 before in
      let differ : nat_eq e.0 attr ≡ false = ne_eqb e.0 attr (λ q. omega (arith, lt, q)) in
      rw (less_is attr e.0 before, differ, before) refl
  | inr more ↦ elim (cases_Bool (nat_eq attr e.0)) [
    | inl same ↦
        let is : attr ≡ e.0 = eqb-true attr e.0 same in
        rw (equal_is attr e.0 more same, turned attr e.0 same)
        (ap (λ (n : ℕ). record { attr = n; values = map stored_seen vs } ∷ by_attr es) (sym is))
    | inr other ↦
        rw (greater_is attr e.0 more other, turned_away attr e.0 other, more) (
        ap (λ (hs : List Held). record { attr = e.0; values = map stored_seen e.1 } ∷ hs) (put_among es attr vs))
  ]
]

-- where there are values, they are put
pub put_these : (es : List (ℕ × List StoredIn)) (attr : ℕ) (vs : List StoredIn) → (length vs ≡ 0 → ⊥)
    → by_attr (insert_entry nat_cmp es attr vs) ≡ with_these attr (map stored_seen vs) (by_attr es)
put_these es attr [] some = absurd (some refl)
put_these es attr (v ∷ vs) some = put_among es attr (v ∷ vs)

pub put_nothing : (held : List Held) (attr : ℕ) (vs : List StoredIn) → HoldsNone attr held → length vs ≡ 0
    → held ≡ with_these attr (map stored_seen vs) held
put_nothing held attr [] none empty = sym (without_none attr held none)
put_nothing held attr (v ∷ vs) none empty = absurd (omega (arith, empty))

-- ---- rows that are put in their order

least_behind : (m : ℕ) (xs : List Held) (h : Held) (rest : List Held) → AttrsRiseFrom m (xs ++ h ∷ rest) → m ≤ h.attr
least_behind m [] h rest rise = rise.0
least_behind m (x ∷ xs) h rest rise =
    let first : m ≤ x.attr = rise.0 in
    let more : suc x.attr ≤ h.attr = least_behind (suc x.attr) xs h rest rise.1 in
    omega (arith, first, more)

pub put_end : (m : ℕ) (xs : List Held) (h : Held) (rest : List Held) → AttrsRiseFrom m (xs ++ h ∷ rest)
    → with_values h.attr h.values xs ≡ xs ++ h ∷ []
unfolding with_values
put_end m [] h rest rise = refl
put_end m (x ∷ xs) h rest rise =
    let more : suc x.attr ≤ h.attr = least_behind (suc x.attr) xs h rest rise.1 in
    let differ : nat_eq x.attr h.attr ≡ false = ne_eqb x.attr h.attr (λ e. omega (arith, more, e)) in
    let later : nat_lt h.attr x.attr ≡ false = elim (cases_Bool (nat_lt h.attr x.attr)) [
      | inl less ↦ let lt : h.attr < x.attr = ltb-true h.attr x.attr less in absurd (omega (arith, lt, more))
      | inr not_less ↦ not_less
    ] in
    rw (differ, later) (ap (λ (hs : List Held). x ∷ hs) (put_end (suc x.attr) xs h rest rise.1))

-- where all rise, the next one is put after those so far
pub put_next : (whole before after : List Held) (h : AttrId × List StoredIn) (rest : List (AttrId × List StoredIn))
    → AttrsRiseFrom 0 whole
    → before ++ map held_seen (h ∷ rest) ≡ whole → after ≡ with_values h.0.0 (map stored_seen h.1) before → after
    ++ map held_seen rest ≡ whole
put_next whole before after h rest rise both put =
    let end : after ≡ before ++ held_seen h ∷ [] = put ∙ put_end 0 before (held_seen h) (map held_seen rest)
    (subst (AttrsRiseFrom 0) (sym both) rise) in
    ap (λ (hs : List Held). hs ++ map held_seen rest) end ∙ append_assoc before (held_seen h ∷ [])
    (map held_seen rest) ∙ both

-- ---- one that is taken out

pub row_left : (es : List (ℕ × List StoredIn)) (attr k : ℕ) → AttrsRiseFrom k (by_attr es)
    → by_attr (remove_entry (is_at (nat_cmp attr)) es) ≡ without attr (by_attr es)
unfolding without
row_left [] attr k rise = refl
row_left (e ∷ es) attr k rise = elim (cases_Bool (nat_eq e.0 attr)) [
  | inl here ↦
      let same : e.0 ≡ attr = eqb-true e.0 attr here in
      let at : is_at (nat_cmp attr) e.0 ≡ true = at_is attr e.0 ∙ here in
      rw (at, here) (sym (without_above attr (suc e.0) (by_attr es) rise.1 (omega (arith, same))))
  | inr other ↦
      let at : is_at (nat_cmp attr) e.0 ≡ false = at_is attr e.0 ∙ other in
      rw (at, other) (ap (λ (hs : List Held). record { attr = e.0; values = map stored_seen e.1 } ∷ hs)
      (row_left es attr (suc e.0) rise.1))
]

pub row_at : (es : List (ℕ × List StoredIn)) (attr : ℕ) (found : Option (List StoredIn)) → found
    ≡ lookup (is_at (nat_cmp attr)) es
    → map stored_seen (unwrap_or found []) ≡ stored_in (by_attr es) attr
unfolding stored_in
row_at [] attr found is = rw is refl
row_at (e ∷ es) attr found is = elim (cases_Bool (nat_eq e.0 attr)) [
  | inl here ↦
      let at : is_at (nat_cmp attr) e.0 ≡ true = at_is attr e.0 ∙ here in
      let some : found ≡ Some e.1 = is ∙ ap (λ (b : Bool). cond b (Some e.1) (lookup (is_at (nat_cmp attr)) es)) at in
      rw (some, here) refl
  | inr other ↦
      let at : is_at (nat_cmp attr) e.0 ≡ false = at_is attr e.0 ∙ other in
      let later : found ≡ lookup (is_at (nat_cmp attr)) es = is
      ∙ ap (λ (b : Bool). cond b (Some e.1) (lookup (is_at (nat_cmp attr)) es)) at in
      rw other (row_at es attr found later)
]

-- ---- how many values there are

pub no_counts : (counts : BTreeMap ℕ ℕ) (held : List (AttrId × List StoredIn)) (attr : ℕ) → counts.entries ≡ []
    → count_in counts attr ≡ length (stored_in (map held_seen (drop (length held) held)) attr)
unfolding stored_in
no_counts counts held attr none =
    ap (λ (es : List (ℕ × ℕ)). unwrap_or (lookup (is_at (nat_cmp attr)) es) 0) none
    ∙ ap (λ (hs : List (AttrId × List StoredIn)). length (stored_in (map held_seen hs) attr))
    (sym (drop_all (length held) held (omega arith)))

count_first : (x : AttrId × List StoredIn) (rest : List (AttrId × List StoredIn)) (attr : ℕ)
    → cond (x.0.0 == attr) (length x.1) (length (stored_in (map held_seen rest) attr))
    ≡ length (stored_in (map held_seen (x ∷ rest)) attr)
unfolding stored_in
count_first x rest attr = elim (cases_Bool (nat_eq x.0.0 attr)) [
  | inl here ↦ rw here (sym (length-map x.1 stored_seen))
  | inr other ↦ rw other refl
]

pub one_count : (held : List (AttrId × List StoredIn)) (place : ℕ) (x : AttrId × List StoredIn)
    (len before after attr : ℕ) → 0 < place → place ≤ length held
    → x ≡ get_or held (place - 1) x → len ≡ length x.1 → after ≡ cond (x.0.0 == attr) len before
    → before ≡ length (stored_in (map held_seen (drop place held)) attr) → after
    ≡ length (stored_in (map held_seen (drop (place - 1) held)) attr)
one_count held place x len before after attr some within at is put behind =
    let next : place - 1 + 1 ≡ place = omega (arith, some) in
    let parts : drop (place - 1) held ≡ x ∷ drop place held =
    at_drop_more (λ (hs : List (AttrId × List StoredIn)). hs) held (place - 1) x (omega (arith, some, within))
    ∙ ap (λ (y : AttrId × List StoredIn). y ∷ drop (place - 1 + 1) held) (sym at) ∙ ap (λ (n : ℕ). x ∷ drop n held)
    next in
    put ∙ ap (λ (n : ℕ). cond (x.0.0 == attr) n before) is ∙ ap (λ (n : ℕ). cond (x.0.0 == attr) (length x.1) n)
    behind ∙ count_first x (drop place held) attr
    ∙ ap (λ (hs : List (AttrId × List StoredIn)). length (stored_in (map held_seen hs) attr)) (sym parts)
