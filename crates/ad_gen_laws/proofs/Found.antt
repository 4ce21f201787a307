-- Where the unit of a user stands, and that no user's name is taken.
use Rattle.std.proofs.Common.{◌≡◌, ◌≢◌, ◌∙◌, inl, inr, ℕ, zero, suc, ◌+◌, ◌<◌, ◌≤◌, ◌||◌, Bool, true, false, nat_lt}
use Rattle.std.proofs.Common.{Some, refl, ap, arith}
use Rattle.std.proofs.Common.{List, [], ◌∷◌, ◌++◌, length, append_assoc, length-append}
use Rattle.std.specs.List.{list_any, position}
use Rattle.std.specs.Prelude.{option_map}
use Rattle.std.proofs.lemmas.Bool.{cases_Bool, ne_eqb, eq-eqb, ltb-true, ltb-false}
use Rattle.std.proofs.lemmas.List.Folds.{list_any-append}
use Rattle.ad_schema_classes.proofs.IndexLemmas.{position_here, position_next}
use Rattle.ad_load_objects.specs.Drafts.{Draft, same_names, has_name, number_named}
use Rattle.ad_load_objects.specs.Objects.{is_sibling, is_taken}
use Rattle.ad_gen_laws.specs.Sample.{unit_rdns, user_name}
use Rattle.ad_gen_laws.specs.Drafts.{unit_draft, unit_drafts, user_draft, users_of, user_drafts, first_drafts}
use Rattle.ad_gen_laws.specs.Drafts.{upper_drafts, sd_holder_draft, domain_draft, system_draft, administrators_draft}
use Rattle.ad_gen_laws.proofs.Differ.{users_differ}
use Rattle.ad_gen_laws.proofs.Free.{apart, names_same, units_apart}

-- ---- the first that passes, after those that don't

position_behind : {A : Type 0} (p : A → Bool) (xs : List A) (y : A) (zs : List A) → list_any p xs ≡ false → p y ≡ true
    → position p (xs ++ y ∷ zs) ≡ Some (length xs)
position_behind p [] y zs none is = position_here p y zs is
position_behind p (x ∷ xs) y zs none is =
    let parts = both_false (p x) (list_any p xs) none in
    position_next p x (xs ++ y ∷ zs) parts.0 ∙ ap (option_map (λ k. suc k)) (position_behind p xs y zs parts.1 is)
  where
    both_false : (a b : Bool) → (a || b) ≡ false → (a ≡ false) × (b ≡ false)
    both_false true b e = absurd cc
    both_false false b e = (refl, e)

-- ---- the unit of a user

pub units_many : (n : ℕ) → length (unit_drafts n) ≡ n
unfolding unit_drafts
units_many zero = refl
units_many (suc n) = length-append (unit_drafts n) (unit_draft n ∷ []) ∙ (let e = units_many n in omega (arith, e))

other_unit : (i k : ℕ) → i < 1000 → k < i → has_name (unit_rdns i) (unit_draft k) ≡ false
unfolding same_names
other_unit i k few less = rw (units_apart i k few less) refl

no_earlier : (i k : ℕ) → i < 1000 → k ≤ i → list_any (has_name (unit_rdns i)) (unit_drafts k) ≡ false
unfolding unit_drafts
no_earlier i zero few least = refl
no_earlier i (suc k) few least =
    list_any-append (has_name (unit_rdns i)) (unit_drafts k) (unit_draft k ∷ [])
    ∙ rw (no_earlier i k few (omega (arith, least)), other_unit i k few (omega (arith, least))) refl

unit_place : (n i : ℕ) (more : List Draft) → i < 1000 → i < n → position (has_name (unit_rdns i))
    (unit_drafts n ++ more) ≡ Some i
unfolding unit_drafts
unit_place zero i more few less = absurd (omega (arith, less))
unit_place (suc n) i more few less =
    ap (position (has_name (unit_rdns i))) (append_assoc (unit_drafts n) (unit_draft n ∷ []) more)
    ∙ elim (cases_Bool (nat_lt i n)) [
      | inl under ↦ unit_place n i (unit_draft n ∷ more) few (ltb-true i n under)
      | inr over ↦
          let same : n ≡ i = (let at_least = ltb-false i n over in omega (arith, at_least, less)) in
          ap (λ (k : ℕ). position (has_name (unit_rdns i)) (unit_drafts k ++ unit_draft k ∷ more)) same
          ∙ position_behind (has_name (unit_rdns i)) (unit_drafts i) (unit_draft i) more
          (no_earlier i i few (omega arith)) (names_same (unit_rdns i))
          ∙ ap Some (units_many i)
    ]

no_root : (i : ℕ) → has_name (unit_rdns i) domain_draft ≡ false
unfolding same_names
no_root i = refl

no_system : (i : ℕ) → has_name (unit_rdns i) system_draft ≡ false
unfolding same_names
no_system i = refl

no_administrators : (i : ℕ) → has_name (unit_rdns i) administrators_draft ≡ false
unfolding same_names
no_administrators i = refl

pub unit_found : (n i : ℕ) (more : List Draft) → i < 1000 → i < n
    → number_named (first_drafts ++ (unit_drafts n ++ more)) (unit_rdns i) ≡ Some (i + 4)
unfolding number_named
unit_found n i more few less =
    let named = has_name (unit_rdns i) in
    let behind = unit_drafts n ++ more in
    let first = position_next named domain_draft (system_draft ∷ administrators_draft ∷ behind) (no_root i) in
    let second = position_next named system_draft (administrators_draft ∷ behind) (no_system i) in
    let third = position_next named administrators_draft behind (no_administrators i) in
    rw (first, second, third, unit_place n i more few less) (ap Some (omega arith))

-- ---- names of users

pub none_among_units : (p n : ℕ) (name : List ℕ) → 2 ≤ p → list_any (is_sibling p name) (unit_drafts n) ≡ false
unfolding unit_drafts
none_among_units p zero name more = refl
none_among_units p (suc n) name more =
    list_any-append (is_sibling p name) (unit_drafts n) (unit_draft n ∷ [])
    ∙ rw (none_among_units p n name more, ne_eqb 1 p (λ e. omega (arith, e, more))) refl

none_above : (p n : ℕ) (name : List ℕ) → 3 ≤ p → list_any (is_sibling p name) (upper_drafts n) ≡ false
none_above p n name more =
    rw (ne_eqb 0 p (λ e. omega (arith, e, more)), ne_eqb 1 p (λ e. omega (arith, e, more)))
    (list_any-append (is_sibling p name) (unit_drafts n) (sd_holder_draft ∷ [])
    ∙ rw (none_among_units p n name (omega (arith, more)), ne_eqb 2 p (λ e. omega (arith, e, more))) refl)

none_elsewhere : (p i j : ℕ) (name : List ℕ) → (i + 4) ≢ p → list_any (is_sibling p name) (users_of i j) ≡ false
unfolding users_of
none_elsewhere p i zero name differ = refl
none_elsewhere p i (suc j) name differ =
    list_any-append (is_sibling p name) (users_of i j) (user_draft i (suc j) ∷ [])
    ∙ rw (none_elsewhere p i j name differ, ne_eqb (i + 4) p differ) refl

none_in_others : (p n : ℕ) (name : List ℕ) → n + 4 ≤ p → list_any (is_sibling p name) (user_drafts n) ≡ false
unfolding user_drafts
none_in_others p zero name more = refl
none_in_others p (suc n) name more =
    list_any-append (is_sibling p name) (user_drafts n) (users_of n 10)
    ∙ rw (none_in_others p n name (omega (arith, more)), none_elsewhere p n 10 name (λ e. omega (arith, e, more))) refl

none_in_unit : (i j k : ℕ) → i < 1000 → j ≤ 10 → k < j → list_any (is_sibling (i + 4) (user_name i j)) (users_of i k)
    ≡ false
unfolding users_of
none_in_unit i j zero few least less = refl
none_in_unit i j (suc k) few least less =
    let other = apart (user_name i (suc k)) (user_name i j)
    (λ e. let same = users_differ i (suc k) j few (omega (arith, least, less)) least e
    in omega (arith, less, same)) in
    list_any-append (is_sibling (i + 4) (user_name i j)) (users_of i k) (user_draft i (suc k) ∷ [])
    ∙ rw (none_in_unit i j k few least (omega (arith, less)), other, eq-eqb (i + 4) (i + 4) refl) refl

pub user_free : (n i j : ℕ) → i < 1000 → j < 10 → is_taken (upper_drafts n ++ (user_drafts i ++ users_of i j)) (i + 4)
    (user_name i (suc j)) ≡ false
unfolding is_taken
user_free n i j few least =
    let name = user_name i (suc j) in
    list_any-append (is_sibling (i + 4) name) (upper_drafts n) (user_drafts i ++ users_of i j)
    ∙ rw (none_above (i + 4) n name (omega arith))
    (list_any-append (is_sibling (i + 4) name) (user_drafts i) (users_of i j)
    ∙ rw (
      none_in_others (i + 4) i name (omega arith),
      none_in_unit i (suc j) j few (omega (arith, least))
          (omega arith),
    ) refl)
