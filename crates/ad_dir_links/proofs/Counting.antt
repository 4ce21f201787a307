-- What one count more or less makes of what is counted.
use Rattle.std.proofs.Common.{◌≡◌, ℕ, suc, ◌+◌, ◌<◌, ◌≤◌, ◌^◌, List, [], ◌∷◌, ◌++◌, inl, inr, refl}
use Rattle.std.proofs.Common.{sym, subst, ap, ◌∙◌, arith}
use Rattle.std.specs.Prelude.{nat_eq, take, length}
use Rattle.std.proofs.Common.{get_or}
use Rattle.std.proofs.lemmas.List.{take_more, take_all}
use Rattle.std.proofs.lemmas.Bool.{cases_Bool, eqb-true, eqb-false, eq-eqb, ne_eqb}
use Rattle.ad_dir_links.specs.Counted.{times, pair_key, count_in, counted, Covers, gain, Keeps, Adds, Drops, Forgets}

-- two pairs of one number are one
record AreOne (t h u k : ℕ) : Type 0 where
  target : t ≡ u
  holder : h ≡ k

one_pair : (t h u k : ℕ) → h < 2 ^ 32 → k < 2 ^ 32 → pair_key t h ≡ pair_key u k → AreOne t h u k
unfolding pair_key
one_pair t h u k small_h small_k same = record {
  target = omega (arith, small_h, small_k, same);
  holder
      = omega (arith, small_h, small_k, same);
}

-- ---- how often a number stands in a list

pub times_append : (t : ℕ) (xs ys : List ℕ) → times t (xs ++ ys) ≡ times t xs + times t ys
unfolding times
times_append t [] ys = omega arith
times_append t (x ∷ xs) ys = let rest = times_append t xs ys in omega (arith, rest)

gain_append : (one : ℕ) (xs ys : List ℕ) (t h : ℕ) → gain one (xs ++ ys) t h ≡ gain one xs t h + gain one ys t h
gain_append one xs ys t h = elim (cases_Bool (nat_eq one h)) [
  | inl same ↦ rw same (times_append t xs ys)
  | inr other ↦ rw other refl
]

pub gain_other : (one : ℕ) (xs : List ℕ) (t h : ℕ) → (one ≡ h → ⊥) → gain one xs t h ≡ 0
gain_other one xs t h apart = rw (ne_eqb one h apart) refl

gain_one : (one target t h : ℕ) → one ≡ h → target ≡ t → gain one (target ∷ []) t h ≡ 1
unfolding times
gain_one one target t h holder same = rw (eq-eqb one h holder, eq-eqb target t same) refl

gain_none : (one target t h : ℕ) → (target ≡ t → ⊥) → gain one (target ∷ []) t h ≡ 0
unfolding times
gain_none one target t h apart = elim (cases_Bool (nat_eq one h)) [
  | inl same ↦ rw (same, ne_eqb target t apart) refl
  | inr other ↦ rw other refl
]

-- ---- one link

-- the count of one pair is another, and the others stay
pub record IsRecounted (one target : ℕ) (old new : List (ℕ × ℕ)) (count : ℕ) : Type 0 where
  pub small : one < 2 ^ 32
  pub here : count_in new (pair_key target one) ≡ count
  pub others : (key : ℕ) → (key ≡ pair_key target one → ⊥) → count_in new key ≡ count_in old key

module _ (one target : ℕ) (old new : List (ℕ × ℕ)) (count : ℕ) (is : IsRecounted one target old new count) where
  other_target : (t h n : ℕ) → h < 2 ^ 32 → (target ≡ t → ⊥) → Covers (counted old t h) n → Covers (counted new t h) n
  other_target t h n small apart covers =
      subst (λ (c : ℕ). Covers c n) (sym (is.others (pair_key t h)
      (λ e. apart (sym (one_pair t h target one small is.small e).target)))) covers

  other_holder : (t h n : ℕ) → h < 2 ^ 32 → (one ≡ h → ⊥) → Covers (counted old t h) n → Covers (counted new t h) n
  other_holder t h n small apart covers =
      subst (λ (c : ℕ). Covers c n) (sym (is.others (pair_key t h)
      (λ e. apart (sym (one_pair t h target one small is.small e).holder)))) covers

  -- where it is the pair
  this : (t h : ℕ) → target ≡ t → one ≡ h → count ≡ counted new t h
  this t h same holder = sym is.here ∙ ap (λ (u : ℕ). counted new u one) same ∙ ap (counted new t) holder

  before : (t h : ℕ) → target ≡ t → one ≡ h → counted old t h ≡ counted old target one
  before t h same holder = ap (λ (u : ℕ). counted old u h) (sym same) ∙ ap (counted old target) (sym holder)

  pub added_one : ((n : ℕ) → Covers (counted old target one) n → Covers count (suc n)) → Adds one (target ∷ []) old new
  added_one more t h n small covers = elim (cases_Bool (nat_eq one h)) [
    | inl same_h ↦ elim (cases_Bool (nat_eq target t)) [
      | inl same_t ↦
          let holder = eqb-true one h same_h in
          let to = eqb-true target t same_t in
          let now : Covers (counted new t h) (suc n) = subst (λ (c : ℕ). Covers c (suc n)) (this t h to holder)
          (more n (subst (λ (c : ℕ). Covers c n) (before t h to holder) covers)) in
          subst (Covers (counted new t h)) (let e = gain_one one target t h holder to in omega (arith, e)) now
      | inr other_t ↦
          let apart = eqb-false target t other_t in
          subst (Covers (counted new t h)) (let e = gain_none one target t h apart in omega (arith, e))
          (other_target t h n small apart covers)
    ]
    | inr other_h ↦
        let apart = eqb-false one h other_h in
        subst (Covers (counted new t h)) (let e = gain_other one (target ∷ []) t h apart in omega (arith, e))
        (other_holder t h n small apart covers)
  ]

  pub dropped_one : ((n : ℕ) → Covers (counted old target one) (suc n) → Covers count n) → Drops one (target ∷ []) old
      new
  dropped_one less t h n small covers = elim (cases_Bool (nat_eq one h)) [
    | inl same_h ↦ elim (cases_Bool (nat_eq target t)) [
      | inl same_t ↦
          let holder = eqb-true one h same_h in
          let to = eqb-true target t same_t in
          let was : Covers (counted old t h) (suc n) = subst (Covers (counted old t h))
          (let e = gain_one one target t h holder to in omega (arith, e)) covers in
          subst (λ (c : ℕ). Covers c n) (this t h to holder)
          (less n (subst (λ (c : ℕ). Covers c (suc n)) (before t h to holder) was))
      | inr other_t ↦
          let apart = eqb-false target t other_t in
          other_target t h n small apart (subst (Covers (counted old t h))
          (let e = gain_none one target t h apart in omega (arith, e)) covers)
    ]
    | inr other_h ↦
        let apart = eqb-false one h other_h in
        other_holder t h n small apart (subst (Covers (counted old t h))
        (let e = gain_other one (target ∷ []) t h apart in omega (arith, e)) covers)
  ]

-- as the code has it

recounted : (one target key : ℕ) (old new : List (ℕ × ℕ)) (count : ℕ) → one < 2 ^ 32 → key ≡ pair_key target one
    → count_in new key ≡ count
    → ((other : ℕ) → (other ≡ key → ⊥) → count_in new other ≡ count_in old other) → IsRecounted one target old new count
recounted one target key old new count small is here others = record {
  small = small;
  here = subst (λ (k : ℕ). count_in new k ≡ count) is here;
  others = λ k apart. others k (λ e. apart (e ∙ is));
}

pub recount_dropped : (one target key : ℕ) (old new : List (ℕ × ℕ)) (was count : ℕ) → one < 2 ^ 32 → key
    ≡ pair_key target one → was ≡ count_in old key
    → ((n : ℕ) → Covers was (suc n) → Covers count n) → count_in new key ≡ count
    → ((other : ℕ) → (other ≡ key → ⊥) → count_in new other ≡ count_in old other) → Drops one (target ∷ []) old new
recount_dropped one target key old new was count small is had less here others =
    dropped_one one target old new count (recounted one target key old new count small is here others)
    (λ n covers. less n (subst (λ (c : ℕ). Covers c (suc n)) (ap (count_in old) (sym is) ∙ sym had) covers))

pub recount_added : (one target key : ℕ) (old new : List (ℕ × ℕ)) (was count : ℕ) → one < 2 ^ 32 → key
    ≡ pair_key target one → was ≡ count_in old key
    → ((n : ℕ) → Covers was n → Covers count (suc n)) → count_in new key ≡ count
    → ((other : ℕ) → (other ≡ key → ⊥) → count_in new other ≡ count_in old other) → Adds one (target ∷ []) old new
recount_added one target key old new was count small is had more here others =
    added_one one target old new count (recounted one target key old new count small is here others)
    (λ n covers. more n (subst (λ (c : ℕ). Covers c n) (ap (count_in old) (sym is) ∙ sym had) covers))

-- ---- one after the other

pub adds_none : (one : ℕ) (es : List (ℕ × ℕ)) → Adds one [] es es
unfolding times
adds_none one es t h n small covers = subst (Covers (counted es t h))
    (let e : gain one [] t h ≡ 0 = none in omega (arith, e)) covers
  where
    none : gain one [] t h ≡ 0
    none = elim (cases_Bool (nat_eq one h)) [
      | inl same ↦ rw same refl
      | inr other ↦ rw other refl
    ]

pub drops_none : (one : ℕ) (es : List (ℕ × ℕ)) → Drops one [] es es
unfolding times
drops_none one es t h n small covers = subst (Covers (counted es t h))
    (let e : gain one [] t h ≡ 0 = none in omega (arith, e)) covers
  where
    none : gain one [] t h ≡ 0
    none = elim (cases_Bool (nat_eq one h)) [
      | inl same ↦ rw same refl
      | inr other ↦ rw other refl
    ]

adds_both : (one : ℕ) (xs ys : List ℕ) (a b c : List (ℕ × ℕ)) → Adds one xs a b → Adds one ys b c
    → Adds one (xs ++ ys) a c
adds_both one xs ys a b c first second t h n small covers =
    subst (Covers (counted c t h)) (let e = gain_append one xs ys t h in omega (arith, e))
    (second t h (n + gain one xs t h) small (first t h n small covers))

drops_both : (one : ℕ) (xs ys : List ℕ) (a b c : List (ℕ × ℕ)) → Drops one xs a b → Drops one ys b c
    → Drops one (xs ++ ys) a c
drops_both one xs ys a b c first second t h n small covers =
    second t h n small (first t h (n + gain one ys t h) small
    (subst (Covers (counted a t h)) (let e = gain_append one xs ys t h in omega (arith, e)) covers))

pub adds_next : (one : ℕ) (targets : List ℕ) (i target : ℕ) (a b c : List (ℕ × ℕ)) → i < length targets → target
    ≡ get_or targets i 0
    → Adds one (take i targets) a b → Adds one (target ∷ []) b c → Adds one (take (i + 1) targets) a c
adds_next one targets i target a b c within is first second =
    subst (λ (ts : List ℕ). Adds one ts a c)
    (ap (λ (t : ℕ). take i targets ++ t ∷ []) is ∙ sym (take_more targets i 0 within))
    (adds_both one (take i targets) (target ∷ []) a b c first second)

pub drops_next : (one : ℕ) (targets : List ℕ) (i target : ℕ) (a b c : List (ℕ × ℕ)) → i < length targets → target
    ≡ get_or targets i 0
    → Drops one (take i targets) a b → Drops one (target ∷ []) b c → Drops one (take (i + 1) targets) a c
drops_next one targets i target a b c within is first second =
    subst (λ (ts : List ℕ). Drops one ts a c)
    (ap (λ (t : ℕ). take i targets ++ t ∷ []) is ∙ sym (take_more targets i 0 within))
    (drops_both one (take i targets) (target ∷ []) a b c first second)

fewer : (count n more : ℕ) → Covers count (n + more) → Covers count n
fewer count n more covers below = let all = covers below in omega (arith, all)

pub adds_keeps : (one : ℕ) (targets : List ℕ) (a b : List (ℕ × ℕ)) → Adds one targets a b → Keeps a b
adds_keeps one targets a b adds t h n small covers = fewer (counted b t h) n (gain one targets t h)
    (adds t h n small covers)

pub drops_forgets : (one : ℕ) (targets : List ℕ) (a b : List (ℕ × ℕ)) → Drops one targets a b → Forgets one a b
drops_forgets one targets a b drops t h n small apart covers =
    drops t h n small (subst (Covers (counted a t h)) (let e = gain_other one targets t h apart in omega (arith, e))
    covers)

-- ---- all of them

pub adds_all : (one : ℕ) (targets : List ℕ) (i : ℕ) (a b : List (ℕ × ℕ)) → length targets ≤ i
    → Adds one (take i targets) a b → Adds one targets a b
adds_all one targets i a b past adds = subst (λ (ts : List ℕ). Adds one ts a b) (take_all i targets past) adds

pub drops_all : (one : ℕ) (targets : List ℕ) (i : ℕ) (a b : List (ℕ × ℕ)) → length targets ≤ i
    → Drops one (take i targets) a b → Drops one targets a b
drops_all one targets i a b past drops = subst (λ (ts : List ℕ). Drops one ts a b) (take_all i targets past) drops

pub gain_own : (one : ℕ) (targets : List ℕ) (t : ℕ) → gain one targets t one ≡ times t targets
gain_own one targets t = rw (eq-eqb one one refl) refl
