-- Values that are taken out of a pile.
use Rattle.std.proofs.Common.{◌≡◌, ℕ, suc, ◌+◌, ◌<◌, Bool, true, false, not, List, [], ◌∷◌, ◌++◌, length, map}
use Rattle.std.proofs.Common.{take, get_or, Option, Some, None, inl, inr}
use Rattle.std.proofs.Common.{refl, sym, subst, ap, ◌∙◌, arith}
use Rattle.std.specs.Prelude.{◌||◌, ◌==◌, cond, filter, is_some, if◌then◌else◌}
use Rattle.std.specs.Map.{lookup}
use Rattle.std.specs.BTreeMap.{is_at}
use Rattle.std.proofs.lemmas.Bool.{cases_Bool, ne_eqb, or_left, false≢true}
use Rattle.std.proofs.lemmas.Option.{none-some}
use Rattle.std.proofs.lemmas.List.{length-append, take_more}
use Rattle.ad_dir_objects.specs.declared.object.Stored.{Stored as StoredIn}
use Rattle.ad_dir_objects.specs.Seen.{stored_seen}
use Rattle.ad_change_values.specs.declared.keys.StoredKey.{StoredKey}
use Rattle.ad_change_values.specs.StoredKeys.{key_of, stored_order, same_by, exact}
use Rattle.ad_change_values.specs.Piles.{is_since, alive, has_key, not_among, since_in, pile_in, Places, IsIndex}
use Rattle.ad_change_values.specs.Piles.{IsPile}
use Rattle.ad_change_values.specs.Values.{is_among}
use Rattle.ad_change_values.proofs.PileLaws.{Since, Puts, same_self, same_back, here, there, has_more, some_unless}
use Rattle.ad_change_values.proofs.PileLaws.{among_by_key, is_there}

-- ---- taken away

abbrev other_than : StoredKey → StoredIn → Bool
other_than k one = not (same_by k (key_of one))

alive_without : (g h : Since) (k : StoredKey) (n : ℕ) (xs : List StoredIn) → Puts g h k None → alive h n xs
    ≡ filter (other_than k) (alive g n xs)
unfolding alive
alive_without g h k n [] puts = refl
alive_without g h k n (x ∷ xs) puts =
    let rest : alive h (suc n) xs ≡ filter (other_than k) (alive g (suc n) xs) = alive_without g h k (suc n) xs puts in
    elim (cases_Bool (same_by k (key_of x))) [
      | inl b ↦
          let gone : is_since n (h (key_of x)) ≡ false = ap (is_since n) (here g h k (key_of x) None puts b) in
          elim (cases_Bool (is_since n (g (key_of x)))) [
            | inl c ↦ rw (gone, c, b) rest
            | inr c ↦ rw (gone, c) rest
          ]
      | inr b ↦
          let stays : is_since n (h (key_of x)) ≡ is_since n (g (key_of x))
          = ap (is_since n) (there g h k (key_of x) None puts b) in
          elim (cases_Bool (is_since n (g (key_of x)))) [
            | inl c ↦ rw (stays ∙ c, c, b) (ap (λ (ys : List StoredIn). x ∷ ys) rest)
            | inr c ↦ rw (stays ∙ c, c) rest
          ]
    ]

none_there : (b : Bool) → false ≡ cond b false false
none_there true = refl
none_there false = refl

-- a key that goes with another one, or isn't it
goes : (q k : StoredKey) (x : StoredIn) (b : Bool) → same_by k (key_of x) ≡ true → same_by k q ≡ false
    → same_by q (key_of x) ≡ false
goes q k x b is apart = subst (λ (y : StoredKey). same_by q y ≡ false) (exact k (key_of x) is) (same_back q k ∙ apart)

key_gone : (q k : StoredKey) (xs : List StoredIn) → has_key (filter (other_than k) xs) q ≡ cond (same_by k q) false
    (has_key xs q)
key_gone q k [] = none_there (same_by k q)
key_gone q k (x ∷ xs) =
    let rest : has_key (filter (other_than k) xs) q ≡ cond (same_by k q) false (has_key xs q) = key_gone q k xs in
    elim (cases_Bool (same_by k (key_of x))) [
      | inl b ↦ elim (cases_Bool (same_by k q)) [
        | inl d ↦ rw b (rest ∙ ap (λ (c : Bool). cond c false (has_key xs q)) d
            ∙ sym (ap (λ (c : Bool). cond c false (same_by q (key_of x) || has_key xs q)) d))
        | inr d ↦ rw b (rest ∙ ap (λ (c : Bool). cond c false (has_key xs q)) d
            ∙ sym (ap (λ (c : Bool). cond c false (same_by q (key_of x) || has_key xs q)) d
            ∙ ap (λ (c : Bool). c || has_key xs q) (goes q k x true b d)))
      ]
      | inr b ↦ elim (cases_Bool (same_by k q)) [
        | inl d ↦
            let apart : same_by q (key_of x) ≡ false = subst (λ (y : StoredKey). same_by y (key_of x) ≡ false)
            (exact k q d) b in
            rw b (ap (λ (c : Bool). c || has_key (filter (other_than k) xs) q) apart ∙ rest
            ∙ ap (λ (c : Bool). cond c false (has_key xs q)) d
            ∙ sym (ap (λ (c : Bool). cond c false (same_by q (key_of x) || has_key xs q)) d))
        | inr d ↦ rw b (ap (λ (c : Bool). same_by q (key_of x) || c)
            (rest ∙ ap (λ (c : Bool). cond c false (has_key xs q)) d)
            ∙ sym (ap (λ (c : Bool). cond c false (same_by q (key_of x) || has_key xs q)) d))
      ]
    ]

taken : (g h : Since) (all : List StoredIn) (k : StoredKey) → IsIndex g all → Puts g h k None
    → IsIndex h all × (alive h 0 all ≡ filter (other_than k) (alive g 0 all))
taken g h all k index puts =
    let seen : alive h 0 all ≡ filter (other_than k) (alive g 0 all) = alive_without g h k 0 all puts in (
      record {
        told = λ q. ap is_some (puts q) ∙ some_unless (same_by k q) (g q)
            ∙ ap (λ (b : Bool). cond (same_by k q) false b) (index.told q)
            ∙ sym (key_gone q k (alive g 0 all)) ∙ sym (ap (λ (xs : List StoredIn). has_key xs q) seen);
        within = λ q p is. elim (cases_Bool (same_by k q)) [
          | inl b ↦ absurd (none-some p (sym (here g h k q None puts b) ∙ is))
          | inr b ↦ index.within q p (sym (there g h k q None puts b) ∙ is)
        ];
      },
      seen,
    )

-- ---- values that are taken away, one after the other

both_filters : (a b c : StoredIn → Bool) (xs : List StoredIn) → ((x : StoredIn) → c x ≡ (a x || b x))
    → filter (λ (x : StoredIn). not (b x)) (filter (λ (x : StoredIn). not (a x)) xs)
    ≡ filter (λ (x : StoredIn). not (c x)) xs
both_filters a b c [] is = refl
both_filters a b c (x ∷ xs) is =
    let rest = both_filters a b c xs is in
    elim (cases_Bool (a x)) [
      | inl p ↦ let all : c x ≡ true = is x ∙ ap (λ (d : Bool). d || b x) p in rw (p, all) rest
      | inr p ↦ let all : c x ≡ b x = is x ∙ ap (λ (d : Bool). d || b x) p in
          elim (cases_Bool (b x)) [
            | inl q ↦ rw (p, q, all ∙ q) rest
            | inr q ↦ rw (p, q, all ∙ q) (ap (λ (ys : List StoredIn). x ∷ ys) rest)
          ]
    ]

among_more : (gone : List StoredIn) (y x : StoredIn)
    → is_among (map stored_seen (gone ++ y ∷ [])) (stored_seen x)
    ≡ (is_among (map stored_seen gone) (stored_seen x) || same_by (key_of y) (key_of x))
among_more gone y x =
    among_by_key (gone ++ y ∷ []) x ∙ has_more (key_of x) gone y
    ∙ ap (λ (b : Bool). b || same_by (key_of x) (key_of y)) (sym (among_by_key gone x))
    ∙ ap (λ (b : Bool). is_among (map stored_seen gone) (stored_seen x) || b) (same_back (key_of x) (key_of y))

pub record IsTakenTo (g h : Since) (all gone : List StoredIn) : Type 0 where
  pub index : IsIndex h all
  pub left : alive h 0 all ≡ filter (not_among gone) (alive g 0 all)

none_gone : (xs : List StoredIn) → xs ≡ filter (not_among []) xs
none_gone [] = refl
none_gone (x ∷ xs) = ap (λ (ys : List StoredIn). x ∷ ys) (none_gone xs)

pub taken_none : (g : Since) (all : List StoredIn) → IsIndex g all → IsTakenTo g g all []
taken_none g all index = record { index = index; left = none_gone (alive g 0 all) }

pub taken_more : (g h h' : Since) (all gone : List StoredIn) (i : ℕ) (y : StoredIn) (k : StoredKey) → i < length gone
    → y ≡ get_or gone i y → k ≡ key_of y
    → Puts h h' k None → IsTakenTo g h all (take i gone) → IsTakenTo g h' all (take (i + 1) gone)
taken_more g h h' all gone i y k lt at is puts so =
    let t = taken h h' all (key_of y) so.index (subst (λ (q : StoredKey). Puts h h' q None) is puts) in
    let more : take (i + 1) gone ≡ take i gone ++ y ∷ [] = take_more gone i y lt
    ∙ ap (λ (z : StoredIn). take i gone ++ z ∷ []) (sym at) in record {
      index = t.0;
      left = t.1 ∙ ap (filter (other_than (key_of y))) so.left
          ∙ both_filters (λ (x : StoredIn). is_among (map stored_seen (take i gone)) (stored_seen x))
          (λ (x : StoredIn). same_by (key_of y) (key_of x))
          (λ (x : StoredIn). is_among (map stored_seen (take i gone ++ y ∷ [])) (stored_seen x)) (alive g 0 all)
          (λ x. among_more (take i gone) y x)
          ∙ sym (ap (λ (ys : List StoredIn). filter (not_among ys) (alive g 0 all)) more);
    }

-- ---- the values that are there, from the first on

alive_last : (g : Since) (n : ℕ) (ys : List StoredIn) (y : StoredIn)
    → alive g n (ys ++ y ∷ []) ≡ alive g n ys ++ (if is_since (n + length ys) (g (key_of y)) then y ∷ [] else [])
unfolding alive
alive_last g n [] y = let none : n ≡ n + 0 = omega arith
    in ap (λ (m : ℕ). if is_since m (g (key_of y)) then y ∷ [] else []) none
alive_last g n (x ∷ xs) y =
    let next : suc n + length xs ≡ n + suc (length xs) = omega arith in
    let rest : alive g (suc n) (xs ++ y ∷ []) ≡ alive g (suc n) xs
    ++ (if is_since (n + suc (length xs)) (g (key_of y)) then y ∷ [] else [])
    = alive_last g (suc n) xs y ∙ ap (λ (m : ℕ). alive g (suc n) xs
    ++ (if is_since m (g (key_of y)) then y ∷ [] else [])) next in
    elim (cases_Bool (is_since n (g (key_of x)))) [
      | inl b ↦ rw b (ap (λ (zs : List StoredIn). x ∷ zs) rest)
      | inr b ↦ rw b rest
    ]

pub alive_next : (g : Since) (ys : List StoredIn) (y : StoredIn) (place : ℕ) (there' : Bool)
    (left after : List StoredIn) → place ≡ length ys
    → left ≡ alive g 0 ys → there' ≡ is_since place (g (key_of y)) → after ≡ left ++ (if there' then y ∷ [] else [])
    → after ≡ alive g 0 (ys ++ y ∷ [])
alive_next g ys y place there' left after at is tells made =
    let from_none : length ys ≡ 0 + length ys = omega arith in
    made ∙ ap (λ (zs : List StoredIn). zs ++ (if there' then y ∷ [] else [])) is
    ∙ ap (λ (b : Bool). alive g 0 ys ++ (if b then y ∷ [] else []))
    (tells ∙ ap (λ (m : ℕ). is_since m (g (key_of y))) (at ∙ from_none)) ∙ sym (alive_last g 0 ys y)

pub alive_none : (g : Since) → [] ≡ alive g 0 []
unfolding alive
alive_none g = refl

pub length_more : (ys : List StoredIn) (y : StoredIn) (n m : ℕ) → m ≡ suc n → n ≡ length ys → m ≡ length (ys ++ y ∷ [])
length_more ys y n m next is = let more : length (ys ++ y ∷ []) ≡ length ys + 1 = length-append ys (y ∷ [])
    in omega (arith, next, is, more)

-- ---- none

pub empty_told : (es : List (StoredKey × ℕ)) (seen : List StoredIn)
    → ((q : StoredKey) → is_some (lookup (is_at (stored_order q)) es) ≡ has_key seen q) → (length es == 0)
    ≡ (length seen == 0)
empty_told [] [] told = refl
empty_told [] (x ∷ xs) told = absurd (false≢true
    (told (key_of x) ∙ or_left (same_by (key_of x) (key_of x)) (has_key xs (key_of x)) (same_self (key_of x))))
empty_told (e ∷ es) [] told =
    absurd (false≢true (sym (told e.0) ∙ ap
    (λ (b : Bool). is_some (cond b (Some e.1) (lookup (is_at (stored_order e.0)) es))) (same_self e.0)))
empty_told (e ∷ es) (x ∷ xs) told = ne_eqb (length (e ∷ es)) 0 (λ i. omega (arith, i))
    ∙ sym (ne_eqb (length (x ∷ xs)) 0 (λ i. omega (arith, i)))

-- ---- values with an index

pub bare_in : (all : List StoredIn) (places : Option Places) (index : Places) (bare : Bool) → places ≡ Some index
    → IsPile all places
    → bare ≡ (length index.entries == 0) → bare ≡ (length (pile_in all places) == 0)
bare_in all places index bare is pile tells =
    let kept : IsIndex (since_in index) all = subst (IsPile all) is pile in
    tells ∙ empty_told index.entries (alive (since_in index) 0 all) kept.told
    ∙ sym (ap (λ (o : Option Places). length (pile_in all o) == 0) is)

pub there_in : (all : List StoredIn) (places : Option Places) (index : Places) (x : StoredIn) (is_one : Bool) → places
    ≡ Some index → IsPile all places
    → is_one ≡ is_some (since_in index (key_of x)) → is_one ≡ is_among (map stored_seen (pile_in all places))
    (stored_seen x)
there_in all places index x is_one is pile tells =
    let kept : IsIndex (since_in index) all = subst (IsPile all) is pile in
    tells ∙ is_there (since_in index) all (key_of x) x kept refl
    ∙ sym (ap (λ (o : Option Places). is_among (map stored_seen (pile_in all o)) (stored_seen x)) is)
