-- Records by the number of parts of their names: a stable sort is what the definition says.
use Rattle.std.proofs.Common.{◌≡◌, ℕ, suc, ◌<◌, ◌≤◌, Bool, true, false, inl, inr, Ok, List, [], ◌∷◌, ◌++◌}
use Rattle.std.proofs.Common.{length, map, get_or, refl, sym, ap, subst, ◌∙◌, arith}
use Rattle.std.specs.Prelude.{nat_le, nat_lt, filter, not, ◌==◌, ◌&&◌, if◌then◌else◌}
use Rattle.std.specs.List.{AllByRecursion}
use Rattle.std.specs.List.Sorted.{IsNonDecreasingBy, IsStableByKey, ties}
use Rattle.std.specs.Ordering.{nat_cmp, is_lt}
use Rattle.std.specs.declared.cmp.Ordering.TheVariants.{Equal, Greater}
use Rattle.std.proofs.lemmas.Bool.{cases_Bool, eqb-true, eqb-false, eq-eqb, ne_eqb, leb-true, leb-false, ltb-true}
use Rattle.std.proofs.lemmas.Bool.{ltb-false}
use Rattle.ad_bytes.specs.Reading.{◌>>=◌}
use Rattle.ad_schema.specs.declared.line.SchemaRecord.{SchemaRecord}
use Rattle.ad_load_objects.specs.Through.{through}
use Rattle.ad_load_records.specs.Records.{Record}
use Rattle.ad_load_objects.specs.Drafts.{Draft}
use Rattle.ad_load_objects.specs.Objects.{is_object, put_by_parts, by_parts, has_root, draft_of, with_record}
use Rattle.ad_load_objects.proofs.Through.{first_through, none_through}
use Rattle.ad_load_records.proofs.Inverting.{bind_ok}
use Rattle.ad_load_objects.proofs.Places.{length_more}

-- ---- what holds of each record holds of each of the sorted ones

put_keeps : (P : Record → Type 0) (r : Record) (records : List Record) → P r → AllByRecursion P records
    → AllByRecursion P (put_by_parts r records)
unfolding put_by_parts
put_keeps P r [] one all = (one, tt)
put_keeps P r (x ∷ xs) one all = elim (cases_Bool (nat_le (length r.rdns) (length x.rdns))) [
  | inl here ↦ rw here (one, all)
  | inr later ↦ rw later (all.0, put_keeps P r xs one all.1)
]

pub sorted_keeps : (P : Record → Type 0) (records : List Record) → AllByRecursion P records
    → AllByRecursion P (by_parts records)
unfolding by_parts
sorted_keeps P [] all = tt
sorted_keeps P (r ∷ records) all = put_keeps P r (by_parts records) all.0 (sorted_keeps P records all.1)

-- ---- where there is a root, there are drafts

one_grows : (schema : List SchemaRecord) (drafts next : List Draft) (r : Record) → with_record schema drafts r
    ≡ Ok next → length drafts ≤ length next
unfolding with_record
one_grows schema drafts next r e = by (is_object r) e where
  by : (test : Bool) → (if test then (draft_of schema drafts r >>= λ draft. Ok (drafts ++ draft ∷ [])) else Ok drafts)
      ≡ Ok next → length drafts ≤ length next
  by true q =
      let a = bind_ok (draft_of schema drafts r) _ next q in
      let same : drafts ++ a.0 ∷ [] ≡ next = cc in
      let long : length (drafts ++ a.0 ∷ []) ≡ length next = ap length same in
      omega (arith, long, length_more drafts a.0)
  by false q = let same : drafts ≡ next = cc in omega (arith, ap length same)

object_grows : (schema : List SchemaRecord) (drafts next : List Draft) (r : Record) → is_object r ≡ true
    → with_record schema drafts r ≡ Ok next → 0 < length next
unfolding with_record
object_grows schema drafts next r is e =
    let a = bind_ok (draft_of schema drafts r) _ next (rw is at e) in
    let same : drafts ++ a.0 ∷ [] ≡ next = cc in
    let long : length (drafts ++ a.0 ∷ []) ≡ length next = ap length same in
    omega (arith, long, length_more drafts a.0)

all_grow : (schema : List SchemaRecord) (drafts end : List Draft) (records : List Record)
    → through (with_record schema) drafts records ≡ Ok end → length drafts ≤ length end
all_grow schema drafts end [] e = let same : length drafts ≡ length end
    = ap length (none_through (with_record schema) drafts end e) in omega (arith, same)
all_grow schema drafts end (r ∷ records) e =
    let first = first_through (with_record schema) drafts end r records e in
    let one = one_grows schema drafts first.0 r first.1 in
    let more = all_grow schema first.0 end records first.2 in
    omega (arith, one, more)

pub root_is_there : (schema : List SchemaRecord) (drafts end : List Draft) (records : List Record)
    → has_root records ≡ true → through (with_record schema) drafts records ≡ Ok end → 0 < length end
unfolding has_root
root_is_there schema drafts end [] root e = absurd cc
root_is_there schema drafts end (r ∷ records) root e =
    let first = first_through (with_record schema) drafts end r records e in
    elim (cases_Bool (is_object r)) [
      | inl is ↦
          let some = object_grows schema drafts first.0 r is first.1 in
          let more = all_grow schema first.0 end records first.2 in
          omega (arith, some, more)
      | inr other ↦ root_is_there schema first.0 end records (rw other at root) first.2
    ]

-- ---- the one sorted list

-- each record has at least so many parts
abbrev FromParts : ℕ → List Record → Type 0
FromParts n records = AllByRecursion (λ (r : Record). n ≤ length r.rdns) records

-- no record has more parts than one after it
abbrev pub AreSorted : List Record → Type 0
AreSorted [] = Unit {0}
AreSorted (r ∷ records) = FromParts (length r.rdns) records × AreSorted records

abbrev pub has_parts : ℕ → Record → Bool
has_parts n r = length r.rdns == n

from_less : (m n : ℕ) (records : List Record) → m ≤ n → FromParts n records → FromParts m records
from_less m n [] le all = tt
from_less m n (r ∷ records) le all = let first : n ≤ length r.rdns = all.0
    in (omega (arith, le, first), from_less m n records le all.1)

put_from : (n : ℕ) (r : Record) (records : List Record) → n ≤ length r.rdns → FromParts n records
    → FromParts n (put_by_parts r records)
put_from n r records le all = put_keeps (λ (x : Record). n ≤ length x.rdns) r records le all

put_sorted : (r : Record) (records : List Record) → AreSorted records → AreSorted (put_by_parts r records)
unfolding put_by_parts
put_sorted r [] sorted = (tt, tt)
put_sorted r (x ∷ xs) sorted = elim (cases_Bool (nat_le (length r.rdns) (length x.rdns))) [
  | inl here ↦
      let le : length r.rdns ≤ length x.rdns = leb-true (length r.rdns) (length x.rdns) here in
      rw here ((le, from_less (length r.rdns) (length x.rdns) xs le sorted.0), sorted)
  | inr later ↦
      let lt : length x.rdns < length r.rdns = leb-false (length r.rdns) (length x.rdns) later in
      let le : length x.rdns ≤ length r.rdns = omega (arith, lt) in
      rw later (put_from (length x.rdns) r xs le sorted.0, put_sorted r xs sorted.1)
]

by_parts_sorted : (records : List Record) → AreSorted (by_parts records)
unfolding by_parts
by_parts_sorted [] = tt
by_parts_sorted (r ∷ records) = put_sorted r (by_parts records) (by_parts_sorted records)

put_stable : (n : ℕ) (r : Record) (records : List Record) → filter (has_parts n) (put_by_parts r records)
    ≡ filter (has_parts n) (r ∷ records)
unfolding put_by_parts
put_stable n r [] = refl
put_stable n r (x ∷ xs) = elim (cases_Bool (nat_le (length r.rdns) (length x.rdns))) [
  | inl here ↦ rw here refl
  | inr later ↦
      let lt : length x.rdns < length r.rdns = leb-false (length r.rdns) (length x.rdns) later in
      elim (cases_Bool (length x.rdns == n)) [
        | inl own ↦
            let e : length x.rdns ≡ n = eqb-true (length x.rdns) n own in
            let other : (length r.rdns == n) ≡ false = ne_eqb (length r.rdns) n (λ q. omega (arith, lt, e, q)) in
            rw (later, own, other) (ap (λ (xs : List Record). x ∷ xs) (put_stable n r xs ∙ rw other refl))
        | inr not_own ↦ rw (later, not_own) (put_stable n r xs)
      ]
]

by_parts_stable : (n : ℕ) (records : List Record) → filter (has_parts n) (by_parts records)
    ≡ filter (has_parts n) records
unfolding by_parts
by_parts_stable n [] = refl
by_parts_stable n (r ∷ records) =
    put_stable n r (by_parts records)
    ∙ ap (λ (xs : List Record). if has_parts n r then r ∷ xs else xs) (by_parts_stable n records)

none_below : (n m : ℕ) (records : List Record) → n < m → FromParts m records → filter (has_parts n) records ≡ []
none_below n m [] lt all = refl
none_below n m (r ∷ records) lt all =
    let first : m ≤ length r.rdns = all.0 in
    let other : (length r.rdns == n) ≡ false = ne_eqb (length r.rdns) n (λ e. omega (arith, lt, first, e)) in
    rw other (none_below n m records lt all.1)

head_is : {X : Type 0} (a b : X) (xs ys : List X) → a ∷ xs ≡ b ∷ ys → a ≡ b
head_is a b xs ys e = cc

tail_is : (a b : Record) (xs ys : List Record) → a ∷ xs ≡ b ∷ ys → xs ≡ ys
tail_is a b xs ys e = cc

filter_first : {X : Type 0} (test : X → Bool) (x : X) (xs : List X) → test x ≡ true → filter test (x ∷ xs) ≡ x
    ∷ filter test xs
filter_first test x xs e = ap (λ (b : Bool). if b then x ∷ filter test xs else filter test xs) e

filter_other : {X : Type 0} (test : X → Bool) (x : X) (xs : List X) → test x ≡ false → filter test (x ∷ xs)
    ≡ filter test xs
filter_other test x xs e = ap (λ (b : Bool). if b then x ∷ filter test xs else filter test xs) e

-- the first of one sorted list has as many parts as the first of another one with the same records
first_parts : (x y : Record) (xs ys : List Record) → FromParts (length x.rdns) xs → FromParts (length y.rdns) ys
    → ((n : ℕ) → filter (has_parts n) (x ∷ xs) ≡ filter (has_parts n) (y ∷ ys)) → length x.rdns ≡ length y.rdns
first_parts x y xs ys p q same = elim (cases_Bool (length x.rdns == length y.rdns)) [
  | inl equal ↦ eqb-true (length x.rdns) (length y.rdns) equal
  | inr differ ↦ absurd (clash (eqb-false (length x.rdns) (length y.rdns) differ))
]
  where
    clash : (length x.rdns ≡ length y.rdns → ⊥) → ⊥
    clash differ = elim (cases_Bool (nat_le (length x.rdns) (length y.rdns))) [
      | inl less ↦
          let le : length x.rdns ≤ length y.rdns = leb-true (length x.rdns) (length y.rdns) less in
          let lt : length x.rdns < length y.rdns = omega (arith, le, differ) in
          let own : has_parts (length x.rdns) x ≡ true = eq-eqb (length x.rdns) (length x.rdns) refl in
          let here : length y.rdns ≤ length y.rdns = omega arith in
          let e : x ∷ filter (has_parts (length x.rdns)) xs
          ≡ [] = sym (filter_first (has_parts (length x.rdns)) x xs own) ∙ same (length x.rdns)
          ∙ none_below (length x.rdns) (length y.rdns) (y ∷ ys) lt (here, q) in
          absurd cc
      | inr more ↦
          let lt : length y.rdns < length x.rdns = leb-false (length x.rdns) (length y.rdns) more in
          let own : has_parts (length y.rdns) y ≡ true = eq-eqb (length y.rdns) (length y.rdns) refl in
          let here : length x.rdns ≤ length x.rdns = omega arith in
          let e : y ∷ filter (has_parts (length y.rdns)) ys
          ≡ [] = sym (filter_first (has_parts (length y.rdns)) y ys own) ∙ sym (same (length y.rdns))
          ∙ none_below (length y.rdns) (length x.rdns) (x ∷ xs) lt (here, p) in
          absurd cc
    ]

-- sorted lists with the same records of each number of parts, in the same order, are the same
one_sorted : (xs ys : List Record) → AreSorted xs → AreSorted ys
    → ((n : ℕ) → filter (has_parts n) xs ≡ filter (has_parts n) ys) → xs ≡ ys
one_sorted [] [] p q same = refl
one_sorted [] (y ∷ ys) p q same =
    let own : has_parts (length y.rdns) y ≡ true = eq-eqb (length y.rdns) (length y.rdns) refl in
    let e : [] ≡ y ∷ filter (has_parts (length y.rdns)) ys = same (length y.rdns)
    ∙ filter_first (has_parts (length y.rdns)) y ys own in
    absurd cc
one_sorted (x ∷ xs) [] p q same =
    let own : has_parts (length x.rdns) x ≡ true = eq-eqb (length x.rdns) (length x.rdns) refl in
    let e : x ∷ filter (has_parts (length x.rdns)) xs ≡ [] = sym (filter_first (has_parts (length x.rdns)) x xs own)
    ∙ same (length x.rdns) in
    absurd cc
one_sorted (x ∷ xs) (y ∷ ys) p q same =
    let parts : length x.rdns ≡ length y.rdns = first_parts x y xs ys p.0 q.0 same in
    let own_x : has_parts (length x.rdns) x ≡ true = eq-eqb (length x.rdns) (length x.rdns) refl in
    let own_y : has_parts (length x.rdns) y ≡ true = eq-eqb (length y.rdns) (length x.rdns) (sym parts) in
    let firsts : x ∷ filter (has_parts (length x.rdns)) xs ≡ y ∷ filter (has_parts (length x.rdns)) ys =
    sym (filter_first (has_parts (length x.rdns)) x xs own_x) ∙ same (length x.rdns)
    ∙ filter_first (has_parts (length x.rdns)) y ys own_y in
    let first : x ≡ y = head_is x y (filter (has_parts (length x.rdns)) xs) (filter (has_parts (length x.rdns)) ys)
    firsts in
    let tails : filter (has_parts (length x.rdns)) xs ≡ filter (has_parts (length x.rdns)) ys = tail_is x y
    (filter (has_parts (length x.rdns)) xs) (filter (has_parts (length x.rdns)) ys) firsts in
    let others : xs ≡ ys = one_sorted xs ys p.1 q.1 (rest parts tails) in
    ap (λ (z : Record). z ∷ xs) first ∙ ap (λ (zs : List Record). y ∷ zs) others
  where
    -- the same of the others
    rest : length x.rdns ≡ length y.rdns → filter (has_parts (length x.rdns)) xs
        ≡ filter (has_parts (length x.rdns)) ys → (n : ℕ) → filter (has_parts n) xs ≡ filter (has_parts n) ys
    rest parts tails n = elim (cases_Bool (has_parts n x)) [
      | inl own ↦ subst (λ (k : ℕ). filter (has_parts k) xs ≡ filter (has_parts k) ys)
          (eqb-true (length x.rdns) n own) tails
      | inr other ↦
          let other_y : has_parts n y ≡ false = subst (λ (k : ℕ). (k == n) ≡ false) parts other in
          sym (filter_other (has_parts n) x xs other) ∙ same n ∙ filter_other (has_parts n) y ys other_y
    ]

-- ---- what a stable sort says

head_passes : {X : Type 0} (test : X → Bool) (xs : List X) (r : X) (rest : List X) → filter test xs ≡ r ∷ rest
    → test r ≡ true
head_passes test [] r rest e = absurd cc
head_passes test (x ∷ xs) r rest e = elim (cases_Bool (test x)) [
  | inl passes ↦ ap test (sym (head_is x r (filter test xs) rest (sym (filter_first test x xs passes) ∙ e))) ∙ passes
  | inr fails ↦ head_passes test xs r rest (sym (filter_other test x xs fails) ∙ e)
]

filter_same : {X : Type 0} (p q : X → Bool) → ((x : X) → p x ≡ q x) → (xs : List X) → filter p xs ≡ filter q xs
filter_same p q same [] = refl
filter_same p q same (x ∷ xs) = ap (λ (b : Bool). if b then x ∷ filter p xs else filter p xs) (same x)
    ∙ ap (λ (ys : List _). if q x then x ∷ ys else ys) (filter_same p q same xs)

filter_seen : {X : Type 0} (seen : X → Record) (n : ℕ) (xs : List X)
    → filter (has_parts n) (map seen xs) ≡ map seen (filter (λ (x : X). has_parts n (seen x)) xs)
filter_seen seen n [] = refl
filter_seen seen n (x ∷ xs) = elim (cases_Bool (has_parts n (seen x))) [
  | inl own ↦ rw own (ap (λ (ys : List Record). seen x ∷ ys) (filter_seen seen n xs))
  | inr other ↦ rw other (filter_seen seen n xs)
]

ties_are : (a b : ℕ) → (not (is_lt (nat_cmp a b)) && not (is_lt (nat_cmp b a))) ≡ (b == a)
ties_are a b = elim (cases_Bool (nat_lt a b)) [
  | inl less ↦
      let lt : a < b = ltb-true a b less in
      let differ : (b == a) ≡ false = ne_eqb b a (λ e. omega (arith, lt, e)) in
      rw (less, differ) refl
  | inr not_less ↦ elim (cases_Bool (nat_lt b a)) [
    | inl more ↦
        let lt : b < a = ltb-true b a more in
        let differ : (b == a) ≡ false = ne_eqb b a (λ e. omega (arith, lt, e)) in
        rw (not_less, more, differ) (by (a == b))
    | inr not_more ↦
        let one : b ≤ a = ltb-false a b not_less in
        let two : a ≤ b = ltb-false b a not_more in
        let e : b ≡ a = omega (arith, one, two) in
        let same : (b == a) ≡ true = eq-eqb b a e in
        let back : (a == b) ≡ true = eq-eqb a b (sym e) in
        rw (not_less, not_more, same, back) refl
  ]
]
  where
    by : (t : Bool) → (not (is_lt (if t then Equal else Greater)) && not true) ≡ false
    by true = refl
    by false = refl

module _ {X : Type 0} (seen : X → Record) (xs ys : List X)
    (stable : IsStableByKey (λ (x : X). length (seen x).rdns) nat_cmp xs ys)
    (rises : IsNonDecreasingBy (λ (x : X). length (seen x).rdns) ys) where
  abbrev key : X → ℕ
  key x = length (seen x).rdns

  stable_at : (x : X) → filter (λ (y : X). key y == key x) ys ≡ filter (λ (y : X). key y == key x) xs
  stable_at x =
      let same : (y : X) → ties (λ (a b : X). is_lt (nat_cmp (key a) (key b))) x y ≡ (key y == key x) = λ y.
      ties_are (key x) (key y) in
      sym (filter_same _ (λ (y : X). key y == key x) same ys) ∙ stable x ∙ filter_same _ (λ (y : X). key y == key x)
      same xs

  stable_for : (n : ℕ) → filter (λ (y : X). key y == n) ys ≡ filter (λ (y : X). key y == n) xs
  stable_for n = by (filter (λ (y : X). key y == n) ys) (filter (λ (y : X). key y == n) xs) refl refl
    where
      with_key : (x : X) → (key x == n) ≡ true → filter (λ (y : X). key y == n) ys ≡ filter (λ (y : X). key y == n) xs
      with_key x own = subst (λ (k : ℕ). filter (λ (y : X). key y == k) ys ≡ filter (λ (y : X). key y == k) xs)
          (eqb-true (key x) n own) (stable_at x)

      by : (as' bs : List X) → filter (λ (y : X). key y == n) ys ≡ as' → filter (λ (y : X). key y == n) xs ≡ bs
          → filter (λ (y : X). key y == n) ys ≡ filter (λ (y : X). key y == n) xs
      by [] [] p q = p ∙ sym q
      by (a ∷ as') bs p q = with_key a (head_passes (λ (y : X). key y == n) ys a as' p)
      by [] (b ∷ bs) p q = with_key b (head_passes (λ (y : X). key y == n) xs b bs q)

  pub is_sorted : map seen ys ≡ by_parts (map seen xs)
  is_sorted =
      one_sorted (map seen ys) (by_parts (map seen xs)) (rising ys rises) (by_parts_sorted (map seen xs))
      (λ n. filter_seen seen n ys ∙ ap (map seen) (stable_for n) ∙ sym (filter_seen seen n xs)
      ∙ sym (by_parts_stable n (map seen xs)))
    where
      from_at : (n : ℕ) (zs : List X) → ((j : ℕ) (d : X) → j < length zs → n ≤ key (get_or zs j d))
          → FromParts n (map seen zs)
      from_at n [] each = tt
      from_at n (z ∷ zs) each = (each 0 z (omega arith), from_at n zs (λ j d lt. each (suc j) d (omega (arith, lt))))

      rising : (zs : List X) → IsNonDecreasingBy (λ (x : X). length (seen x).rdns) zs → AreSorted (map seen zs)
      rising [] up = tt
      rising (z ∷ zs) up = (
        from_at (key z) zs (λ j d lt. up 0 (suc j) d (omega arith) (omega (arith, lt))),
        rising zs (λ i j d le lt. up (suc i) (suc j) d (omega (arith, le)) (omega (arith, lt))),
      )
