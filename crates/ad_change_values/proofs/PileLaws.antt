-- Values with an index, as they are added and taken away.
use Rattle.std.proofs.Common.{◌≡◌, ℕ, suc, ◌+◌, ◌<◌, ◌≤◌, Bool, true, false, not, List, [], ◌∷◌, ◌++◌, length, map}
use Rattle.std.proofs.Common.{take, get_or, Option, Some, None, inl, inr}
use Rattle.std.proofs.Common.{refl, sym, subst, ap, ◌∙◌, arith}
use Rattle.std.specs.Prelude.{◌||◌, cond, is_some, if◌then◌else◌}
use Rattle.std.specs.List.{AllByRecursion}
use Rattle.std.specs.Cmp.{eq_by_cmp_equiv}
use Rattle.std.proofs.Math.Bool.{or-false}
use Rattle.std.proofs.lemmas.Bool.{cases_Bool, le-ltb, lt-ltb, or_left, or_right, false≢true}
use Rattle.std.proofs.lemmas.Option.{none-some, same_Some}
use Rattle.std.proofs.lemmas.List.{length-append, take_more}
use Rattle.std.proofs.lemmas.List.Folds.{list_any-append}
use Rattle.ad_dir_objects.specs.declared.object.Stored.{Stored as StoredIn}
use Rattle.ad_dir_objects.specs.Seen.{stored_seen}
use Rattle.ad_change_values.specs.declared.keys.StoredKey.{StoredKey}
use Rattle.ad_change_values.specs.StoredKeys.{key_of, same_by, stored_total, exact, ties}
use Rattle.ad_change_values.specs.Piles.{is_since, alive, has_key, IsIndex}
use Rattle.ad_change_values.specs.Values.{is_among}

abbrev pub Since : Type 0
Since = StoredKey → Option ℕ

-- after a change, a key has this and each other what it had
abbrev pub Puts : Since → Since → StoredKey → Option ℕ → Type 0
Puts g h k w = (q : StoredKey) → h q ≡ cond (same_by k q) w (g q)

-- ---- keys

pub same_self : (k : StoredKey) → same_by k k ≡ true
same_self k = (eq_by_cmp_equiv stored_total).refl k

pub same_back : (a b : StoredKey) → same_by a b ≡ same_by b a
same_back a b = (eq_by_cmp_equiv stored_total).symm a b

pub here : (g h : Since) (k q : StoredKey) (w : Option ℕ) → Puts g h k w → same_by k q ≡ true → h q ≡ w
here g h k q w puts is = puts q ∙ ap (λ (b : Bool). cond b w (g q)) is

pub there : (g h : Since) (k q : StoredKey) (w : Option ℕ) → Puts g h k w → same_by k q ≡ false → h q ≡ g q
there g h k q w puts is = puts q ∙ ap (λ (b : Bool). cond b w (g q)) is

-- one value more
pub has_more : (q : StoredKey) (xs : List StoredIn) (x : StoredIn) → has_key (xs ++ x ∷ []) q
    ≡ (has_key xs q || same_by q (key_of x))
has_more q xs x =
    list_any-append (λ (one : StoredIn). same_by q (key_of one)) xs (x ∷ [])
    ∙ ap (λ (b : Bool). has_key xs q || b) (or-false (same_by q (key_of x)))

some_if : (b : Bool) (p : ℕ) (o : Option ℕ) → is_some (cond b (Some p) o) ≡ (is_some o || b)
some_if true p o = sym (or_right (is_some o) true refl)
some_if false p o = sym (or-false (is_some o))

pub some_unless : (b : Bool) (o : Option ℕ) → is_some (cond b None o) ≡ cond b false (is_some o)
some_unless true o = refl
some_unless false o = refl

-- whether one of the values is this one
pub among_by_key : (xs : List StoredIn) (x : StoredIn) → is_among (map stored_seen xs) (stored_seen x)
    ≡ has_key xs (key_of x)
among_by_key [] x = refl
among_by_key (y ∷ ys) x =
    ap (λ (b : Bool). b || is_among (map stored_seen ys) (stored_seen x)) (sym (ties x y))
    ∙ ap (λ (b : Bool). same_by (key_of x) (key_of y) || b) (among_by_key ys x)

pub is_there : (g : Since) (all : List StoredIn) (k : StoredKey) (x : StoredIn) → IsIndex g all → k ≡ key_of x
    → is_some (g k) ≡ is_among (map stored_seen (alive g 0 all)) (stored_seen x)
is_there g all k x index is = index.told k ∙ ap (has_key (alive g 0 all)) is ∙ sym (among_by_key (alive g 0 all) x)

-- ---- an index that is made

abbrev AtFirst : Since → List StoredIn → Type 0
AtFirst g xs = AllByRecursion (λ (one : StoredIn). g (key_of one) ≡ Some 0) xs

all_alive : (g : Since) (n : ℕ) (xs : List StoredIn) → AtFirst g xs → alive g n xs ≡ xs
unfolding alive
all_alive g n [] each = refl
all_alive g n (x ∷ xs) each =
    let now : is_since n (g (key_of x)) ≡ true = ap (is_since n) each.0 ∙ ap not (le-ltb n 0 (omega arith)) in
    rw now (ap (λ (ys : List StoredIn). x ∷ ys) (all_alive g (suc n) xs each.1))

pub record IsBuilt (g : Since) (xs : List StoredIn) : Type 0 where
  pub each : AtFirst g xs
  pub told : (q : StoredKey) → is_some (g q) ≡ has_key xs q
  pub first : (q : StoredKey) (p : ℕ) → g q ≡ Some p → p ≡ 0

pub built_none : (g : Since) → ((q : StoredKey) → g q ≡ None) → IsBuilt g []
built_none g none = record {
  each = tt;
  told = λ q. ap is_some (none q);
  first = λ q p is.
      absurd (none-some p (sym (none q) ∙ is));
}

first_again : (b : Bool) → cond {A = Option ℕ} b (Some 0) (Some 0) ≡ Some 0
first_again true = refl
first_again false = refl

each_kept : (g h : Since) (k : StoredKey) (xs : List StoredIn) → Puts g h k (Some 0) → AtFirst g xs → AtFirst h xs
each_kept g h k [] puts each = tt
each_kept g h k (x ∷ xs) puts each = (
  puts (key_of x) ∙ ap (λ (o : Option ℕ). cond (same_by k (key_of x)) (Some 0) o) each.0
      ∙ first_again (same_by k (key_of x)),
  each_kept g h k xs puts each.1,
)

each_more : (g : Since) (xs : List StoredIn) (x : StoredIn) → AtFirst g xs → g (key_of x) ≡ Some 0
    → AtFirst g (xs ++ x ∷ [])
each_more g [] x each is = (is, tt)
each_more g (y ∷ ys) x each is = (each.0, each_more g ys x each.1 is)

told_more : (g h : Since) (xs : List StoredIn) (x : StoredIn) (p : ℕ) → Puts g h (key_of x) (Some p)
    → ((q : StoredKey) → is_some (g q) ≡ has_key xs q)
    → (q : StoredKey) → is_some (h q) ≡ has_key (xs ++ x ∷ []) q
told_more g h xs x p puts told q =
    ap is_some (puts q) ∙ some_if (same_by (key_of x) q) p (g q) ∙ ap (λ (b : Bool). b || same_by (key_of x) q) (told q)
    ∙ ap (λ (b : Bool). has_key xs q || b) (same_back (key_of x) q) ∙ sym (has_more q xs x)

built_with : (g h : Since) (xs : List StoredIn) (x : StoredIn) → Puts g h (key_of x) (Some 0) → IsBuilt g xs
    → IsBuilt h (xs ++ x ∷ [])
built_with g h xs x puts built = record {
  each = each_more h xs x (each_kept g h (key_of x) xs puts built.each)
      (here g h (key_of x) (key_of x) (Some 0) puts (same_self (key_of x)));
  told = told_more g h xs x 0 puts built.told;
  first = λ q p is. elim (cases_Bool (same_by (key_of x) q)) [
    | inl b ↦ sym (same_Some 0 p (sym (here g h (key_of x) q (Some 0) puts b) ∙ is))
    | inr b ↦ built.first q p (sym (there g h (key_of x) q (Some 0) puts b) ∙ is)
  ];
}

pub built_more : (g h : Since) (xs : List StoredIn) (i : ℕ) (x : StoredIn) (k : StoredKey) → i < length xs → x
    ≡ get_or xs i x → k ≡ key_of x
    → Puts g h k (Some 0) → IsBuilt g (take i xs) → IsBuilt h (take (i + 1) xs)
built_more g h xs i x k lt at is puts built =
    subst (IsBuilt h) (sym (take_more xs i x lt ∙ ap (λ (y : StoredIn). take i xs ++ y ∷ []) (sym at)))
    (built_with g h (take i xs) x (subst (λ (q : StoredKey). Puts g h q (Some 0)) is puts) built)

pub built_index : (g : Since) (all : List StoredIn) → IsBuilt g all → IsIndex g all
built_index g all built = record {
  told = λ q. built.told q ∙ sym (ap (λ (xs : List StoredIn). has_key xs q) (all_alive g 0 all built.each));
  within = λ q p is. let zero_is : p ≡ 0 = built.first q p is in omega (arith, zero_is);
}

pub built_all : (g : Since) (all : List StoredIn) → IsBuilt g all → alive g 0 all ≡ all
built_all g all built = all_alive g 0 all built.each

-- ---- one more

-- the last one is there by its place, and where each other stands nothing changes
alive_more : (g h : Since) (n : ℕ) (xs : List StoredIn) (x : StoredIn) (p : ℕ)
    → ((m : ℕ) (y : StoredIn) → m < n + length xs → is_since m (h (key_of y)) ≡ is_since m (g (key_of y)))
    → h (key_of x) ≡ Some p → p ≤ n + length xs → alive h n (xs ++ x ∷ []) ≡ alive g n xs ++ x ∷ []
unfolding alive
alive_more g h n [] x p same is le =
    let small : p ≤ n = omega (arith, le) in
    let now : is_since n (h (key_of x)) ≡ true = ap (is_since n) is ∙ ap not (le-ltb n p small) in
    rw now refl
alive_more g h n (y ∷ ys) x p same is le =
    let first : is_since n (h (key_of y)) ≡ is_since n (g (key_of y)) = same n y (omega arith) in
    let rest : alive h (suc n) (ys ++ x ∷ []) ≡ alive g (suc n) ys ++ x ∷ []
    = alive_more g h (suc n) ys x p (λ m z lt. same m z (omega (arith, lt))) is (omega (arith, le)) in
    elim (cases_Bool (is_since n (g (key_of y)))) [
      | inl b ↦ rw (first ∙ b, b) (ap (λ (zs : List StoredIn). y ∷ zs) rest)
      | inr b ↦ rw (first ∙ b, b) rest
    ]

longer : (xs : List StoredIn) (x : StoredIn) (p : ℕ) → p ≤ length xs → p ≤ length (xs ++ x ∷ [])
longer xs x p le = let is : length (xs ++ x ∷ []) ≡ length xs + 1 = length-append xs (x ∷ []) in omega (arith, le, is)

abbrev pub Added : Since → Since → List StoredIn → StoredIn → Type 0
Added g h all x = IsIndex h (all ++ x ∷ []) × (alive h 0 (all ++ x ∷ []) ≡ alive g 0 all ++ x ∷ [])

new_seen : (g h : Since) (all : List StoredIn) (x : StoredIn) → g (key_of x) ≡ None
    → Puts g h (key_of x) (Some (length all))
    → alive h 0 (all ++ x ∷ []) ≡ alive g 0 all ++ x ∷ []
new_seen g h all x none puts =
    alive_more g h 0 all x (length all) same
    (here g h (key_of x) (key_of x) (Some (length all)) puts (same_self (key_of x))) (omega arith)
  where
    same : (m : ℕ) (y : StoredIn) → m < 0 + length all → is_since m (h (key_of y)) ≡ is_since m (g (key_of y))
    same m y lt = elim (cases_Bool (same_by (key_of x) (key_of y))) [
      | inl b ↦ ap (is_since m) (here g h (key_of x) (key_of y) (Some (length all)) puts b)
          ∙ ap not (lt-ltb m (length all) (omega (arith, lt)))
          ∙ sym (ap (is_since m) (subst (λ (q : StoredKey). g q ≡ None) (exact (key_of x) (key_of y) b) none))
      | inr b ↦ ap (is_since m) (there g h (key_of x) (key_of y) (Some (length all)) puts b)
    ]

pub added_new : (g h : Since) (all : List StoredIn) (x : StoredIn) → IsIndex g all → g (key_of x) ≡ None
    → Puts g h (key_of x) (Some (length all)) → Added g h all x
added_new g h all x index none puts =
    let seen : alive h 0 (all ++ x ∷ []) ≡ alive g 0 all ++ x ∷ [] = new_seen g h all x none puts in (
      record {
        told = λ q. told_more g h (alive g 0 all) x (length all) puts index.told q
            ∙ sym (ap (λ (xs : List StoredIn). has_key xs q) seen);
        within = λ q p is. elim (cases_Bool (same_by (key_of x) q)) [
          | inl b ↦ let last : length all ≡ p = same_Some (length all) p
              (sym (here g h (key_of x) q (Some (length all)) puts b) ∙ is) in
              longer all x p (omega (arith, last))
          | inr b ↦ longer all x p (index.within q p (sym (there g h (key_of x) q (Some (length all)) puts b) ∙ is))
        ];
      },
      seen,
    )

old_told : (g h : Since) (xs : List StoredIn) (x : StoredIn) → is_some (g (key_of x)) ≡ true
    → ((q : StoredKey) → h q ≡ g q)
    → ((q : StoredKey) → is_some (g q) ≡ has_key xs q) → (q : StoredKey) → is_some (h q) ≡ has_key (xs ++ x ∷ []) q
old_told g h xs x some same told q = elim (cases_Bool (same_by q (key_of x))) [
  | inl b ↦
      let found : is_some (g q) ≡ true = subst (λ (k : StoredKey). is_some (g k) ≡ true) (sym (exact q (key_of x) b))
      some in
      ap is_some (same q) ∙ found ∙ sym (has_more q xs x ∙ or_left (has_key xs q) (same_by q (key_of x))
      (sym (told q) ∙ found))
  | inr b ↦ ap is_some (same q) ∙ told q ∙ sym (has_more q xs x ∙ ap (λ (c : Bool). has_key xs q || c) b
      ∙ or-false (has_key xs q))
]

pub added_old : (g h : Since) (all : List StoredIn) (x : StoredIn) → IsIndex g all → is_some (g (key_of x)) ≡ true
    → ((q : StoredKey) → h q ≡ g q) → Added g h all x
added_old g h all x index some same = at (g (key_of x)) refl
  where
    at : (o : Option ℕ) → g (key_of x) ≡ o → Added g h all x
    at None none = absurd (false≢true (sym (ap is_some none) ∙ some))
    at (Some p) is =
        let le : p ≤ length all = index.within (key_of x) p is in
        let seen : alive h 0 (all ++ x ∷ []) ≡ alive g 0 all ++ x ∷ []
        = alive_more g h 0 all x p (λ m y lt. ap (is_since m) (same (key_of y))) (same (key_of x) ∙ is)
        (omega (arith, le)) in (
          record {
            told = λ q. old_told g h (alive g 0 all) x some same index.told q
                ∙ sym (ap (λ (xs : List StoredIn). has_key xs q) seen);
            within = λ q n found. longer all x n (index.within q n (sym (same q) ∙ found));
          },
          seen,
        )

-- what is put where there is none of the key adds the value
pub added : (g h : Since) (all after : List StoredIn) (x : StoredIn) (k : StoredKey) (n : ℕ) → IsIndex g all → k
    ≡ key_of x → n ≡ length all → after ≡ all ++ x ∷ []
    → ((q : StoredKey) → h q ≡ (if is_some (g k) then g q else cond (same_by k q) (Some n) (g q)))
    → IsIndex h after × (alive h 0 after ≡ alive g 0 all ++ x ∷ [])
added g h all after x k n index is at made puts =
    subst (λ (zs : List StoredIn). IsIndex h zs × (alive h 0 zs ≡ alive g 0 all ++ x ∷ [])) (sym made)
    (by_key (g (key_of x)) refl)
  where
    so : (q : StoredKey) → h q ≡ (if is_some (g (key_of x)) then g q else cond (same_by (key_of x) q)
        (Some (length all)) (g q))
    so q = puts q ∙ ap (λ (c : StoredKey). if is_some (g c) then g q else cond (same_by c q) (Some n) (g q)) is
        ∙ ap (λ (m : ℕ). if is_some (g (key_of x)) then g q else cond (same_by (key_of x) q) (Some m) (g q)) at

    by_key : (o : Option ℕ) → g (key_of x) ≡ o → Added g h all x
    by_key None none = added_new g h all x index none
        (λ q. so q ∙ ap (λ (o : Option ℕ). if is_some o then g q else cond (same_by (key_of x) q) (Some (length all))
        (g q)) none)
    by_key (Some p) some = added_old g h all x index (ap is_some some)
        (λ q. so q ∙ ap (λ (o : Option ℕ). if is_some o then g q else cond (same_by (key_of x) q) (Some (length all))
        (g q)) some)
