-- The least number of which something doesn't hold: of two things, of keys, and of objects.
use Rattle.std.proofs.Common.{◌≡◌, ◌∙◌, inl, inr, ℕ, zero, suc, ◌+◌, ◌<◌, ◌≤◌, Bool, true, false, List, [], ◌∷◌, ◌++◌}
use Rattle.std.proofs.Common.{map, take, length, get_or, Option, Some, None, refl, sym, ap, subst, arith}
use Rattle.std.specs.Prelude.{nat_lt, slice_get, if◌then◌else◌, option_map, MatchOption, IfSome}
use Rattle.std.specs.List.{AllByRecursion, position_from}
use Rattle.std.specs.Str.{bytes_eq}
use Rattle.std.proofs.lemmas.Iterator.Adapters.{position_from-zero}
use Rattle.std.proofs.lemmas.Slice.Eq.{bytes_eq-Decides}
use Rattle.std.proofs.lemmas.Bool.{cases_Bool, cases_order, ltb-true, ltb-false, eq-eqb, ne_eqb}
use Rattle.std.proofs.lemmas.Option.{none-some, same_Some, slice_get-map}
use Rattle.ad_schema_classes.specs.declared.names.Case.TheVariants.{Kept}
use Rattle.ad_schema_classes.specs.Hashes.{place_by}
use Rattle.ad_dir_objects.specs.Seen.{object_seen, objects_of}
use Rattle.ad_dir_model.specs.Object.{Object}
use Rattle.ad_dir_model.specs.Objects.{object_of, RiseAbove, Rise}
use Rattle.ad_dir_model.proofs.Finding.{of_number, of_above}
use Rattle.ad_rows_sound.specs.Least.{IsLeast, lesser, IsLeastObject}
use Rattle.ad_rows_sound.specs.Parts.{IsLast, HasOwnKey}
use Rattle.ad_rows_sound.proofs.Finds.{Entry, place_of, find_all, fresh, behind}

-- ---- of two things

pub map_least : (P Q : ℕ → Type 0) (least : Option ℕ) → ((n : ℕ) → P n → Q n) → ((n : ℕ) → Q n → P n)
    → IsLeast P least → IsLeast Q least
map_least P Q None to back is = λ n. to n (is n)
map_least P Q (Some a) to back is = (λ q. is.0 (back a q), λ n less. to n (is.1 n less))

pub both_least : (P Q : ℕ → Type 0) (a b : Option ℕ) → IsLeast P a → IsLeast Q b → IsLeast (λ (n : ℕ). P n × Q n)
    (lesser a b)
both_least P Q None None p q = λ n. (p n, q n)
both_least P Q None (Some b) p q = (λ two. q.0 two.1, λ n less. (p n, q.1 n less))
both_least P Q (Some a) None p q = (λ two. p.0 two.0, λ n less. (p.1 n less, q n))
both_least P Q (Some a) (Some b) p q = elim (cases_Bool (nat_lt a b)) [
  | inl below ↦ subst (IsLeast (λ (n : ℕ). P n × Q n)) (ap (λ (t : Bool). Some (if t then a else b)) (sym below)) (
    λ two. p.0 two.0,
    λ n less. (
      p.1 n less,
      q.1 n
          (let first : a < b = ltb-true a b below in omega (arith, first, less)),
    ),
  )
  | inr above ↦ subst (IsLeast (λ (n : ℕ). P n × Q n)) (ap (λ (t : Bool). Some (if t then a else b)) (sym above)) (
    λ two. q.0 two.1,
    λ n less. (
      p.1 n (let first : b ≤ a = ltb-false a b above in omega (arith, first, less)),
      q.1
          n less,
    ),
  )
]

-- ---- the first place of a key

record FirstPlace {A : Type 0} (test : A → Bool) (xs : List A) (k p : ℕ) : Type 0 where
  place : ℕ
  sum : p ≡ k + place
  item : A
  at : slice_get xs place ≡ Some item
  is : test item ≡ true
  before : (j : ℕ) (x : A) → j < place → slice_get xs j ≡ Some x → test x ≡ false

first_from : {A : Type 0} (test : A → Bool) (k : ℕ) (xs : List A) (p : ℕ) → position_from test k xs ≡ Some p
    → FirstPlace test xs k p
first_from test k [] p is = absurd (none-some p is)
first_from {A = A} test k (y ∷ ys) p is = elim (cases_Bool (test y)) [
  | inl here ↦ (let sum : k ≡ p = same_Some k p (rw here at is)
      in record {
        place = 0;
        sum = omega (arith, sum);
        item = y;
        at = refl;
        is = here;
        before = λ j x less _.
            absurd (omega (arith, less));
      })
  | inr other ↦ (let rest = first_from test (k + 1) ys p (rw other at is) in let sum = rest.sum in
      record {
        place = suc rest.place;
        sum = omega (arith, sum);
        item = rest.item;
        at = rest.at;
        is = rest.is;
        before
            = λ j x less at. earlier other rest.place rest.before j x less at;
      })
]
  where
    earlier : test y ≡ false → (place : ℕ) → ((j : ℕ) (x : A) → j < place → slice_get ys j ≡ Some x → test x ≡ false)
        → (j : ℕ) (x : A) → j < suc place → slice_get (y ∷ ys) j ≡ Some x → test x ≡ false
    earlier other place before zero x less at = subst (λ (z : A). test z ≡ false) (same_Some y x at) other
    earlier other place before (suc j) x less at = before j x (omega (arith, less)) at

is_own : (key : List ℕ) → bytes_eq key key ≡ false → ⊥
is_own key off = let on : bytes_eq key key ≡ true = (bytes_eq-Decides key key).1 refl in cc (off, on)

first_of : (keys : List (List ℕ)) (key : List ℕ) (p : Option ℕ)
    → position_from (λ (other : List ℕ). bytes_eq other key) 0 keys ≡ p
    → IsLeast (λ (i : ℕ). slice_get keys i ≡ Some key → ⊥) p
first_of keys key None is = λ i at. is_own key (fresh (λ (other : List ℕ). bytes_eq other key) 0 keys is i key at)
first_of keys key (Some p) is =
    let first = first_from (λ (other : List ℕ). bytes_eq other key) 0 keys p is in
    let place : first.place ≡ p = (let sum = first.sum in omega (arith, sum)) in
    let own : first.item ≡ key = (bytes_eq-Decides first.item key).0 first.is in (
      λ none. none (subst (λ (i : ℕ). slice_get keys i ≡ Some key) place
          (subst (λ (k : List ℕ). slice_get keys first.place ≡ Some k) own first.at)),
      λ n less at. is_own key (first.before n key (omega (arith, place, less)) at),
    )

first_place : (keys : List (List ℕ)) (key : List ℕ) → IsLeast (λ (i : ℕ). slice_get keys i ≡ Some key → ⊥)
    (place_by Kept keys key)
unfolding place_by
first_place keys key = first_of keys key (place_by Kept keys key)
    (sym (position_from-zero (λ (other : List ℕ). bytes_eq other key) keys))

-- ---- the least place whose key stands after it again

within : {A : Type 0} (xs : List A) (i : ℕ) (x : A) → slice_get xs i ≡ Some x → i < length xs
within [] i x at = absurd (none-some x at)
within (y ∷ ys) zero x at = omega arith
within (y ∷ ys) (suc i) x at = let rest = within ys i x at in omega (arith, rest)

ahead : (keys : List (List ℕ)) (key : List ℕ) (i : ℕ) (x : List ℕ) → slice_get keys i ≡ Some x
    → slice_get (keys ++ key ∷ []) i ≡ Some x
ahead [] key i x at = absurd (none-some x at)
ahead (k ∷ keys) key zero x at = at
ahead (k ∷ keys) key (suc i) x at = ahead keys key i x at

last_at : (keys : List (List ℕ)) (key : List ℕ) → slice_get (keys ++ key ∷ []) (length keys) ≡ Some key
last_at [] key = refl
last_at (k ∷ keys) key = last_at keys key

last_push : (keys : List (List ℕ)) (key : List ℕ) (i : ℕ) → IsLast keys i × (slice_get keys i ≡ Some key → ⊥)
    → IsLast (keys ++ key ∷ []) i
last_push keys key i two j k less at_i at_j =
    elim (behind keys key i k at_i) [
      | inl i_before ↦ elim (behind keys key j k at_j) [
        | inl j_before ↦ two.0 j k less i_before j_before
        | inr j_last ↦ two.1 (subst (λ (y : List ℕ). slice_get keys i ≡ Some y) j_last.1 i_before)
      ]
      | inr i_last ↦ elim (behind keys key j k at_j) [
        | inl j_before ↦ (let in_front = within keys j k j_before in let end = i_last.0
            in absurd (omega (arith, in_front, end, less)))
        | inr j_last ↦ (let end = i_last.0 in let too = j_last.0 in absurd (omega (arith, end, too, less)))
      ]
    ]

last_back : (keys : List (List ℕ)) (key : List ℕ) (i : ℕ) → IsLast (keys ++ key ∷ []) i → IsLast keys i
    × (slice_get keys i ≡ Some key → ⊥)
last_back keys key i is = (
  λ j k less at_i at_j. is j k less (ahead keys key i k at_i) (ahead keys key j k at_j),
  λ at. is (length keys) key (within keys i key at) (ahead keys key i key at) (last_at keys key),
)

pub clash_none : (i : ℕ) → IsLast [] i
clash_none i j key less at_i at_j = none-some key at_i

pub clash_push : (keys : List (List ℕ)) (key : List ℕ) (clash : Option ℕ) → IsLeast (IsLast keys) clash
    → IsLeast (IsLast (keys ++ key ∷ [])) (lesser clash (place_by Kept keys key))
clash_push keys key clash is =
    map_least (λ (i : ℕ). IsLast keys i × (slice_get keys i ≡ Some key → ⊥)) (IsLast (keys ++ key ∷ []))
    (lesser clash (place_by Kept keys key)) (last_push keys key) (last_back keys key)
    (both_least (IsLast keys) (λ (i : ℕ). slice_get keys i ≡ Some key → ⊥) clash (place_by Kept keys key) is
    (first_place keys key))

pub clash_within : (keys : List (List ℕ)) (i : ℕ) → (IsLast keys i → ⊥) → i < length keys
clash_within keys i not = elim (cases_Bool (nat_lt i (length keys))) [
  | inl below ↦ ltb-true i (length keys) below
  | inr above ↦ absurd (not (λ j key less at_i at_j. let past : length keys ≤ i = ltb-false i (length keys) above
      in let in_front = within keys i key at_i in omega (arith, past, in_front)))
]

-- ---- places of objects

pub found_at : (m : ℕ) (os : List Object) → RiseAbove m os → (i : ℕ) (o : Object) → slice_get os i ≡ Some o
    → object_of os o.number ≡ Some o
unfolding object_of
found_at m [] rise i o at = absurd (none-some o at)
found_at m (x ∷ xs) rise zero o at =
    subst (λ (y : Object). object_of (x ∷ xs) y.number ≡ Some y) (same_Some x o at)
    (ap (λ (t : Bool). if t then Some x else object_of xs x.number) (eq-eqb x.number x.number refl))
found_at m (x ∷ xs) rise (suc i) o at =
    let found = found_at x.number xs rise.1 i o at in
    let above : x.number < o.number = of_above x.number xs o.number o rise.1 found in
    ap (λ (t : Bool). if t then Some x else object_of xs o.number)
    (ne_eqb x.number o.number (λ same. omega (arith, same, above))) ∙ found

pub rise_places : (m : ℕ) (os : List Object) → RiseAbove m os → (i j : ℕ) (a b : Object) → i < j → slice_get os i
    ≡ Some a → slice_get os j ≡ Some b → a.number < b.number
rise_places m [] rise i j a b less at_i at_j = absurd (none-some a at_i)
rise_places m (x ∷ xs) rise i zero a b less at_i at_j = absurd (omega (arith, less))
rise_places m (x ∷ xs) rise zero (suc j) a b less at_i at_j =
    subst (λ (y : Object). y.number < b.number) (same_Some x a at_i)
    (of_above x.number xs b.number b rise.1 (found_at x.number xs rise.1 j b at_j))
rise_places m (x ∷ xs) rise (suc i) (suc j) a b less at_i at_j = rise_places x.number xs rise.1 i j a b
    (omega (arith, less)) at_i at_j

-- of a lesser number, so at a place before
sooner : (os : List Object) → Rise os → (i j : ℕ) (a b : Object) → slice_get os i ≡ Some a → slice_get os j ≡ Some b
    → b.number < a.number → j < i
sooner os rise i j a b at_i at_j less = elim (cases_order i j) [
  | inl same ↦ (let one : a ≡ b = same_Some a b (sym at_i ∙ ap (slice_get os) same ∙ at_j) in let number
      = ap (λ (o : Object). o.number) one in absurd (omega (arith, number, less)))
  | inr apart ↦ elim apart [
    | inl before ↦ (let more = rise_places 0 os rise i j a b before at_i at_j in absurd (omega (arith, more, less)))
    | inr after ↦ after
  ]
]

-- ---- objects by their keys

key_at : (key : Object → List ℕ) (os : List Object) (i : ℕ) (o : Object) → slice_get os i ≡ Some o
    → slice_get (map key os) i ≡ Some (key o)
key_at key os i o at = slice_get-map key os i ∙ ap (option_map key) at

under : (key : Object → List ℕ) (os : List Object) (i : ℕ) (k : List ℕ) → slice_get (map key os) i ≡ Some k
    → (o : Object) × (slice_get os i ≡ Some o) × (key o ≡ k)
under key [] i k at = absurd (none-some k at)
under key (x ∷ xs) zero k at = (x, refl, same_Some (key x) k at)
under key (x ∷ xs) (suc i) k at = under key xs i k at

-- an object whose key and those before it don't stand after themselves again
own_from : (key : Object → List ℕ) (os : List Object) (o : Object) (i : ℕ) → slice_get os i ≡ Some o
    → ((j : ℕ) → j ≤ i → IsLast (map key os) j) → HasOwnKey key os o
own_from key os o i at lasts number other found same =
    let j = place_of os number other found in
    elim (cases_order i j.0) [
      | inl place ↦ ap (λ (x : Object). x.number) (same_Some other o (sym j.1 ∙ ap (slice_get os) (sym place) ∙ at))
      | inr apart ↦ elim apart [
        | inl before ↦ absurd (lasts i (omega arith) j.0 (key o) before (key_at key os i o at)
            (key_at key os j.0 other j.1 ∙ ap (λ (k : List ℕ). Some k) same))
        | inr after ↦ absurd (lasts j.0 (omega (arith, after)) i (key other) after (key_at key os j.0 other j.1)
            (key_at key os i o at ∙ ap (λ (k : List ℕ). Some k) (sym same)))
      ]
    ]

-- the number of the object at a place
abbrev pub IsNumberAt : List Object → Option ℕ → Option ℕ → Type 0
IsNumberAt os place number = MatchOption place (number ≡ None) (λ i. (o : Object) → slice_get os i ≡ Some o → number
    ≡ Some o.number)

pub least_own : (key : Object → List ℕ) (os : List Object) → Rise os → (place number : Option ℕ)
    → IsLeast (IsLast (map key os)) place → IsNumberAt os place number → IsLeastObject (HasOwnKey key os) os number
least_own key os rise None number is none =
    subst (IsLeastObject (HasOwnKey key os) os) (sym none)
    (λ n o found. let i = place_of os n o found in own_from key os o i.0 i.1 (λ j _. is j))
least_own key os rise (Some i) number is there = at_place (slice_get os i) refl
  where
    at_place : (x : Option Object) → slice_get os i ≡ x → IsLeastObject (HasOwnKey key os) os number
    at_place None none = absurd (is.0 (λ j k less at_i at_j. let o = under key os i k at_i
        in none-some o.0 (sym none ∙ o.1)))
    at_place (Some o) at = subst (IsLeastObject (HasOwnKey key os) os) (sym (there o at)) (
      λ own. is.0 (λ j k less at_i at_j.
          let other = under key os j k at_j in
          let this : key o ≡ k = same_Some (key o) k (sym (key_at key os i o at) ∙ at_i) in
          let same = own o (found_at 0 os rise i o at) other.0.number other.0 (found_at 0 os rise j other.0 other.1)
          (other.2 ∙ sym this) in
          let more = rise_places 0 os rise i j o other.0 less at other.1 in
          omega (arith, same, more)),
      λ n less x found.
          let j = place_of os n x found in
          let number = of_number os n x found in
          let before = sooner os rise i j.0 o x at j.1 (omega (arith, number, less)) in
          own_from key os x j.0 j.1 (λ k first. is.1 k (omega (arith, first, before))),
    )

-- ---- objects one after the other

pub every : (P : Object → Type 0) (os : List Object) → AllByRecursion P os → IsLeastObject P os None
every P os all = λ n o found. find_all P os all n o found

pub got : (xs : List Entry) (i : ℕ) (x : Entry) → i < length xs → x ≡ get_or xs i x → slice_get (objects_of xs) i
    ≡ Some (object_seen x.0 x.1)
got [] i x less is = absurd (omega (arith, less))
got (y ∷ ys) zero x less is = ap (λ (e : Entry). Some (object_seen e.0 e.1)) (sym is)
got (y ∷ ys) (suc i) x less is = got ys i x (omega (arith, less)) is

pub number_got : (xs : List Entry) (i : ℕ) (x : Entry) (o : Object) → i < length xs → x ≡ get_or xs i x
    → slice_get (objects_of xs) i ≡ Some o → Some x.0.number ≡ Some o.number
number_got xs i x o less is at = ap (λ (y : Object). Some y.number)
    (same_Some (object_seen x.0 x.1) o (sym (got xs i x less is) ∙ at))

all_before : (P : Object → Type 0) (xs : List Entry) (i j : ℕ) (o : Object)
    → AllByRecursion P (objects_of (take i xs)) → j < i → slice_get (objects_of xs) j ≡ Some o → P o
all_before P [] i j o all less at = absurd (none-some o at)
all_before P (x ∷ xs) zero j o all less at = absurd (omega (arith, less))
all_before P (x ∷ xs) (suc i) zero o all less at = subst P (same_Some (object_seen x.0 x.1) o at) all.0
all_before P (x ∷ xs) (suc i) (suc j) o all less at = all_before P xs i j o all.1 (omega (arith, less)) at

pub least_here : (P : Object → Type 0) (xs : List Entry) (i : ℕ) (x : Entry) → Rise (objects_of xs) → i < length xs
    → x ≡ get_or xs i x → AllByRecursion P (objects_of (take i xs)) → (P (object_seen x.0 x.1) → ⊥)
    → IsLeastObject P (objects_of xs) (Some x.0.number)
least_here P xs i x rise less is all not =
    let os = objects_of xs in
    let at = got xs i x less is in (
      λ holds. not (holds (object_seen x.0 x.1) (found_at 0 os rise i (object_seen x.0 x.1) at)),
      λ n below o found.
          let j = place_of os n o found in
          let number = of_number os n o found in
          all_before P xs i j.0 o all (sooner os rise i j.0 (object_seen x.0 x.1) o at j.1
          (omega (arith, number, below))) j.1,
    )

behind_first : (x : Object) (xs : List Object) → RiseAbove x.number xs → (n : ℕ) (o : Object) → object_of xs n
    ≡ Some o → object_of (x ∷ xs) n ≡ Some o
unfolding object_of
behind_first x xs rise n o found =
    let above : x.number < n = of_above x.number xs n o rise found in
    ap (λ (t : Bool). if t then Some x else object_of xs n) (ne_eqb x.number n (λ same. omega (arith, same, above)))
    ∙ found

-- what holds of each object that is found holds of all
pub all_found : (P : Object → Type 0) (m : ℕ) (os : List Object) → RiseAbove m os
    → ((n : ℕ) (o : Object) → object_of os n ≡ Some o → P o) → AllByRecursion P os
all_found P m [] rise each = tt
all_found P m (x ∷ xs) rise each = (
  each x.number x (found_at m (x ∷ xs) rise 0 x refl),
  all_found P x.number xs rise.1 (λ n o found. each n o (behind_first x xs rise.1 n o found)),
)

-- the place of a clash is one of the keys
pub place_within : (keys : List (List ℕ)) (n : ℕ) (place : Option ℕ) → length keys ≡ n → IsLeast (IsLast keys) place
    → IfSome place (λ i. i < n)
place_within keys n None long is = tt
place_within keys n (Some i) long is = subst (λ (m : ℕ). i < m) long (clash_within keys i is.0)

pub lesser_none : (a b : Option ℕ) → lesser a b ≡ None → a ≡ None
lesser_none None b none = refl
lesser_none (Some a) None none = none
lesser_none (Some a) (Some b) none = absurd (none-some _ (sym none))
