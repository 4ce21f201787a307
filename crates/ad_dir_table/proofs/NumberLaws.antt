-- Rising lists of numbers.
use Rattle.std.proofs.Common.{◌≡◌, ℕ, zero, suc, ◌+◌, ◌-◌, ◌<◌, ◌≤◌, true, false, List, [], ◌∷◌, length, get_or}
use Rattle.std.proofs.Common.{Option, Some, None, refl, sym, subst, ap, ◌∙◌, inl, inr, arith}
use Rattle.std.specs.Prelude.{nat_lt, nat_le, nat_eq, find, insert, remove, slice_get}
use Rattle.std.specs.List.{AllWithin, position_or_len}
use Rattle.std.specs.List.Sorted.{IsNonDecreasingBy}
use Rattle.std.proofs.lemmas.Bool.{cases_Bool, ltb-true, ltb-false, eqb-true, eq-eqb, ne_eqb}
use Rattle.std.proofs.lemmas.Bool.Decides.{nat_tests}
use Rattle.std.specs.Option.{option_map_or}
use Rattle.std.specs.Map.{lookup}
use Rattle.std.specs.Global.{Vec}
use Rattle.ad_dir_table.specs.Lists.{RiseFrom, put_number, without_number, Lacks, listed, ListsRise, IsNew, Adds, Drops}

-- ---- the place of a number

pub above_all : (m : ℕ) (ns : List ℕ) → RiseFrom m ns → (i d : ℕ) → i < length ns → m < get_or ns i d
above_all m [] rise i d within = absurd (omega (arith, within))
above_all m (x ∷ xs) rise zero d within = rise.0
above_all m (x ∷ xs) rise (suc i) d within =
    let more : x < get_or xs i d = above_all x xs rise.1 i d (omega (arith, within)) in
    let first : m < x = rise.0 in
    omega (arith, more, first)

pub rises_by : (m : ℕ) (ns : List ℕ) → RiseFrom m ns → IsNonDecreasingBy (λ (n : ℕ). n) ns
rises_by m [] rise i j d le within = absurd (omega (arith, within))
rises_by m (x ∷ xs) rise zero zero d le within = omega arith
rises_by m (x ∷ xs) rise zero (suc j) d le within = let more : x < get_or xs j d = above_all x xs rise.1 j d
    (omega (arith, within)) in omega (arith, more)
rises_by m (x ∷ xs) rise (suc i) zero d le within = absurd (omega (arith, le))
rises_by m (x ∷ xs) rise (suc i) (suc j) d le within = rises_by x xs rise.1 i j d (omega (arith, le))
    (omega (arith, within))

pub place_is : (number : ℕ) (ns : List ℕ) (i : ℕ) → i ≤ length ns → AllWithin (λ (y : ℕ). nat_le y number ≡ true) ns 0
    i → AllWithin (λ (y : ℕ). nat_le y number ≡ false) ns i (length ns)
    → i ≡ position_or_len (nat_lt number) ns
place_is number [] zero within low high = refl
place_is number [] (suc i) within low high = absurd (omega (arith, within))
place_is number (x ∷ xs) zero within low high =
    let over : nat_le x number ≡ false = high 0 x (omega arith) (omega arith) in
    let above : nat_lt number x ≡ true = grind (arith, nat_tests) in
    rw above refl
place_is number (x ∷ xs) (suc i) within low high =
    let under : nat_le x number ≡ true = low 0 x (omega arith) (omega arith) in
    let not_above : nat_lt number x ≡ false = grind (arith, nat_tests) in
    let rest : i ≡ position_or_len (nat_lt number) xs = place_is number xs i (omega (arith, within))
    (λ k d le lt. low (suc k) d (omega arith) (omega (arith, lt)))
    (λ k d le lt. high (suc k) d (omega (arith, le)) (omega (arith, lt))) in
    rw not_above (omega (arith, rest))

-- ---- one more

pub put_is : (number : ℕ) (ns : List ℕ) → put_number number ns ≡ insert ns (position_or_len (nat_lt number) ns) number
unfolding put_number
put_is number [] = refl
put_is number (x ∷ xs) = elim (cases_Bool (nat_lt number x)) [
  | inl above ↦ rw above refl
  | inr behind ↦
      let one_on : 1 + position_or_len (nat_lt number) xs ≡ suc (position_or_len (nat_lt number) xs) = omega arith in
      rw (behind, one_on) (ap (λ (ns : List ℕ). x ∷ ns) (put_is number xs))
]

-- the first above a number
pub first_above : (number : ℕ) (ns : List ℕ) → slice_get ns (position_or_len (nat_lt number) ns)
    ≡ find (nat_lt number) ns
first_above number [] = refl
first_above number (x ∷ xs) = elim (cases_Bool (nat_lt number x)) [
  | inl above ↦ rw above refl
  | inr behind ↦
      let one_on : 1 + position_or_len (nat_lt number) xs ≡ suc (position_or_len (nat_lt number) xs) = omega arith in
      rw (behind, one_on) (first_above number xs)
]

-- ---- one less

pub without_none : (number m : ℕ) (ns : List ℕ) → RiseFrom m ns → number ≤ m → without_number number ns ≡ ns
unfolding without_number
without_none number m [] rise le = refl
without_none number m (x ∷ xs) rise le =
    let above : m < x = rise.0 in
    let apart : nat_eq x number ≡ false = ne_eqb x number (λ (e : x ≡ number). absurd (omega (arith, e, above, le))) in
    rw apart (ap (λ (ns : List ℕ). x ∷ ns) (without_none number x xs rise.1 (omega (arith, above, le))))

-- where the first is above it, it isn't there
pub none_first : (number m : ℕ) (ns : List ℕ) → RiseFrom m ns → position_or_len (nat_lt number) ns ≡ 0 → ns
    ≡ without_number number ns
unfolding without_number
none_first number m [] rise place = refl
none_first number m (x ∷ xs) rise place = elim (cases_Bool (nat_lt number x)) [
  | inl above ↦ let less : number < x = ltb-true number x above
      in sym (without_none number number (x ∷ xs) (less, rise.1) (omega arith))
  | inr behind ↦ let bad = rw behind at place in absurd (omega (arith, bad))
]

pub taken_at : (number m : ℕ) (ns : List ℕ) (i d : ℕ) → RiseFrom m ns → i < length ns → get_or ns i d ≡ number
    → remove ns i ≡ without_number number ns
unfolding without_number
taken_at number m [] i d rise within at = absurd (omega (arith, within))
taken_at number m (x ∷ xs) zero d rise within at = rw (eq-eqb x number at)
    (sym (without_none number x xs rise.1 (omega (arith, at))))
taken_at number m (x ∷ xs) (suc i) d rise within at =
    let more : x < get_or xs i d = above_all x xs rise.1 i d (omega (arith, within)) in
    let apart : nat_eq x number ≡ false = ne_eqb x number (λ (e : x ≡ number). absurd (omega (arith, e, more, at))) in
    rw apart (ap (λ (ns : List ℕ). x ∷ ns) (taken_at number x xs i d rise.1 (omega (arith, within)) at))

none_above : (number m : ℕ) (ns : List ℕ) (i : ℕ) → RiseFrom m ns → number ≤ m → position_or_len (nat_lt number) ns
    ≡ suc i → ⊥
none_above number m [] i rise le is = omega (arith, is)
none_above number m (x ∷ xs) i rise le is =
    let above : m < x = rise.0 in
    let test : nat_lt number x ≡ true = grind (arith, nat_tests) in
    let bad = rw test at is in
    omega (arith, bad)

without_other : (number x : ℕ) (xs : List ℕ) → (x ≡ number → ⊥) → xs ≡ without_number number xs → x ∷ xs
    ≡ without_number number (x ∷ xs)
unfolding without_number
without_other number x xs apart rest = rw (ne_eqb x number apart) (ap (λ (ns : List ℕ). x ∷ ns) rest)

one_less : (number x : ℕ) (xs : List ℕ) (i : ℕ) → position_or_len (nat_lt number) (x ∷ xs) ≡ suc i
    → position_or_len (nat_lt number) xs ≡ i
one_less number x xs i place = elim (cases_Bool (nat_lt number x)) [
  | inl above ↦ let bad = rw above at place in absurd (omega (arith, bad))
  | inr behind ↦ let rest = rw behind at place in omega (arith, rest)
]

-- where the last that isn't above it is another one, it isn't there
pub none_at : (number m : ℕ) (ns : List ℕ) (i d : ℕ) → RiseFrom m ns → position_or_len (nat_lt number) ns ≡ suc i
    → (get_or ns i d ≡ number → ⊥) → ns ≡ without_number number ns
none_at number m [] i d rise place apart = absurd (omega (arith, place))
none_at number m (x ∷ xs) zero d rise place apart = without_other number x xs apart
    (none_first number x xs rise.1 (one_less number x xs 0 place))
none_at number m (x ∷ xs) (suc i) d rise place apart =
    let rest : position_or_len (nat_lt number) xs ≡ suc i = one_less number x xs (suc i) place in
    without_other number x xs (λ (e : x ≡ number). none_above number x xs i rise.1 (omega (arith, e)) rest)
    (none_at number x xs i d rise.1 rest apart)

-- ---- by the place

pub taken_before : (number m : ℕ) (ns : List ℕ) (place d : ℕ) → RiseFrom m ns → place ≤ length ns → (place ≡ 0 → ⊥)
    → get_or ns (place - 1) d ≡ number → remove ns (place - 1) ≡ without_number number ns
taken_before number m ns zero d rise within some at = absurd (some refl)
taken_before number m ns (suc i) d rise within some at =
    let one : suc i - 1 ≡ i = omega arith in
    ap (remove ns) one ∙ taken_at number m ns i d rise (omega (arith, within))
    (ap (λ (k : ℕ). get_or ns k d) (sym one) ∙ at)

pub none_before : (number m : ℕ) (ns : List ℕ) (place d : ℕ) → RiseFrom m ns → place ≡ position_or_len (nat_lt number)
    ns → (place ≡ 0 → ⊥) → (get_or ns (place - 1) d ≡ number → ⊥) → ns ≡ without_number number ns
none_before number m ns zero d rise is some apart = absurd (some refl)
none_before number m ns (suc i) d rise is some apart =
    let one : suc i - 1 ≡ i = omega arith in
    none_at number m ns i d rise (sym is)
    (λ (e : get_or ns i d ≡ number). apart (ap (λ (k : ℕ). get_or ns k d) one ∙ e))

-- ---- numbers that aren't there

pub lacks_same : (number : ℕ) (ns : List ℕ) → Lacks number ns → without_number number ns ≡ ns
unfolding without_number
lacks_same number [] lacks = refl
lacks_same number (x ∷ xs) lacks = rw (ne_eqb x number lacks.0)
    (ap (λ (ns : List ℕ). x ∷ ns) (lacks_same number xs lacks.1))

pub lacks_below : (number m : ℕ) (ns : List ℕ) → RiseFrom m ns → number ≤ m → Lacks number ns
lacks_below number m [] rise le = tt
lacks_below number m (x ∷ xs) rise le =
    let above : m < x = rise.0 in
    (λ (e : x ≡ number). omega (arith, e, above, le), lacks_below number x xs rise.1 (omega (arith, above, le)))

pub put_first : (number m : ℕ) (ns : List ℕ) → RiseFrom m ns → number ≤ m → put_number number ns ≡ number ∷ ns
unfolding put_number
put_first number m [] rise le = refl
put_first number m (x ∷ xs) rise le =
    let first : m < x = rise.0 in
    let above : nat_lt number x ≡ true = grind (arith, nat_tests) in
    rw above refl

pub put_rises : (number m : ℕ) (ns : List ℕ) → RiseFrom m ns → m < number → Lacks number ns
    → RiseFrom m (put_number number ns)
unfolding put_number
put_rises number m [] rise above lacks = (above, tt)
put_rises number m (x ∷ xs) rise above lacks = elim (cases_Bool (nat_lt number x)) [
  | inl before ↦ let less : number < x = ltb-true number x before in rw before (above, (less, rise.1))
  | inr behind ↦
      let le : x ≤ number = ltb-false number x behind in
      let apart : x ≡ number → ⊥ = lacks.0 in
      rw behind (rise.0, put_rises number x xs rise.1 (omega (arith, le, apart)) lacks.1)
]

-- ---- the lists of all parents

pub lists_rise_more : (to : Option ℕ) (number : ℕ) (old new : List (ℕ × Vec ℕ)) → ListsRise old → 0 < number
    → IsNew to number old → Adds to number (listed old) (listed new) → ListsRise new
lists_rise_more None number old new rise above free adds p = subst (RiseFrom 0) (sym (adds p)) (rise p)
lists_rise_more (Some parent) number old new rise above free adds p = elim (cases_Bool (nat_eq parent p)) [
  | inl same ↦
      let here : listed new p ≡ put_number number (listed old p) = rw same at (adds p) in
      subst (RiseFrom 0) (sym here) (put_rises number 0 (listed old p) (rise p) above
      (subst (λ (q : ℕ). Lacks number (listed old q)) (eqb-true parent p same) (free parent refl)))
  | inr other ↦
      let here : listed new p ≡ listed old p = rw other at (adds p) in
      subst (RiseFrom 0) (sym here) (rise p)
]

-- ---- no list

pub none_listed : (number parent : ℕ) (entries : List (ℕ × Vec ℕ)) → lookup (nat_eq parent) entries ≡ None
    → Drops (Some parent) number (listed entries) (listed entries)
unfolding without_number
none_listed number parent entries none p = elim (cases_Bool (nat_eq parent p)) [
  | inl same ↦
      let here : listed entries p ≡ [] = ap (λ (v : Option (Vec ℕ)). option_map_or (λ (v : Vec ℕ). v.items) v [])
      (subst (λ (q : ℕ). lookup (nat_eq q) entries ≡ None) (eqb-true parent p same) none) in
      rw same (rw here refl)
  | inr other ↦ rw other refl
]
