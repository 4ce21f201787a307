-- Lists of identifiers, and those in rising order: of the same identifiers there is one.
use Rattle.std.proofs.Common.{◌≡◌, ℕ, suc, ◌<◌, ◌≤◌, Bool, true, false, List, [], ◌∷◌, ◌++◌, length, get_or, inl, inr}
use Rattle.std.proofs.Common.{refl, sym, ap, subst, ◌∙◌, arith, Bor}
use Rattle.std.specs.Prelude.{◌||◌, Result, Ok, Err}
use Rattle.std.specs.List.{AllByRecursion, IsDistinct}
use Rattle.std.specs.List.Sorted.{IsPermutation, IsSortedBy}
use Rattle.std.specs.Fn.{Called, ComparesAs}
use Rattle.std.specs.Str.{bytes_eq}
use Rattle.std.specs.declared.cmp.Ordering.{Ordering}
use Rattle.std.specs.declared.cmp.Ordering.TheVariants.{Less, Equal, Greater}
use Rattle.std.specs.Ordering.{nat_cmp, is_lt, is_eq, ordering_reverse}
use Rattle.std.specs.Cmp.{IsStrictWeakOrder}
use Rattle.std.specs.Cmp.Lexicographic.{slice_cmp}
use Rattle.std.proofs.lemmas.Cmp.{nat_list_cmp_total}
use Rattle.std.proofs.lemmas.Fn.{always_returns_same}
use Rattle.std.proofs.lemmas.Bool.{cases_Bool, false≢true, both_ways, or_cases, or_left, false_from_ne_true}
use Rattle.std.proofs.lemmas.List.Elements.{All-from_recursion, recursion_from_All}
use Rattle.std.proofs.lemmas.List.Sorted.{All-permutation, sorted_far}
use Rattle.std.proofs.lemmas.List.MinMax.{ranks_by}
use Rattle.std.proofs.lemmas.Map.Keys.{IsDistinct-IsPermutation}
use Rattle.std.proofs.lemmas.Map.Text.{is_eq-slice_cmp}
use Rattle.std.proofs.lemmas.Slice.Eq.{bytes_eq-Decides}
use denote.Param.Members.{Mut}
use Rattle.ad_ids.specs.declared.sid.SidFault.{SidFault}
use Rattle.ad_ids.specs.SidValue.{SidValue, same_sid, contains_sid, same_sid_laws}
use Rattle.ad_ids.specs.SidReading.{sid_at}
use Rattle.ad_ids.specs.Sid.{IsSid, sid_bytes}
use Rattle.ad_ids.proofs.SidLaws.{same_sid-Decides}
use Rattle.ad_ids.proofs.SidCodec.{sid_reader}
use Rattle.ad_principals.specs.Tokens.{is_before, SidsRise}

-- ---- identifiers in a list

pub one_sid : (a b : SidValue) → same_sid a b ≡ true → a ≡ b
one_sid a b is = (same_sid-Decides a b).0 is

pub same_either : (a b : SidValue) → same_sid a b ≡ same_sid b a
same_either = same_sid_laws.symm

pub first_in : (sid : SidValue) (sids : List SidValue) → contains_sid (sid ∷ sids) sid ≡ true
first_in sid sids = or_left (same_sid sid sid) (contains_sid sids sid) (same_sid_laws.refl sid)

pub each_in : (P : SidValue → Type 0) (sids : List SidValue) (sid : SidValue) → AllByRecursion P sids
    → contains_sid sids sid ≡ true → P sid
each_in P [] sid all is = absurd (false≢true is)
each_in P (x ∷ xs) sid all is = elim (or_cases (same_sid x sid) (contains_sid xs sid) is) [
  | inl here ↦ subst P (one_sid x sid here) all.0
  | inr behind ↦ each_in P xs sid all.1 behind
]

-- ---- the order of their bytes

reversed : (o p : Ordering) → o ≡ ordering_reverse p → is_lt o ≡ true → is_lt p ≡ true → ⊥
reversed Less Less e one other = absurd cc
reversed Less Equal e one other = absurd (false≢true other)
reversed Less Greater e one other = absurd (false≢true other)
reversed Equal p e one other = absurd (false≢true one)
reversed Greater p e one other = absurd (false≢true one)

pub not_both : (a b : SidValue) → is_before a b ≡ true → is_before b a ≡ true → ⊥
not_both a b = reversed (slice_cmp nat_cmp (sid_bytes a) (sid_bytes b)) (slice_cmp nat_cmp (sid_bytes b) (sid_bytes a))
    (nat_list_cmp_total.antisymm (sid_bytes a) (sid_bytes b))

-- none after the first is the first
first_alone : (x : SidValue) (xs : List SidValue) → SidsRise (x ∷ xs) → contains_sid xs x ≡ false
first_alone x xs rise = false_from_ne_true (contains_sid xs x) (λ is.
    let own : is_before x x ≡ true = each_in (λ (other : SidValue). is_before x other ≡ true) xs x rise.0 is in
    not_both x x own own)

-- ---- the same identifiers

abbrev Alike : List SidValue → List SidValue → Type 0
Alike xs ys = (sid : SidValue) → contains_sid xs sid ≡ contains_sid ys sid

-- the first of one list is the first of the other
first_same : (x y : SidValue) (xs ys : List SidValue) → SidsRise (x ∷ xs) → SidsRise (y ∷ ys)
    → Alike (x ∷ xs) (y ∷ ys) → x ≡ y
first_same x y xs ys rise other alike =
    elim (or_cases (same_sid y x) (contains_sid ys x) (sym (alike x) ∙ first_in x xs)) [
      | inl same ↦ sym (one_sid y x same)
      | inr x_behind ↦ elim (or_cases (same_sid x y) (contains_sid xs y) (alike y ∙ first_in y ys)) [
        | inl same ↦ one_sid x y same
        | inr y_behind ↦ absurd (not_both x y (each_in (λ (o : SidValue). is_before x o ≡ true) xs y rise.0 y_behind)
            (each_in (λ (o : SidValue). is_before y o ≡ true) ys x other.0 x_behind))
      ]
    ]

-- and after it the same follow
behind_same : (x : SidValue) (xs ys : List SidValue) → SidsRise (x ∷ xs) → SidsRise (x ∷ ys) → Alike (x ∷ xs) (x ∷ ys)
    → Alike xs ys
behind_same x xs ys rise other alike sid =
    elim (cases_Bool (same_sid x sid)) [
      | inl here ↦
          subst (λ (s : SidValue). contains_sid xs s ≡ contains_sid ys s) (one_sid x sid here)
          (first_alone x xs rise ∙ sym (first_alone x ys other))
      | inr away ↦
          sym (ap (λ (b : Bool). b || contains_sid xs sid) away) ∙ alike sid
          ∙ ap (λ (b : Bool). b || contains_sid ys sid) away
    ]

pub rising_same : (xs ys : List SidValue) → SidsRise xs → SidsRise ys → Alike xs ys → xs ≡ ys
rising_same [] [] rise other alike = refl
rising_same [] (y ∷ ys) rise other alike = absurd (false≢true (alike y ∙ first_in y ys))
rising_same (x ∷ xs) [] rise other alike = absurd (false≢true (sym (alike x) ∙ first_in x xs))
rising_same (x ∷ xs) (y ∷ ys) rise other alike =
    let same : x ≡ y = first_same x y xs ys rise other alike in
    let to : SidsRise (x ∷ ys) = subst (λ (s : SidValue). SidsRise (s ∷ ys)) (sym same) other in
    let alike_too : Alike (x ∷ xs) (x ∷ ys) = subst (λ (s : SidValue). Alike (x ∷ xs) (s ∷ ys)) (sym same) alike in
    ap (λ (l : List SidValue). x ∷ l) (rising_same xs ys rise.1 other.1 (behind_same x xs ys rise to alike_too))
    ∙ ap (λ (s : SidValue). s ∷ ys) same

-- ---- from a sort

-- identifiers of the same bytes are one
pub same_bytes : (a b : SidValue) → IsSid a → IsSid b → sid_bytes a ≡ sid_bytes b → a ≡ b
same_bytes a b one other same =
    let first : sid_at (sid_bytes a ++ []) ≡ Ok (a, []) = sid_reader.again a (sid_bytes a) [] (one, refl) in
    let second : sid_at (sid_bytes b ++ []) ≡ Ok (b, []) = sid_reader.again b (sid_bytes b) [] (other, refl) in
    ap (λ (r : Result (SidValue × List ℕ) SidFault). value_or a r)
    (sym first ∙ ap (λ (bytes : List ℕ). sid_at (bytes ++ [])) same ∙ second)
  where
    value_or : SidValue → Result (SidValue × List ℕ) SidFault → SidValue
    value_or d (Ok found) = found.0
    value_or d (Err fault) = d

-- of two identifiers of which neither is the other, and the second isn't before the first, the first is before the
-- second
before_other : (a b : SidValue) → IsSid a → IsSid b → same_sid a b ≡ false → is_before b a ≡ false → is_before a b
    ≡ true
before_other a b one other apart after =
    by_order (slice_cmp nat_cmp (sid_bytes a) (sid_bytes b)) (slice_cmp nat_cmp (sid_bytes b) (sid_bytes a)) refl
    (nat_list_cmp_total.antisymm (sid_bytes a) (sid_bytes b)) after
  where
    by_order : (o p : Ordering) → o ≡ slice_cmp nat_cmp (sid_bytes a) (sid_bytes b) → o ≡ ordering_reverse p → is_lt p
        ≡ false → is_lt o ≡ true
    by_order Less p is e not_less = refl
    by_order Equal p is e not_less =
        let equal : bytes_eq (sid_bytes a) (sid_bytes b) ≡ true = sym (is_eq-slice_cmp (sid_bytes a) (sid_bytes b))
        ∙ ap is_eq (sym is) in
        absurd (both_ways (same_sid a b) apart
        ((same_sid-Decides a b).1 (same_bytes a b one other
        ((bytes_eq-Decides (sid_bytes a) (sid_bytes b)).0 equal))))
    by_order Greater Less is e not_less = absurd (false≢true (sym not_less))
    by_order Greater Equal is e not_less = absurd cc
    by_order Greater Greater is e not_less = absurd cc

-- the first is before each that it isn't
all_behind : (x : SidValue) (ys : List SidValue) → IsSid x → AllByRecursion IsSid ys
    → AllByRecursion (λ y. same_sid x y ≡ false) ys
    → ((k : ℕ) → k < length ys → is_before (get_or ys k x) x ≡ false) → AllByRecursion (λ y. is_before x y ≡ true) ys
all_behind x [] one all apart after = tt
all_behind x (y ∷ ys) one all apart after = (
  before_other x y one all.0 apart.0 (after 0 (omega arith)),
  all_behind x ys one all.1 apart.1 (λ k less. after (suc k) (omega arith)),
)

pub rise_from : (xs : List SidValue) → AllByRecursion IsSid xs → IsDistinct same_sid xs
    → ((i j : ℕ) (d : SidValue) → i ≤ j → j < length xs → is_before (get_or xs j d) (get_or xs i d) ≡ false)
    → SidsRise xs
unfolding IsDistinct
rise_from [] all distinct up = tt
rise_from (x ∷ xs) all distinct up = (
  all_behind x xs all.0 all.1 distinct.0 (λ k less. up 0 (suc k) x (omega arith) (omega arith)),
  rise_from xs all.1 distinct.1 (λ i j d le less. up (suc i) (suc j) d (omega arith) (omega arith)),
)

-- an order by bytes
abbrev pub ByBytes : Type 0
ByBytes = IsStrictWeakOrder is_before

pub by_bytes : ByBytes
by_bytes = ranks_by nat_list_cmp_total sid_bytes

-- what a sort by a closure that compares bytes gives
pub sorted_rise : {F : Type 0} {g : Mut F (Bor SidValue × (Bor SidValue × Unit {0})) Ordering} {f : F}
    (xs ys : List SidValue)
    → ((lt : SidValue → SidValue → Bool) → IsStrictWeakOrder lt → ComparesAs g lt f → IsSortedBy lt ys)
    → ((a : Bor SidValue × (Bor SidValue × Unit {0})) (r : Ordering) (f' : F) → Called g f a r f'
    → (r ≡ slice_cmp nat_cmp (sid_bytes a.0.now) (sid_bytes a.1.0.now)) × (f' ≡ f))
    → IsPermutation xs ys → AllByRecursion IsSid xs → IsDistinct same_sid xs → SidsRise ys
sorted_rise {g = g} {f = f} xs ys sorted compares moved all distinct =
    rise_from ys (recursion_from_All IsSid ys (All-permutation IsSid xs ys moved (All-from_recursion IsSid xs all)))
    (IsDistinct-IsPermutation same_sid same_either xs ys moved distinct)
    (sorted_far is_before by_bytes ys (sorted is_before by_bytes
    (always_returns_same g (λ a r. is_lt r ≡ is_before a.0.now a.1.0.now) f
    (λ a r f' k. (ap is_lt (compares a r f' k).0, (compares a r f' k).1)))))
