-- The identifiers of a set but for the user's, and how many they are.
use Rattle.std.proofs.Common.{◌≡◌, Option, ℕ, suc, ◌+◌, ◌<◌, ◌≤◌, Bool, true, false, List, [], ◌∷◌, length, inl, inr, refl}
use Rattle.std.proofs.Common.{sym, ap, subst, ◌∙◌, arith}
use Rattle.std.specs.Prelude.{◌||◌, ◌&&◌, not, filter}
use Rattle.std.specs.List.{AllByRecursion, IsDistinct}
use Rattle.std.proofs.lemmas.Bool.{cases_Bool, and_from, false_from_ne_true}
use Rattle.std.proofs.lemmas.Option.{same_Some}
use Rattle.std.proofs.lemmas.Map.Made.{length-le_from_is_member}
use Rattle.ad_ids.specs.declared.token.Token.{Token}
use Rattle.ad_ids.specs.SidValue.{SidValue, same_sid, contains_sid, same_sid_laws}
use Rattle.ad_dir_model.specs.Directory.{Directory}
use Rattle.ad_dir_model.specs.Identity.{self_sid}
use Rattle.ad_principals.specs.Groups.{primary_of, first_groups, IsClosed}
use Rattle.ad_principals.specs.Tokens.{is_before, SidsRise, IsTokenFrom, IsTokenOf, HasTooManyFrom, HasTooManyGroups}
use Rattle.ad_principals.proofs.Rising.{one_sid, not_both}
use Rattle.ad_principals.proofs.Sets.{member_has}

abbrev pub is_other : SidValue → SidValue → Bool
is_other user sid = not (same_sid sid user)

-- ---- what is left

all_left : (P : SidValue → Type 0) (test : SidValue → Bool) (xs : List SidValue) → AllByRecursion P xs
    → AllByRecursion P (filter test xs)
all_left P test [] all = tt
all_left P test (x ∷ xs) all = elim (cases_Bool (test x)) [
  | inl stays ↦ rw stays (all.0, all_left P test xs all.1)
  | inr goes ↦ rw goes (all_left P test xs all.1)
]

pub distinct_left : (test : SidValue → Bool) (xs : List SidValue) → IsDistinct same_sid xs
    → IsDistinct same_sid (filter test xs)
unfolding IsDistinct
distinct_left test [] distinct = tt
distinct_left test (x ∷ xs) distinct = elim (cases_Bool (test x)) [
  | inl stays ↦ rw stays (all_left (λ y. same_sid x y ≡ false) test xs distinct.0, distinct_left test xs distinct.1)
  | inr goes ↦ rw goes (distinct_left test xs distinct.1)
]

dropped_first : (h c n : Bool) → (h ≡ true → n ≡ false) → (c && n) ≡ ((h || c) && n)
dropped_first true c false gone = sym (and_false c)
  where
    and_false : (b : Bool) → false ≡ (b && false)
    and_false true = refl
    and_false false = refl
dropped_first true true true gone = refl
dropped_first true false true gone = sym (gone refl)
dropped_first false c n gone = refl

kept_first : (h c n : Bool) → (h ≡ true → n ≡ true) → (h || (c && n)) ≡ ((h || c) && n)
kept_first true c n stays = sym (stays refl)
kept_first false c n stays = refl

pub contains_left : (test : SidValue → Bool) (xs : List SidValue) (sid : SidValue) → contains_sid (filter test xs) sid
    ≡ (contains_sid xs sid && test sid)
contains_left test [] sid = refl
contains_left test (x ∷ xs) sid = elim (cases_Bool (test x)) [
  | inl stays ↦ rw stays (ap (λ (b : Bool). same_sid x sid || b) (contains_left test xs sid)
      ∙ kept_first (same_sid x sid) (contains_sid xs sid) (test sid)
      (λ here. subst (λ (s : SidValue). test s ≡ true) (one_sid x sid here) stays))
  | inr goes ↦ rw goes (contains_left test xs sid ∙ dropped_first (same_sid x sid) (contains_sid xs sid) (test sid)
      (λ here. subst (λ (s : SidValue). test s ≡ false) (one_sid x sid here) goes))
]

-- ---- how many are left

all_stay : (user : SidValue) (xs : List SidValue) → AllByRecursion (λ y. same_sid user y ≡ false) xs → length xs
    ≡ length (filter (is_other user) xs)
all_stay user [] all = refl
all_stay user (x ∷ xs) all =
    let apart : same_sid x user ≡ false = same_sid_laws.symm x user ∙ all.0 in
    rw apart (ap suc (all_stay user xs all.1))

pub one_goes : (user : SidValue) (xs : List SidValue) → IsDistinct same_sid xs → length xs
    ≤ length (filter (is_other user) xs) + 1
unfolding IsDistinct
one_goes user [] distinct = omega arith
one_goes user (x ∷ xs) distinct = elim (cases_Bool (same_sid x user)) [
  | inl goes ↦
      let same : length xs ≡ length (filter (is_other user) xs)
      = all_stay user xs (subst (λ (s : SidValue). AllByRecursion (λ y. same_sid s y ≡ false) xs)
      (one_sid x user goes) distinct.0) in
      rw goes (omega (arith, same))
  | inr stays ↦
      let more : length xs ≤ length (filter (is_other user) xs) + 1 = one_goes user xs distinct.1 in
      rw stays (omega (arith, more))
]

-- ---- who has too many groups has no token

apart_behind : (x : SidValue) (xs : List SidValue) → AllByRecursion (λ y. is_before x y ≡ true) xs
    → AllByRecursion (λ y. same_sid x y ≡ false) xs
apart_behind x [] all = tt
apart_behind x (y ∷ ys) all = (
  false_from_ne_true (same_sid x y) (λ same.
      let own : is_before x x ≡ true = subst (λ (s : SidValue). is_before x s ≡ true) (sym (one_sid x y same)) all.0 in
      not_both x x own own),
  apart_behind x ys all.1,
)

pub rising_distinct : (xs : List SidValue) → SidsRise xs → IsDistinct same_sid xs
unfolding IsDistinct
rising_distinct [] rise = tt
rising_distinct (x ∷ xs) rise = (apart_behind x xs rise.0, rising_distinct xs rise.1)

pub too_many_from : (dir : Directory) (self : Option SidValue) (group : SidValue) (first : List SidValue) (t : Token)
    → HasTooManyFrom dir self first → IsTokenFrom dir self group first t → ⊥
too_many_from dir self group first t h is =
    let user : t.user ≡ h.user = same_Some t.user h.user (sym is.user ∙ h.is_user) in
    let closed : IsClosed dir h.user first is.set
    = subst (λ (u : SidValue). IsClosed dir u first is.set) user is.least.closed in
    let within : (q : SidValue) → contains_sid h.groups q ≡ true → contains_sid t.groups q ≡ true = λ q there.
    is.groups q ∙ and_from (contains_sid is.set q) (not (same_sid q t.user)) (h.reached q there is.set closed)
    (ap not (ap (same_sid q) user ∙ h.others q there)) in
    let fewer : length h.groups ≤ length t.groups = length-le_from_is_member same_sid_laws h.groups t.groups
    (rising_distinct h.groups h.rise)
    (λ q there. member_has t.groups q ∙ within q (sym (member_has h.groups q) ∙ there)) in
    let few : length t.groups ≤ 1024 = is.few in
    let many : 1024 < length h.groups = h.many in
    absurd (omega (arith, fewer, few, many))

pub too_many : (dir : Directory) (number : ℕ) (extra : List SidValue) (t : Token) → HasTooManyGroups dir number extra
    → IsTokenOf dir number extra t → ⊥
too_many dir number extra t h is =
    too_many_from dir (self_sid dir number) (primary_of dir number) (first_groups dir number extra) t h is
