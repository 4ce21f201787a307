-- Lists of identities.
use Rattle.std.proofs.Common.{◌≡◌, ℕ, ◌+◌, ◌<◌, Bool, true, List, [], ◌∷◌, ◌++◌, length, get_or, take, map}
use Rattle.std.proofs.Common.{Option, Some, None, inl, inr, refl, sym, ap, subst, ◌∙◌}
use Rattle.std.specs.Prelude.{nat_eq, filter, filter_map, is_some}
use Rattle.std.specs.List.{AllByRecursion, list_any}
use Rattle.std.proofs.lemmas.Bool.{cases_Bool, false≢true, or_cases, or_left, or_right, eqb-true}
use Rattle.std.proofs.lemmas.List.{append_assoc, take_more}
use Rattle.std.proofs.lemmas.List.Elements.{filter_map-append, filter_passes, recursion_from_All}
use Rattle.std.proofs.lemmas.List.Folds.{list_any-append}
use Rattle.ad_ids.specs.SidValue.{SidValue, same_sid, contains_sid, same_sid_laws}
use Rattle.ad_dir_model.specs.Objects.{numbers}
use Rattle.ad_dir_model.specs.Identity.{self_sid}
use Rattle.ad_dir_model.specs.Directory.{Directory}
use Rattle.ad_dir_model.specs.Protection.{has}
use Rattle.ad_principals.specs.Groups.{is_principal, principals}
use Rattle.ad_principals.specs.Tokens.{SidsRise}
use Rattle.ad_principals.proofs.Identified.{has_numbers, principal_has, principal_live}
use Rattle.ad_identities.specs.declared.identity.Identity.{Identity}
use Rattle.ad_identities.specs.Identities.{is_without_principal, identity_at, lone, IsIdentity, AreIdentities, is_of}

-- ---- one more

pub one_more : {X Y : Type 0} (f : X → Option Y) (xs : List X) (i : ℕ) (d : X) (first old new : List Y) → i < length xs
    → old ≡ first ++ filter_map f (take i xs) → new ≡ old ++ filter_map f (get_or xs i d ∷ [])
    → new ≡ first ++ filter_map f (take (i + 1) xs)
one_more f xs i d first old new less before one =
    one ∙ ap (λ l. l ++ filter_map f (get_or xs i d ∷ [])) before
    ∙ append_assoc first (filter_map f (take i xs)) (filter_map f (get_or xs i d ∷ []))
    ∙ ap (λ l. first ++ l) (sym (filter_map-append f (take i xs) (get_or xs i d ∷ []))
    ∙ ap (filter_map f) (sym (take_more xs i d less)))

-- ---- each is an identity

of_principals : (dir : Directory) (ns : List ℕ) → AllByRecursion (λ (n : ℕ). is_principal dir n ≡ true) ns
    → AllByRecursion (IsIdentity dir) (filter_map (identity_at dir) ns)
of_principals dir [] all = tt
of_principals dir (n ∷ ns) all = by_sid (self_sid dir n) refl (of_principals dir ns all.1)
  where
    by_sid : (sid : Option SidValue) → self_sid dir n ≡ sid
        → AllByRecursion (IsIdentity dir) (filter_map (identity_at dir) ns)
        → AllByRecursion (IsIdentity dir) (filter_map (identity_at dir) (n ∷ ns))
    by_sid None e others = rw e others
    by_sid (Some sid) e others = rw e ((all.0, e), others)

of_lone : (dir : Directory) (sids : List SidValue)
    → ((sid : SidValue) → contains_sid sids sid ≡ true → is_without_principal dir sid ≡ true)
    → AllByRecursion (IsIdentity dir) (map lone sids)
of_lone dir [] each = tt
of_lone dir (x ∷ xs) each = (
  each x (or_left (same_sid x x) (contains_sid xs x) (same_sid_laws.refl x)),
  of_lone dir xs (λ sid is. each sid (or_right (same_sid x sid) (contains_sid xs sid) is)),
)

both_all : {X : Type 0} (P : X → Type 0) (xs ys : List X) → AllByRecursion P xs → AllByRecursion P ys
    → AllByRecursion P (xs ++ ys)
both_all P [] ys one other = other
both_all P (x ∷ xs) ys one other = (one.0, both_all P xs ys one.1 other)

pub all_identities : (dir : Directory) (all : List Identity) → AreIdentities dir all
    → AllByRecursion (IsIdentity dir) all
all_identities dir all are =
    subst (AllByRecursion (IsIdentity dir)) (sym are.are)
    (both_all (IsIdentity dir) (filter_map (identity_at dir) (principals dir)) (map lone are.others)
    (of_principals dir (principals dir) (recursion_from_All (λ (n : ℕ). is_principal dir n ≡ true) (principals dir)
    (filter_passes (is_principal dir) (numbers dir.objects))))
    (of_lone dir are.others (λ sid is. sym (are.each sid) ∙ is)))

-- what was put, first those of all principals and then the others
pub are_listed : (dir : Directory) (sids ss : List SidValue) (ns : List ℕ) (none first all : List Identity) → none ≡ []
    → ns ≡ principals dir → ss ≡ sids → SidsRise sids
    → ((sid : SidValue) → contains_sid sids sid ≡ is_without_principal dir sid)
    → first ≡ none ++ filter_map (identity_at dir) ns → all ≡ first ++ map lone ss → AreIdentities dir all
are_listed dir sids ss ns none first all empty of_principals of_sids rise each one other = record {
  others = sids;
  rise = rise;
  each = each;
  are = other
      ∙ ap (λ (l : List Identity). l ++ map lone ss)
      (one ∙ ap (λ (l : List Identity). l ++ filter_map (identity_at dir) ns) empty
      ∙ ap (filter_map (identity_at dir)) of_principals)
      ∙ ap (λ (l : List SidValue). filter_map (identity_at dir) (principals dir) ++ map lone l) of_sids;
}

-- ---- each principal is listed

kept : (test : ℕ → Bool) (ns : List ℕ) (n : ℕ) → has ns n ≡ true → test n ≡ true → has (filter test ns) n ≡ true
kept test [] n there is = there
kept test (m ∷ ms) n there is = elim (or_cases (nat_eq m n) (has ms n) there) [
  | inl here ↦
      let stays : test m ≡ true = ap test (eqb-true m n here) ∙ is in
      rw stays (or_left (nat_eq m n) (has (filter test ms) n) here)
  | inr behind ↦ elim (cases_Bool (test m)) [
    | inl stays ↦ rw stays (or_right (nat_eq m n) (has (filter test ms) n) (kept test ms n behind is))
    | inr goes ↦ rw goes (kept test ms n behind is)
  ]
]

found_of : (dir : Directory) (n : ℕ) (ns : List ℕ) → has ns n ≡ true → is_some (self_sid dir n) ≡ true
    → list_any (is_of n) (filter_map (identity_at dir) ns) ≡ true
found_of dir n [] there some = absurd (false≢true there)
found_of dir n (m ∷ ms) there some = by_sid (λ behind. found_of dir n ms behind some) (self_sid dir m) refl
  where
    by_sid : (has ms n ≡ true → list_any (is_of n) (filter_map (identity_at dir) ms) ≡ true) → (sid : Option SidValue)
        → self_sid dir m ≡ sid → list_any (is_of n) (filter_map (identity_at dir) (m ∷ ms)) ≡ true
    by_sid others None e = rw e (elim (or_cases (nat_eq m n) (has ms n) there) [
      | inl here ↦ absurd (false≢true (sym (ap is_some (ap (self_sid dir) (sym (eqb-true m n here)) ∙ e)) ∙ some))
      | inr behind ↦ others behind
    ])
    by_sid others (Some sid) e = rw e (elim (or_cases (nat_eq m n) (has ms n) there) [
      | inl here ↦ or_left (nat_eq m n) (list_any (is_of n) (filter_map (identity_at dir) ms)) here
      | inr behind ↦ or_right (nat_eq m n) (list_any (is_of n) (filter_map (identity_at dir) ms))
          (others behind)
    ])

pub principal_listed : (dir : Directory) (all : List Identity) (n : ℕ) → AreIdentities dir all
    → is_principal dir n ≡ true → list_any (is_of n) all ≡ true
principal_listed dir all n are is =
    let there : has (principals dir) n ≡ true = kept (is_principal dir) (numbers dir.objects) n
    (has_numbers dir.objects n ∙ principal_live dir n is) is in
    ap (list_any (is_of n)) are.are
    ∙ list_any-append (is_of n) (filter_map (identity_at dir) (principals dir)) (map lone are.others)
    ∙ or_left (list_any (is_of n) (filter_map (identity_at dir) (principals dir)))
    (list_any (is_of n) (map lone are.others)) (found_of dir n (principals dir) there (principal_has dir n is))
