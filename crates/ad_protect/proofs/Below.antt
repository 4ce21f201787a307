-- Identifiers right below another one.
use Rattle.std.proofs.Common.{◌≡◌, ℕ, ◌+◌, ◌-◌, true, false, List, [], ◌∷◌, ◌++◌, length, Option, Some, None, inl}
use Rattle.std.proofs.Common.{inr, refl, sym, subst, ap, ◌∙◌, length-append, arith}
use Rattle.std.specs.Prelude.{nat_eq, nat_lt, slice_get}
use Rattle.std.specs.Option.{option_map_or, option_and_then}
use Rattle.std.specs.Str.{bytes_eq}
use Rattle.std.proofs.lemmas.Bool.{eqb-true, eqb-false, cases_Bool, false≢true, and_parts, false_from_ne_true}
use Rattle.std.proofs.lemmas.Option.{same_Some}
use Rattle.std.proofs.lemmas.Slice.Eq.{bytes_eq-Decides}
use Rattle.ad_ids.specs.SidValue.{SidValue, same_sid}
use Rattle.ad_ids.specs.SidChild.{child_of}
use Rattle.ad_dir_model.specs.Tree.{root}
use Rattle.ad_dir_model.specs.Identity.{self_sid, domain_sid, domain_child, is_sid}
use Rattle.ad_dir_model.specs.Directory.{Directory}
use Rattle.ad_dir_model.specs.Protection.{is_of_domain}
use Rattle.ad_protect.specs.Spreading.{is_below}

at_end : (xs : List ℕ) (n : ℕ) → slice_get (xs ++ n ∷ []) (length xs) ≡ Some n
at_end [] n = refl
at_end (x ∷ xs) n = at_end xs n

last_of : (xs : List ℕ) (n : ℕ) → slice_get (xs ++ n ∷ []) (length (xs ++ n ∷ []) - 1) ≡ Some n
last_of xs n =
    let long : length (xs ++ n ∷ []) ≡ length xs + 1 = length-append xs (n ∷ []) in
    let place : length (xs ++ n ∷ []) - 1 ≡ length xs = omega (arith, long) in
    ap (slice_get (xs ++ n ∷ [])) place ∙ at_end xs n

-- then this is its last number
below_last : (above sid : SidValue) (n : ℕ) → is_below above sid n ≡ true → slice_get sid.sub_authorities
    (length sid.sub_authorities - 1) ≡ Some n
below_last above sid n is =
    elim (cases_Bool (nat_lt (length above.sub_authorities) 15)) [
      | inl room ↦
          let same : same_sid sid (record {
            authority = above.authority;
            sub_authorities = above.sub_authorities ++ n
                ∷ [];
          }) ≡ true = rw room at is in
          let parts = and_parts (nat_eq sid.authority above.authority)
          (bytes_eq sid.sub_authorities (above.sub_authorities ++ n ∷ [])) same in
          let words : sid.sub_authorities ≡ above.sub_authorities ++ n ∷ []
          = (bytes_eq-Decides sid.sub_authorities (above.sub_authorities ++ n ∷ [])).0 parts.1 in
          rw words (last_of above.sub_authorities n)
      | inr full ↦ absurd (false≢true (rw full at is))
    ]

-- only its last number may be the one
pub below_same : (above sid : SidValue) (number n : ℕ) → slice_get sid.sub_authorities
    (length sid.sub_authorities - 1) ≡ Some number
    → is_below above sid number ≡ true → is_below above sid n ≡ nat_eq number n
below_same above sid number n last is =
    elim (cases_Bool (nat_eq number n)) [
      | inl same ↦ rw same (subst (λ (k : ℕ). is_below above sid k ≡ true) (eqb-true number n same) is)
      | inr apart ↦ rw apart (false_from_ne_true (is_below above sid n) (λ other.
          eqb-false number n apart (same_Some number n (sym last ∙ below_last above sid n other))))
    ]

pub below_not : (above sid : SidValue) (number n : ℕ) → slice_get sid.sub_authorities (length sid.sub_authorities - 1)
    ≡ Some number
    → is_below above sid number ≡ false → is_below above sid n ≡ false
below_not above sid number n last is_not =
    false_from_ne_true (is_below above sid n) (λ other.
    let same : number ≡ n = same_Some number n (sym last ∙ below_last above sid n other) in
    false≢true (sym is_not ∙ subst (λ (k : ℕ). is_below above sid k ≡ true) (sym same) other))

-- ---- the domain's

pub of_domain : (dir : Directory) (number rid : ℕ) (domain sid : SidValue) → self_sid dir root ≡ Some domain
    → self_sid dir number ≡ Some sid
    → is_of_domain dir (self_sid dir number) rid ≡ is_below domain sid rid
unfolding domain_child domain_sid
of_domain dir number rid domain sid above own =
    ap (λ (s : Option SidValue). option_map_or (λ (x : SidValue). is_sid x s)
    (option_and_then (λ (d : SidValue). child_of d rid) (self_sid dir root)) false) own
    ∙ ap (λ (d : Option SidValue). option_map_or (λ (x : SidValue). is_sid x (Some sid))
    (option_and_then (λ (y : SidValue). child_of y rid) d) false) above

pub no_domain : (dir : Directory) (number rid : ℕ) → self_sid dir root ≡ None → is_of_domain dir (self_sid dir number)
    rid ≡ false
unfolding domain_child domain_sid
no_domain dir number rid none =
    ap (λ (d : Option SidValue). option_map_or (λ (x : SidValue). is_sid x (self_sid dir number))
    (option_and_then (λ (y : SidValue). child_of y rid) d) false) none
