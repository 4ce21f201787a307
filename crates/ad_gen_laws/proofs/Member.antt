-- The one link of the sample: the member of the administrators.
use Rattle.std.proofs.Common.{◌≡◌, ◌∙◌, inl, inr, None, ℕ, zero, suc, ◌+◌, ◌||◌, Bool, true, false, Option, Some}
use Rattle.std.proofs.Common.{List, [], ◌∷◌, ◌++◌, length, length-append, refl, sym, ap, arith, codes}
use Rattle.std.specs.List.{list_any, position}
use Rattle.std.specs.Prelude.{option_map}
use Rattle.std.proofs.lemmas.Bool.{cases_Bool}
use Rattle.std.proofs.lemmas.List.Folds.{list_any-append}
use Rattle.ad_schema_classes.proofs.IndexLemmas.{position_here, position_next}
use Rattle.ad_dn.specs.Fold.{folded}
use Rattle.ad_dir_model.specs.Names.{same_folded}
use Rattle.ad_load_objects.specs.Drafts.{Draft, same_names, has_name, number_named}
use Rattle.ad_gen_laws.specs.Sample.{user_name, user}
use Rattle.ad_gen_laws.specs.Drafts.{unit_draft, unit_drafts, user_draft, users_of, user_drafts, upper_drafts, drafts}
use Rattle.ad_gen_laws.specs.Drafts.{sd_holder_draft}
use Rattle.ad_gen_laws.proofs.Differ.{words_fold}
use Rattle.ad_gen_laws.proofs.Free.{apart, first_of, names_same}
use Rattle.ad_gen_laws.proofs.Found.{units_many}
use Rattle.ad_gen_laws.proofs.Units.{user_word}

both_false : (a b : Bool) → (a || b) ≡ false → (a ≡ false) × (b ≡ false)
both_false true b e = absurd cc
both_false false b e = (refl, e)

position_after : {A : Type 0} (p : A → Bool) (xs ys : List A) (k : ℕ) → list_any p xs ≡ false → position p ys ≡ Some k
    → position p (xs ++ ys) ≡ Some (length xs + k)
position_after p [] ys k none is = is ∙ ap Some (omega arith)
position_after p (x ∷ xs) ys k none is =
    let parts = both_false (p x) (list_any p xs) none in
    position_next p x (xs ++ ys) parts.0 ∙ ap (option_map (λ k. suc k)) (position_after p xs ys k parts.1 is)
    ∙ ap Some (omega arith)

abbrev is_member : Draft → Bool
is_member draft = has_name (user 0 1).rdns draft

no_member_unit : (n : ℕ) → list_any is_member (unit_drafts n) ≡ false
unfolding unit_drafts same_names
no_member_unit zero = refl
no_member_unit (suc n) = list_any-append is_member (unit_drafts n) (unit_draft n ∷ []) ∙ rw (no_member_unit n) refl

other_name : (w : List ℕ) → (folded w ≡ folded (user_name 0 1) → ⊥) → same_folded w (user_name 0 1) ≡ false
other_name w differ = apart w (user_name 0 1) differ

system_other : same_folded (codes "System") (user_name 0 1) ≡ false
system_other = other_name (codes "System")
    (λ e. let first : 115 ≡ 117 = ap first_of
    (words_fold (codes "System") (user_name 0 1) refl (user_word 0 1 (omega arith) (omega arith)) e)
    in omega (arith, first))

administrators_other : same_folded (codes "Administrators") (user_name 0 1) ≡ false
administrators_other = other_name (codes "Administrators")
    (λ e. let first : 97 ≡ 117 = ap first_of
    (words_fold (codes "Administrators") (user_name 0 1) refl (user_word 0 1 (omega arith) (omega arith)) e)
    in omega (arith, first))

holder_other : same_folded (codes "AdminSDHolder") (user_name 0 1) ≡ false
holder_other = other_name (codes "AdminSDHolder")
    (λ e. let first : 97 ≡ 117 = ap first_of
    (words_fold (codes "AdminSDHolder") (user_name 0 1) refl (user_word 0 1 (omega arith) (omega arith)) e)
    in omega (arith, first))

no_member_above : (n : ℕ) → list_any is_member (upper_drafts n) ≡ false
unfolding same_names
no_member_above n =
    rw (system_other, administrators_other)
    (list_any-append is_member (unit_drafts n) (sd_holder_draft ∷ []) ∙ rw (no_member_unit n, holder_other) refl)

position_front : {A : Type 0} (p : A → Bool) (xs ys : List A) → position p xs ≡ Some 0 → position p (xs ++ ys) ≡ Some 0
position_front p [] ys is = absurd cc
position_front p (x ∷ xs) ys is = elim (cases_Bool (p x)) [
  | inl here ↦ position_here p x (xs ++ ys) here
  | inr other ↦ absurd (none_first (position p xs) (sym (position_next p x xs other) ∙ is))
]
  where
    none_first : (o : Option ℕ) → option_map (λ k. suc k) o ≡ Some 0 → ⊥
    none_first None e = cc
    none_first (Some k) e = cc

member_first : (n : ℕ) → position is_member (user_drafts (suc n)) ≡ Some 0
unfolding user_drafts users_of
member_first zero = position_here is_member (user_draft 0 1) (user_draft 0 2 ∷ user_draft 0 3 ∷ user_draft 0 4
    ∷ user_draft 0 5 ∷ user_draft 0 6 ∷ user_draft 0 7 ∷ user_draft 0 8 ∷ user_draft 0 9 ∷ user_draft 0 10 ∷ [])
    (names_same (user 0 1).rdns)
member_first (suc n) = position_front is_member (user_drafts (suc n)) (users_of (suc n) 10) (member_first n)

pub member_found : (n : ℕ) → number_named (drafts (suc n)) (user 0 1).rdns ≡ Some (suc n + 5)
unfolding number_named
member_found n =
    let place = position_after is_member (upper_drafts (suc n)) (user_drafts (suc n)) 0 (no_member_above (suc n))
    (member_first n) in
    let many = units_many (suc n) in
    let more = length-append (unit_drafts (suc n)) (sd_holder_draft ∷ []) in
    ap (option_map (λ place. place + 1)) place ∙ ap Some (omega (arith, many, more))
