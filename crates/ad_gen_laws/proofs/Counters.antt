-- The counters of the sample.
use Rattle.std.proofs.Common.{◌≡◌, ◌∙◌, inl, inr, ℕ, zero, suc, ◌+◌, ◌*◌, ◌<◌, ◌≤◌, nat_lt, List, [], ◌∷◌, ◌++◌}
use Rattle.std.proofs.Common.{length, length-append, Option, Some, None, refl, ap, arith}
use Rattle.std.specs.Option.{option_and_then}
use Rattle.std.proofs.lemmas.Bool.{eq-eqb, cases_Bool, ltb-true}
use Rattle.ad_ids.specs.SidValue.{SidValue}
use Rattle.ad_gen.specs.Frames.{in_domain, builtin_administrators}
use Rattle.ad_load_objects.specs.Drafts.{Draft, draft_sid}
use Rattle.ad_load.specs.Links.{rid_of, above, above_all, next_rid, meta_of}
use Rattle.ad_gen_laws.specs.Base.{base_schema}
use Rattle.ad_gen_laws.specs.Drafts.{domain_sid, unit_draft, sd_holder_draft, user_draft, unit_drafts, users_of}
use Rattle.ad_gen_laws.specs.Drafts.{user_drafts, upper_drafts, drafts, domain_draft, system_draft}
use Rattle.ad_gen_laws.specs.Drafts.{administrators_draft}
use Rattle.ad_gen_laws.specs.Before.{sample_meta}
use Rattle.ad_gen_laws.proofs.Sids.{domain_has, system_sid, administrators_have, unit_sid, holder_sid, user_sid}
use Rattle.ad_gen_laws.proofs.Found.{units_many}

abbrev top : ℕ → List Draft → ℕ
top n ds = above_all base_schema domain_sid n ds

top_both : (n : ℕ) (ds es : List Draft) → top n (ds ++ es) ≡ top (top n ds) es
unfolding above_all
top_both n [] es = refl
top_both n (d ∷ ds) es = top_both (above n (option_and_then (rid_of domain_sid) (draft_sid base_schema d))) ds es

top_units : (n i : ℕ) → top n (unit_drafts i) ≡ n
unfolding above_all unit_drafts
top_units n zero = refl
top_units n (suc i) = top_both n (unit_drafts i) (unit_draft i ∷ []) ∙ rw (top_units n i, unit_sid i) refl

rid_is : (rid : ℕ) → rid_of domain_sid (in_domain rid) ≡ Some rid
unfolding rid_of
rid_is rid = rw (eq-eqb rid rid refl) refl

above_is : (n rid : ℕ) → n ≤ rid → above n (Some rid) ≡ rid + 1
above_is n rid least = elim (cases_Bool (nat_lt rid n)) [
  | inl less ↦ let more = ltb-true rid n less in absurd (omega (arith, more, least))
  | inr other ↦ rw other refl
]

top_user : (n i j : ℕ) → i < 1000 → j ≤ 10 → n ≤ 1000 + 10 * i + j → top n (user_draft i j ∷ []) ≡ 1000 + 10 * i + j + 1
unfolding above_all
top_user n i j few least less = rw (user_sid i j few least)
    (rw (rid_is (1000 + 10 * i + j)) (above_is n (1000 + 10 * i + j) less))

top_users : (n i j : ℕ) → i < 1000 → suc j ≤ 10 → n ≤ 1001 + 10 * i → top n (users_of i (suc j)) ≡ 1000 + 10 * i
    + suc j + 1
unfolding users_of above_all
top_users n i zero few least less = top_user n i 1 few (omega arith) (omega (arith, less))
top_users n i (suc j) few least less =
    let before = top_users n i j few (omega (arith, least)) less in
    top_both n (users_of i (suc j)) (user_draft i (suc (suc j)) ∷ [])
    ∙ ap (λ (m : ℕ). top m (user_draft i (suc (suc j)) ∷ [])) before
    ∙ top_user (1000 + 10 * i + suc j + 1) i (suc (suc j)) few least (omega arith)

top_all : (n : ℕ) → n < 1000 → top 1000 (user_drafts (suc n)) ≡ 10 * suc n + 1001
unfolding user_drafts above_all
top_all zero few = top_users 1000 0 9 (omega arith) (omega arith) (omega arith)
top_all (suc n) few =
    let before = top_all n (omega (arith, few)) in
    top_both 1000 (user_drafts (suc n)) (users_of (suc n) 10)
    ∙ ap (λ (m : ℕ). top m (users_of (suc n) 10)) before
    ∙ top_users (10 * suc n + 1001) (suc n) 9 few (omega arith) (omega arith)
    ∙ omega arith

one_top : (n : ℕ) (d : Draft) (ds : List Draft) (o : Option SidValue) → draft_sid base_schema d ≡ o → top n (d ∷ ds)
    ≡ top (above n (option_and_then (rid_of domain_sid) o)) ds
unfolding above_all
one_top n d ds o e = ap (λ (s : Option SidValue). top (above n (option_and_then (rid_of domain_sid) s)) ds) e

top_upper : (n : ℕ) → top 1000 (upper_drafts n) ≡ 1000
unfolding above_all rid_of
top_upper n =
    let behind = unit_drafts n ++ sd_holder_draft ∷ [] in
    one_top 1000 domain_draft (system_draft ∷ administrators_draft ∷ behind) (Some domain_sid) domain_has
    ∙ one_top 1000 system_draft (administrators_draft ∷ behind) None system_sid
    ∙ one_top 1000 administrators_draft behind (Some builtin_administrators) administrators_have
    ∙ top_both 1000 (unit_drafts n) (sd_holder_draft ∷ [])
    ∙ ap (λ (m : ℕ). top m (sd_holder_draft ∷ [])) (top_units 1000 n)
    ∙ one_top 1000 sd_holder_draft [] None holder_sid

rid_next : (n : ℕ) → n < 1000 → next_rid base_schema (draft_sid base_schema domain_draft) (drafts (suc n))
    ≡ 10 * suc n + 1001
unfolding next_rid
rid_next n few =
    rw domain_has (top_both 1000 (upper_drafts (suc n)) (user_drafts (suc n)) ∙ rw (top_upper (suc n)) (top_all n few))

users_count : (i j : ℕ) → length (users_of i j) ≡ j
unfolding users_of
users_count i zero = refl
users_count i (suc j) = length-append (users_of i j) (user_draft i (suc j) ∷ [])
    ∙ (let e = users_count i j in omega (arith, e))

all_count : (n : ℕ) → length (user_drafts n) ≡ 10 * n
unfolding user_drafts
all_count zero = refl
all_count (suc n) = length-append (user_drafts n) (users_of n 10)
    ∙ (let e = all_count n in let f = users_count n 10 in omega (arith, e, f))

pub drafts_count : (n : ℕ) → length (drafts n) ≡ 11 * n + 4
drafts_count n =
    let a = units_many n in
    let b = length-append (unit_drafts n) (sd_holder_draft ∷ []) in
    let c = length-append (upper_drafts n) (user_drafts n) in
    let d = all_count n in
    omega (arith, a, b, c, d)

pub meta_is : (n : ℕ) → n < 1000 → meta_of base_schema (drafts (suc n)) ≡ sample_meta (suc n)
unfolding meta_of
meta_is n few =
    let count = drafts_count (suc n) in
    let number : length (drafts (suc n)) + 1 ≡ 11 * suc n + 5 = omega (arith, count) in
    rw number (rw (rid_next n few) refl)
