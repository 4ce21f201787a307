-- The drafts of all objects of the sample, one after the other.
use Rattle.std.proofs.Common.{◌≡◌, ◌∙◌, inl, inr, ℕ, zero, suc, ◌+◌, ◌*◌, ◌<◌, ◌≤◌, ◌==◌, Bool, true, false, nat_lt}
use Rattle.std.proofs.Common.{List, [], ◌∷◌, ◌++◌, length, append_assoc, Result, Ok, refl, sym, ap, arith}
use Rattle.std.specs.Prelude.{is_none, not, ◌||◌, ◌&&◌}
use Rattle.std.specs.List.{AllByRecursion, list_all}
use Rattle.std.proofs.lemmas.Bool.{cases_Bool, eqb-true, lt-ltb}
use Rattle.std.proofs.lemmas.List.{append-nil}
use Rattle.std.proofs.lemmas.List.Elements.{filter-append}
use Rattle.std.proofs.lemmas.List.Folds.{list_all-append}
use Rattle.ad_load_records.specs.Records.{Record}
use Rattle.ad_load_objects.specs.Drafts.{Draft}
use Rattle.ad_load_objects.specs.Through.{through}
use Rattle.ad_load_objects.specs.Objects.{by_parts, is_no_root, has_root, with_record, drafts_of}
use Rattle.ad_load_objects.proofs.Through.{first_through, none_through}
use Rattle.ad_gen_laws.specs.Plain.{Plain, next_at, record_at, records_from}
use Rattle.ad_gen_laws.specs.Base.{attributes, classes, rights, base, base_schema}
use Rattle.ad_gen_laws.specs.Sample.{domain, system, sd_holder, administrators, unit, user, users, units, objects}
use Rattle.ad_gen_laws.specs.Sample.{plains}
use Rattle.ad_gen_laws.specs.Drafts.{unit_line, user_line, domain_draft, user_draft, unit_drafts, users_of}
use Rattle.ad_gen_laws.specs.Drafts.{user_drafts, first_drafts, upper_drafts, drafts}
use Rattle.ad_gen_laws.proofs.Order.{has_parts, parts, sorted, records_few, plains_few, records_both, behind_all}
use Rattle.ad_gen_laws.proofs.Order.{IsDefinition, base_defines}
use Rattle.ad_gen_laws.proofs.Schema.{fixed_objects}
use Rattle.ad_gen_laws.proofs.Steps.{domain_step, system_step, administrators_step, unit_step, holder_step, user_step}

-- ---- one list after another

pub through_both : {S X E : Type 0} (step : S → X → Result S E) (s t : S) (xs ys : List X) → through step s xs ≡ Ok t
    → through step s (xs ++ ys) ≡ through step t ys
unfolding through
through_both step s t [] ys e = ap (λ u. through step u ys) (none_through step s t e)
through_both step s t (x ∷ xs) ys e =
    let first = first_through step s t x xs e in
    rw first.1 (through_both step first.0 t xs ys first.2)

parts_both : (m : ℕ) (k : ℕ) (ps qs : List Plain) → parts m (records_from k (ps ++ qs)) ≡ parts m (records_from k ps)
    ++ parts m (records_from (behind_all k ps) qs)
parts_both m k ps qs = ap (parts m) (records_both k ps qs) ∙ filter-append (has_parts m) (records_from k ps)
    (records_from (behind_all k ps) qs)

behind_both : (k : ℕ) (ps qs : List Plain) → behind_all k (ps ++ qs) ≡ behind_all (behind_all k ps) qs
unfolding behind_all
behind_both k [] qs = refl
behind_both k (p ∷ ps) qs = behind_both (next_at k p) ps qs

-- ---- where the records of units and users begin

behind_users : (k i j : ℕ) → behind_all k (users i j) ≡ k + 4 * j
unfolding behind_all users
behind_users k i zero = omega arith
behind_users k i (suc j) = behind_both k (users i j) (user i (suc j) ∷ [])
    ∙ (let e = behind_users k i j in omega (arith, e))

behind_units : (n : ℕ) → behind_all 287 (units n) ≡ unit_line n
unfolding behind_all units
behind_units zero = omega arith
behind_units (suc i) =
    behind_both 287 (units i) (unit i ∷ users i 10)
    ∙ ap (λ (k : ℕ). behind_all (next_at k (unit i)) (users i 10)) (behind_units i)
    ∙ behind_users (next_at (unit_line i) (unit i)) i 10
    ∙ omega arith

-- ---- records by the number of their parts

users_three : (m k i j : ℕ) → (3 == m) ≡ false → parts m (records_from k (users i j)) ≡ []
unfolding users records_from
users_three m k i zero other = refl
users_three m k i (suc j) other = parts_both m k (users i j) (user i (suc j) ∷ [])
    ∙ rw (users_three m k i j other, other) refl

units_not_one : (n : ℕ) → parts 1 (records_from 287 (units n)) ≡ []
unfolding units records_from
units_not_one zero = refl
units_not_one (suc i) =
    parts_both 1 287 (units i) (unit i ∷ users i 10)
    ∙ rw (units_not_one i) (users_three 1 (next_at (behind_all 287 (units i)) (unit i)) i 10 refl)

-- ---- units

units_taken : (n : ℕ) → n ≤ 1000 → through (with_record base_schema) first_drafts
    (parts 2 (records_from 287 (units n))) ≡ Ok (first_drafts ++ unit_drafts n)
unfolding through units records_from unit_drafts
units_taken zero few = refl
units_taken (suc i) few =
    ap (through (with_record base_schema) first_drafts) (parts_both 2 287 (units i) (unit i ∷ users i 10))
    ∙ through_both (with_record base_schema) first_drafts (first_drafts ++ unit_drafts i)
    (parts 2 (records_from 287 (units i)))
    (parts 2 (records_from (behind_all 287 (units i)) (unit i ∷ users i 10))) (units_taken i (omega (arith, few)))
    ∙ rw (behind_units i) (rw (users_three 2 (next_at (unit_line i) (unit i)) i 10 refl)
    (rw (unit_step i (omega (arith, few))) refl))

-- ---- users

users_taken : (n i j : ℕ) → n ≤ 1000 → i < n → j ≤ 10 → through (with_record base_schema)
    (upper_drafts n ++ user_drafts i) (parts 3 (records_from (next_at (unit_line i) (unit i)) (users i j)))
    ≡ Ok (upper_drafts n ++ (user_drafts i ++ users_of i j))
unfolding through users records_from users_of
users_taken n i zero few less least = ap (λ (ds : List Draft). Ok (upper_drafts n ++ ds))
    (sym (append-nil (user_drafts i)))
users_taken n i (suc j) few less least =
    let k = next_at (unit_line i) (unit i) in
    let line : behind_all k (users i j) ≡ user_line i (suc j) = behind_users k i j ∙ omega arith in
    let before = upper_drafts n ++ (user_drafts i ++ users_of i j) in
    let assoc : before ++ user_draft i (suc j) ∷ [] ≡ upper_drafts n
    ++ (user_drafts i ++ (users_of i j ++ user_draft i (suc j) ∷ []))
    = append_assoc (upper_drafts n) (user_drafts i ++ users_of i j) (user_draft i (suc j) ∷ [])
    ∙ ap (λ (ds : List Draft). upper_drafts n ++ ds)
    (append_assoc (user_drafts i) (users_of i j) (user_draft i (suc j) ∷ [])) in
    ap (through (with_record base_schema) (upper_drafts n ++ user_drafts i))
    (parts_both 3 k (users i j) (user i (suc j) ∷ []))
    ∙ through_both (with_record base_schema) (upper_drafts n ++ user_drafts i) before
    (parts 3 (records_from k (users i j)))
    (parts 3 (records_from (behind_all k (users i j)) (user i (suc j) ∷ [])))
    (users_taken n i j few less (omega (arith, least)))
    ∙ rw line (rw (user_step n i j few less (omega (arith, least))) (ap Ok assoc))

all_users_taken : (n i : ℕ) → n ≤ 1000 → i ≤ n → through (with_record base_schema) (upper_drafts n)
    (parts 3 (records_from 287 (units i))) ≡ Ok (upper_drafts n ++ user_drafts i)
unfolding through units records_from user_drafts
all_users_taken n zero few least = ap Ok (sym (append-nil (upper_drafts n)))
all_users_taken n (suc i) few least =
    ap (through (with_record base_schema) (upper_drafts n)) (parts_both 3 287 (units i) (unit i ∷ users i 10))
    ∙ through_both (with_record base_schema) (upper_drafts n) (upper_drafts n ++ user_drafts i)
    (parts 3 (records_from 287 (units i)))
    (parts 3 (records_from (behind_all 287 (units i)) (unit i ∷ users i 10)))
    (all_users_taken n i few (omega (arith, least)))
    ∙ rw (behind_units i) (users_taken n i 10 few (omega (arith, least)) (omega arith))

-- ---- what defines something is passed over

skipped : (ds : List Draft) (m k : ℕ) (ps : List Plain) → AllByRecursion IsDefinition ps
    → through (with_record base_schema) ds (parts m (records_from k ps)) ≡ Ok ds
unfolding through records_from with_record
skipped ds m k [] all = refl
skipped ds m k (p ∷ ps) all = elim (cases_Bool (has_parts m (record_at k p))) [
  | inl is ↦ rw is (rw (all.0 (k + 1)) (skipped ds m (next_at k p) ps all.1))
  | inr other ↦ rw other (skipped ds m (next_at k p) ps all.1)
]

base_behind : behind_all 1 base ≡ 270
unfolding behind_all base attributes classes rights
base_behind = refl

base_not_one : parts 1 (records_from 1 base) ≡ []
unfolding records_from base attributes classes rights
base_not_one = refl

parts_are : (m n : ℕ) → parts m (records_from 1 (plains n)) ≡ parts m (records_from 1 base)
    ++ parts m (records_from 270 (objects n))
parts_are m n = parts_both m 1 base (objects n)
    ∙ ap (λ (k : ℕ). parts m (records_from 1 base) ++ parts m (records_from k (objects n))) base_behind

two_are : (n : ℕ) → parts 2 (records_from 270 (objects n)) ≡ record_at 275 system ∷ record_at 282 administrators
    ∷ parts 2 (records_from 287 (units n))
unfolding records_from
two_are n = refl

three_are : (n : ℕ) → parts 3 (records_from 270 (objects n)) ≡ record_at 278 sd_holder
    ∷ parts 3 (records_from 287 (units n))
unfolding records_from
three_are n = refl

one_is : (n : ℕ) → parts 1 (records_from 1 (plains n)) ≡ record_at 270 domain ∷ []
unfolding records_from
one_is n = parts_are 1 n ∙ rw (base_not_one) (ap (λ (rs : List Record). record_at 270 domain ∷ rs) (units_not_one n))

two_taken : (n : ℕ) → n ≤ 1000 → through (with_record base_schema) (domain_draft ∷ [])
    (parts 2 (records_from 1 (plains n))) ≡ Ok (first_drafts ++ unit_drafts n)
unfolding through
two_taken n few =
    ap (through (with_record base_schema) (domain_draft ∷ [])) (parts_are 2 n)
    ∙ through_both (with_record base_schema) (domain_draft ∷ []) (domain_draft ∷ []) (parts 2 (records_from 1 base))
    (parts 2 (records_from 270 (objects n))) (skipped (domain_draft ∷ []) 2 1 base base_defines)
    ∙ ap (through (with_record base_schema) (domain_draft ∷ [])) (two_are n)
    ∙ rw system_step (rw administrators_step (units_taken n few))

three_taken : (n : ℕ) → n ≤ 1000 → through (with_record base_schema) (first_drafts ++ unit_drafts n)
    (parts 3 (records_from 1 (plains n))) ≡ Ok (drafts n)
unfolding through
three_taken n few =
    let before = first_drafts ++ unit_drafts n in
    ap (through (with_record base_schema) before) (parts_are 3 n)
    ∙ through_both (with_record base_schema) before before (parts 3 (records_from 1 base))
    (parts 3 (records_from 270 (objects n))) (skipped before 3 1 base base_defines)
    ∙ ap (through (with_record base_schema) before) (three_are n)
    ∙ rw (holder_step n) (all_users_taken n n few (omega arith))

-- ---- the root

no_others : (m : ℕ) (rs : List Record) → 1 < m → list_all (is_no_root (record_at 270 domain)) (parts m rs) ≡ true
no_others m [] more = refl
no_others m (r ∷ rs) more = elim (cases_Bool (has_parts m r)) [
  | inl is ↦
      let longer : nat_lt 1 (length r.rdns) ≡ true
      = (let e = eqb-true (length r.rdns) m is in lt-ltb 1 (length r.rdns) (omega (arith, e, more))) in
      rw is (rw longer (rw (no_others m rs more) (either (is_none r.kind))))
  | inr other ↦ rw other (no_others m rs more)
]
  where
    either : (b : Bool) → ((not b || true) && true) ≡ true
    either true = refl
    either false = refl

order : (n : ℕ) → by_parts (records_from 1 (plains n)) ≡ record_at 270 domain
    ∷ (parts 2 (records_from 1 (plains n)) ++ parts 3 (records_from 1 (plains n)))
order n = sorted (records_from 1 (plains n)) (records_few 1 (plains n) (plains_few n)) ∙ rw (one_is n) refl

rooted : (n : ℕ) → has_root (by_parts (records_from 1 (plains n))) ≡ true
unfolding has_root
rooted n =
    let rs = records_from 1 (plains n) in
    ap has_root (order n)
    ∙ rw (fixed_objects.0 271)
    (list_all-append (is_no_root (record_at 270 domain)) (parts 2 rs) (parts 3 rs)
    ∙ rw (no_others 2 rs (omega arith), no_others 3 rs (omega arith)) refl)

pub drafts_are : (n : ℕ) → n ≤ 1000 → drafts_of base_schema (records_from 1 (plains n)) ≡ Ok (drafts n)
unfolding drafts_of through
drafts_are n few =
    let rs = records_from 1 (plains n) in
    rw (rooted n) (ap (through (with_record base_schema) []) (order n)
    ∙ rw domain_step (through_both (with_record base_schema) (domain_draft ∷ []) (first_drafts ++ unit_drafts n)
    (parts 2 rs) (parts 3 rs) (two_taken n few) ∙ three_taken n few))
