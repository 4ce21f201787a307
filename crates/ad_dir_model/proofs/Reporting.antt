-- Which parent is the first bad one of a pending list: one, and none of a sound directory's.
use Rattle.std.proofs.Common.{◌≡◌, ℕ, zero, suc, ◌<◌, ◌≤◌, Bool, true, false, List, [], ◌∷◌, ◌++◌, Option, Some, None}
use Rattle.std.proofs.Common.{◌⊎◌, inl, inr, refl, sym, subst, ap, arith, ◌∙◌}
use Rattle.std.specs.Prelude.{nat_eq, ◌||◌}
use Rattle.std.specs.List.{AllByRecursion, list_any}
use Rattle.std.proofs.lemmas.Bool.{cases_order, both_ways, or_parts, or_from, or_cases, or_left, or_right, false≢true}
use Rattle.std.proofs.lemmas.Bool.{eqb-true, eqb-false, ne_eqb}
use Rattle.std.proofs.lemmas.List.{append-nil, append_assoc}
use Rattle.prop_queue.specs.declared.pending.Pending.{Pending}
use Rattle.prop_queue.specs.Pending.{is_of, is_pending, AreDistinct}
use Rattle.ad_dir_model.specs.Object.{Object}
use Rattle.ad_dir_model.specs.Objects.{object_of, is_live}
use Rattle.ad_dir_model.specs.Directory.{Directory}
use Rattle.ad_dir_model.specs.Soundness.{IsPendingLive, IsSound}
use Rattle.ad_dir_model.specs.Opening.{IsFirstBadPending}

-- ---- entries at a place

live_there : (dir : Directory) (before : List Pending) (entry : Pending) (behind : List Pending)
    → AllByRecursion (IsPendingLive dir) (before ++ entry ∷ behind) → is_live dir.objects entry.parent ≡ true
live_there dir [] entry behind all = all.0
live_there dir (e ∷ es) entry behind all = live_there dir es entry behind all.1

pending_behind : (parent : ℕ) (before : List Pending) (entry : Pending) (behind : List Pending)
    → is_pending parent (before ++ entry ∷ behind) ≡ false → is_of parent entry ≡ false
pending_behind parent [] entry behind none = (or_parts (is_of parent entry) (is_pending parent behind) none).0
pending_behind parent (e ∷ es) entry behind none = pending_behind parent es entry behind
    (or_parts (is_of parent e) (is_pending parent (es ++ entry ∷ behind)) none).1

-- no entry's parent stands before it
not_before : (before : List Pending) (entry : Pending) (behind : List Pending)
    → AreDistinct (before ++ entry ∷ behind) → is_pending entry.parent before ≡ false
not_before [] entry behind distinct = refl
not_before (e ∷ es) entry behind distinct =
    let apart : is_of e.parent entry ≡ false = pending_behind e.parent es entry behind distinct.0 in
    or_from (is_of entry.parent e) (is_pending entry.parent es)
    (ne_eqb e.parent entry.parent (λ (same : e.parent ≡ entry.parent). eqb-false entry.parent e.parent apart
    (sym same))) (not_before es entry behind distinct.1)

-- ---- none of a sound one

pub not_bad : (dir : Directory) (number : ℕ) → IsSound dir → IsFirstBadPending dir number → ⊥
not_bad dir number sound bad =
    let live : is_live dir.objects bad.entry.parent ≡ true = live_there dir bad.before bad.entry bad.behind
    (subst (AllByRecursion (IsPendingLive dir)) bad.parts sound.live) in
    let apart : is_pending bad.entry.parent bad.before ≡ false = not_before bad.before bad.entry bad.behind
    (subst AreDistinct bad.parts sound.distinct) in
    elim bad.bad [
      | inl not_live ↦ both_ways (is_live dir.objects bad.entry.parent) (rw bad.parent not_live) live
      | inr before ↦ both_ways (is_pending bad.entry.parent bad.before) apart (rw bad.parent before)
    ]

-- ---- the first bad entry

-- after what was seen, an entry that is bad can't be among those that are live and distinct
bad_among : (dir : Directory) (seen : List Pending) (entry : Pending) (rest : List Pending)
    → AllByRecursion (IsPendingLive dir) (entry ∷ rest) → AreDistinct (seen ++ entry ∷ rest)
    → (is_live dir.objects entry.parent ≡ false) ⊎ (is_pending entry.parent seen ≡ true) → ⊥
bad_among dir seen entry rest live distinct (inl not_live) = both_ways (is_live dir.objects entry.parent) not_live
    live.0
bad_among dir seen entry rest live distinct (inr there) = both_ways (is_pending entry.parent seen)
    (not_before seen entry rest distinct) there

same_head : (x y : Pending) (xs ys : List Pending) → x ∷ xs ≡ y ∷ ys → x ≡ y
same_head x y xs ys same = cc

same_tail : (x y : Pending) (xs ys : List Pending) → x ∷ xs ≡ y ∷ ys → xs ≡ ys
same_tail x y xs ys same = cc

more_seen : (seen : List Pending) (e : Pending) (rest : List Pending) → (seen ++ e ∷ []) ++ rest ≡ seen ++ e ∷ rest
more_seen seen e rest = append_assoc seen (e ∷ []) rest

first_same : (dir : Directory) (seen xs ys : List Pending) (e f : Pending) (es fs : List Pending) → xs ++ e ∷ es ≡ ys
    ++ f ∷ fs
    → AllByRecursion (IsPendingLive dir) xs → AllByRecursion (IsPendingLive dir) ys → AreDistinct (seen ++ xs)
    → AreDistinct (seen ++ ys)
    → (is_live dir.objects e.parent ≡ false) ⊎ (is_pending e.parent (seen ++ xs) ≡ true)
    → (is_live dir.objects f.parent ≡ false) ⊎ (is_pending f.parent (seen ++ ys) ≡ true) → e ≡ f
first_same dir seen [] [] e f es fs same live_x live_y distinct_x distinct_y bad_e bad_f = same_head e f es fs same
first_same dir seen [] (y ∷ ys) e f es fs same live_x live_y distinct_x distinct_y bad_e bad_f =
    let first : e ≡ y = same_head e y es (ys ++ f ∷ fs) same in
    let bad : (is_live dir.objects y.parent ≡ false) ⊎ (is_pending y.parent seen ≡ true)
    = subst (λ (x : Pending). (is_live dir.objects x.parent ≡ false) ⊎ (is_pending x.parent seen ≡ true)) first
    (subst (λ (list : List Pending). (is_live dir.objects e.parent ≡ false) ⊎ (is_pending e.parent list ≡ true))
    (append-nil seen) bad_e) in
    absurd (bad_among dir seen y ys live_y distinct_y bad)
first_same dir seen (x ∷ xs) [] e f es fs same live_x live_y distinct_x distinct_y bad_e bad_f =
    let first : f ≡ x = sym (same_head x f (xs ++ e ∷ es) fs same) in
    let bad : (is_live dir.objects x.parent ≡ false) ⊎ (is_pending x.parent seen ≡ true)
    = subst (λ (z : Pending). (is_live dir.objects z.parent ≡ false) ⊎ (is_pending z.parent seen ≡ true)) first
    (subst (λ (list : List Pending). (is_live dir.objects f.parent ≡ false) ⊎ (is_pending f.parent list ≡ true))
    (append-nil seen) bad_f) in
    absurd (bad_among dir seen x xs live_x distinct_x bad)
first_same dir seen (x ∷ xs) (y ∷ ys) e f es fs same live_x live_y distinct_x distinct_y bad_e bad_f =
    let first : x ≡ y = same_head x y (xs ++ e ∷ es) (ys ++ f ∷ fs) same in
    first_same dir (seen ++ x ∷ []) xs ys e f es fs (same_tail x y (xs ++ e ∷ es) (ys ++ f ∷ fs) same) live_x.1 live_y.1
    (subst AreDistinct (sym (more_seen seen x xs)) distinct_x)
    (subst AreDistinct (ap (λ (z : Pending). seen ++ z ∷ ys) (sym first) ∙ sym (more_seen seen x ys)) distinct_y)
    (subst (λ (list : List Pending). (is_live dir.objects e.parent ≡ false) ⊎ (is_pending e.parent list ≡ true))
    (sym (more_seen seen x xs)) bad_e)
    (subst (λ (list : List Pending). (is_live dir.objects f.parent ≡ false) ⊎ (is_pending f.parent list ≡ true))
    (ap (λ (z : Pending). seen ++ z ∷ ys) (sym first) ∙ sym (more_seen seen x ys)) bad_f)

pub bad_once : (dir : Directory) (n m : ℕ) → IsFirstBadPending dir n → IsFirstBadPending dir m → n ≡ m
bad_once dir n m first second =
    let same : first.entry ≡ second.entry =
    first_same dir [] first.before second.before first.entry second.entry first.behind second.behind
    (sym first.parts ∙ second.parts)
    first.before_live second.before_live first.before_distinct second.before_distinct
    (subst (λ (k : ℕ). (is_live dir.objects k ≡ false) ⊎ (is_pending k first.before ≡ true)) (sym first.parent)
    first.bad)
    (subst (λ (k : ℕ). (is_live dir.objects k ≡ false) ⊎ (is_pending k second.before ≡ true)) (sym second.parent)
    second.bad) in
    sym first.parent ∙ ap (λ (e : Pending). e.parent) same ∙ second.parent
