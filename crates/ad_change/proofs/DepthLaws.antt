-- How deep an object stands, as a number and as a chain of parents; and the walk up.
use Rattle.std.proofs.Common.{◌≡◌, ℕ, zero, suc, ◌+◌, ◌-◌, ◌<◌, ◌≤◌, Bool, true, false, List, [], ◌∷◌, map, length}
use Rattle.std.proofs.Common.{get_or, drop, Some, inl, inr, refl, sym, subst, ap, ◌∙◌, arith}
use Rattle.std.specs.Prelude.{nat_eq, nat_le, ◌&&◌}
use Rattle.std.specs.List.{list_all, AllByRecursion}
use Rattle.std.proofs.lemmas.Bool.{cases_Bool, eqb-true, eqb-false, eq-eqb, ne_eqb, le-leb, lt-leb, and_parts, and_from}
use Rattle.std.proofs.lemmas.List.{at_drop_more}
use Rattle.std.proofs.lemmas.Option.{none-some, same_Some}
use Rattle.ad_dir_model.specs.Limits.{max_depth}
use Rattle.ad_dir_model.specs.Object.{Object}
use Rattle.ad_dir_model.specs.Objects.{numbers, object_of, is_live, object_at, parent_at, put}
use Rattle.ad_dir_model.specs.Tree.{root, IsAtDepth, IsPlaced}
use Rattle.ad_dir_model.specs.Directory.{Directory, parents}
use Rattle.ad_dir_model.specs.Changes.{renamed_object}
use Rattle.ad_dir_model.specs.Soundness.{IsSound}
use Rattle.ad_dir_model.proofs.Counting.{all_numbers}
use Rattle.ad_dir_model.proofs.Finding.{at_number}
use Rattle.ad_dir_model.proofs.WorkLaws.{placed_at}
use Rattle.ad_change.specs.Depths.{parent_then}
use Rattle.ad_change.specs.Tree.{depth_within, depth_of, is_shallow_with}
use Rattle.ad_change.proofs.Applicable.{placed_alike, parent_put}

pub depth_chain : (parent : ℕ → ℕ) (levels n : ℕ) → depth_within parent levels n < levels
    → IsAtDepth parent (depth_within parent levels n) n
unfolding depth_within
depth_chain parent zero n less = absurd (omega arith)
depth_chain parent (suc levels) n less =
    elim (cases_Bool (nat_eq n root)) [
      | inl here ↦ rw here (eqb-true n root here)
      | inr below ↦
          let fewer : suc (depth_within parent levels (parent n)) < suc levels = rw below at less in
          let less' : depth_within parent levels (parent n) < levels = omega arith in
          rw below (eqb-false n root below, depth_chain parent levels (parent n) less')
    ]

-- one that isn't too deep is placed
pub shallow_placed : (parent : ℕ → ℕ) (n : ℕ) → depth_of parent n ≤ max_depth → IsPlaced parent n
unfolding depth_of
shallow_placed parent n within =
    let less : depth_within parent (suc max_depth) n < suc max_depth = omega arith in
    record {
      depth = depth_within parent (suc max_depth) n;
      within = within;
      chain
          = depth_chain parent (suc max_depth) n less;
    }

-- what each object of a list passes, the one of a number does
pub passes_at : (test : Object → Bool) (os : List Object) (n : ℕ) (o : Object) → list_all test os ≡ true
    → object_of os n ≡ Some o → test o ≡ true
unfolding object_of
passes_at test [] n o all is = absurd (none-some o is)
passes_at test (x ∷ xs) n o all is =
    let parts = and_parts (test x) (list_all test xs) all in
    elim (cases_Bool (nat_eq x.number n)) [
      | inl here ↦ let e : x ≡ o = same_Some x o (rw here at is) in rw (← e) parts.0
      | inr other ↦ passes_at test xs n o parts.1 (rw other at is)
    ]

-- ---- the walk up

pub at_root : (parent : ℕ → ℕ) (levels n : ℕ) → n ≡ root → depth_within parent levels n ≡ 0
unfolding depth_within
at_root parent zero n is = refl
at_root parent (suc levels) n is = rw (eq-eqb n root is) refl

within_step : (parent : ℕ → ℕ) (levels n : ℕ) → 0 < levels → (n ≡ root → ⊥) → depth_within parent levels n
    ≡ suc (depth_within parent (levels - 1) (parent n))
unfolding depth_within
within_step parent zero n some below = absurd (omega (arith, some))
within_step parent (suc levels) n some below =
    let less : suc levels - 1 ≡ levels = omega arith in
    rw (ne_eqb n root below) (ap (λ (k : ℕ). suc (depth_within parent k (parent n))) (sym less))

-- so many parents so far, and those that are left
pub goes_up : (parent : ℕ → ℕ) (depth n whole : ℕ) → depth ≤ 64 → (n ≡ root → ⊥)
    → depth + depth_within parent (65 - depth) n ≡ whole → (depth + 1) + depth_within parent (65 - (depth + 1))
    (parent n) ≡ whole
goes_up parent depth n whole within below so_far =
    let some : 0 < 65 - depth = omega (arith, within) in
    let less : 65 - (depth + 1) ≡ 65 - depth - 1 = omega (arith, within) in
    let step : depth_within parent (65 - depth) n ≡ suc (depth_within parent (65 - depth - 1) (parent n))
    = within_step parent (65 - depth) n some below in
    let same : depth_within parent (65 - (depth + 1)) (parent n) ≡ depth_within parent (65 - depth - 1) (parent n)
    = ap (λ (levels : ℕ). depth_within parent levels (parent n)) less in
    omega (arith, step, same, so_far)

pub ends_up : (parent : ℕ → ℕ) (depth n whole : ℕ) → 64 < depth → depth + depth_within parent (65 - depth) n ≡ whole
    → depth ≡ whole
unfolding depth_within
ends_up parent depth n whole above so_far =
    let none : 65 - depth ≡ 0 = omega (arith, above) in
    let left : depth_within parent (65 - depth) n ≡ 0 = ap (λ (levels : ℕ). depth_within parent levels n) none in
    omega (arith, left, so_far)

pub begins_up : (parent : ℕ → ℕ) (n : ℕ) → 0 + depth_within parent 65 n ≡ depth_of parent n
unfolding depth_of max_depth
begins_up parent n = omega arith

pub ends_at_root : (parent : ℕ → ℕ) (depth n whole : ℕ) → n ≡ root → depth + depth_within parent (65 - depth) n
    ≡ whole → depth ≡ whole
ends_at_root parent depth n whole is so_far =
    let left : depth_within parent (65 - depth) n ≡ 0 = at_root parent (65 - depth) n is in
    omega (arith, left, so_far)

pub is_too_deep : (depth : ℕ) → 64 < depth → nat_le depth max_depth ≡ false
unfolding max_depth
is_too_deep depth above = lt-leb depth 64 above

pub is_not_deep : (depth : ℕ) → depth ≤ 64 → nat_le depth max_depth ≡ true
unfolding max_depth
is_not_deep depth within = le-leb depth 64 within

-- ---- the same parents, the same depths

within_alike : (p q : ℕ → ℕ) (levels n : ℕ) → ((k : ℕ) → p k ≡ q k) → depth_within p levels n ≡ depth_within q levels n
unfolding depth_within
within_alike p q zero n same = refl
within_alike p q (suc levels) n same =
    elim (cases_Bool (nat_eq n root)) [
      | inl here ↦ rw here refl
      | inr below ↦ rw below (ap (λ (d : ℕ). suc d)
          (within_alike p q levels (p n) same ∙ ap (depth_within q levels) (same n)))
    ]

pub depth_alike : (p q : ℕ → ℕ) (n : ℕ) → ((k : ℕ) → p k ≡ q k) → depth_of p n ≡ depth_of q n
unfolding depth_of
depth_alike p q n same = within_alike p q (suc max_depth) n same

chain_within : (parent : ℕ → ℕ) (d levels n : ℕ) → IsAtDepth parent d n → d < levels → depth_within parent levels n ≡ d
unfolding depth_within
chain_within parent d zero n at less = absurd (omega (arith, less))
chain_within parent zero (suc levels) n at less = rw (eq-eqb n root at) refl
chain_within parent (suc d) (suc levels) n at less =
    let fewer : d < levels = omega (arith, less) in
    rw (ne_eqb n root at.0) (ap (λ (k : ℕ). suc k) (chain_within parent d levels (parent n) at.1 fewer))

pub depth_at : (parent : ℕ → ℕ) (n d : ℕ) → IsAtDepth parent d n → d ≤ max_depth → depth_of parent n ≡ d
unfolding depth_of
depth_at parent n d at within = chain_within parent d (suc max_depth) n at (omega (arith, within))

pub placed_shallow : (parent : ℕ → ℕ) (n : ℕ) → IsPlaced parent n → depth_of parent n ≤ max_depth
placed_shallow parent n at = subst (λ (d : ℕ). d ≤ max_depth) (sym (depth_at parent n at.depth at.chain at.within))
    at.within

-- ---- all objects, where one has another parent

all_alike : (f : ℕ → Bool) (g : Object → Bool) (os : List Object) → ((o : Object) → f o.number ≡ g o)
    → list_all f (map (λ (o : Object). o.number) os) ≡ list_all g os
all_alike f g [] same = refl
all_alike f g (o ∷ os) same = ap (λ (b : Bool). b && list_all f (map (λ (x : Object). x.number) os)) (same o)
    ∙ ap (λ (b : Bool). g o && b) (all_alike f g os same)

-- with the object put there
then_put : (dir : Directory) (target parent : ℕ) (name : List ℕ) → is_live dir.objects target ≡ true → (n : ℕ)
    → parent_then dir target parent n ≡ parent_at
    (put (renamed_object (object_at dir.objects target) parent name) dir.objects) n
then_put dir target parent name live n =
    parent_put dir (renamed_object (object_at dir.objects target) parent name)
    (λ (k p : ℕ). parent_then dir target parent k ≡ p)
    (rw (eq-eqb (object_at dir.objects target).number target number) refl)
    (λ k apart. rw (ne_eqb k target (λ (e : k ≡ target). apart (number ∙ sym e))) refl) n
  where
    number : (object_at dir.objects target).number ≡ target
    number = at_number dir.objects target live

pub shallow_then : (dir : Directory) (target parent : ℕ) (name : List ℕ) → is_live dir.objects target ≡ true
    → list_all (λ (n : ℕ). nat_le (depth_of (parent_then dir target parent) n) max_depth) (numbers dir.objects)
    ≡ is_shallow_with dir (renamed_object (object_at dir.objects target) parent name)
unfolding numbers is_shallow_with
shallow_then dir target parent name live =
    all_alike (λ (n : ℕ). nat_le (depth_of (parent_then dir target parent) n) max_depth)
    (λ (o : Object). nat_le (depth_of (parent_at
    (put (renamed_object (object_at dir.objects target) parent name) dir.objects)) o.number) max_depth)
    dir.objects
    (λ o. ap (λ (d : ℕ). nat_le d max_depth) (depth_alike (parent_then dir target parent)
    (parent_at (put (renamed_object (object_at dir.objects target) parent name) dir.objects)) o.number
    (then_put dir target parent name live)))

-- with the parent that it has
pub parent_same : (dir : Directory) (target parent : ℕ) → parents dir target ≡ parent → (n : ℕ) → parents dir n
    ≡ parent_then dir target parent n
parent_same dir target parent is n =
    elim (cases_Bool (nat_eq n target)) [
      | inl same ↦ rw same (ap (parents dir) (eqb-true n target same) ∙ is)
      | inr differ ↦ rw differ refl
    ]

all_pass : (f : ℕ → Bool) (ns : List ℕ) → AllByRecursion (λ (n : ℕ). f n ≡ true) ns → list_all f ns ≡ true
all_pass f [] each = refl
all_pass f (n ∷ ns) each = and_from (f n) (list_all f ns) each.0 (all_pass f ns each.1)

pub shallow_in_place : (dir : Directory) (target parent : ℕ) (name : List ℕ) → IsSound dir
    → is_live dir.objects target ≡ true
    → parents dir target ≡ parent → true ≡ is_shallow_with dir
    (renamed_object (object_at dir.objects target) parent name)
shallow_in_place dir target parent name sound live is =
    sym (all_pass (λ (n : ℕ). nat_le (depth_of (parent_then dir target parent) n) max_depth) (numbers dir.objects)
    (all_numbers (λ (n : ℕ). nat_le (depth_of (parent_then dir target parent) n) max_depth ≡ true) dir.objects
    (λ n there. le-leb (depth_of (parent_then dir target parent) n) max_depth
    (placed_shallow (parent_then dir target parent) n
    (placed_alike (parents dir) (parent_then dir target parent) n (parent_same dir target parent is)
    (placed_at dir sound.each n there))))))
    ∙ shallow_then dir target parent name live

-- ---- the loop over them

pub all_stops : (test : ℕ → Bool) (xs : List ℕ) (i : ℕ) (whole : Bool) → i < length xs → test (get_or xs i 0) ≡ false
    → list_all test (drop i xs) ≡ whole → false ≡ whole
all_stops test xs i whole less fails so_far =
    ap (λ (b : Bool). b && list_all test (drop (i + 1) xs)) (sym fails)
    ∙ sym (at_drop_more (list_all test) xs i 0 less) ∙ so_far

pub all_more : (test : ℕ → Bool) (xs : List ℕ) (i : ℕ) (whole : Bool) → i < length xs → test (get_or xs i 0) ≡ true
    → list_all test (drop i xs) ≡ whole → list_all test (drop (i + 1) xs) ≡ whole
all_more test xs i whole less holds so_far =
    ap (λ (b : Bool). b && list_all test (drop (i + 1) xs)) (sym holds)
    ∙ sym (at_drop_more (list_all test) xs i 0 less) ∙ so_far

pub same_all : (p q : ℕ → Bool) (xs : List ℕ) → ((n : ℕ) → p n ≡ q n) → list_all p xs ≡ list_all q xs
same_all p q [] same = refl
same_all p q (x ∷ xs) same = ap (λ (b : Bool). b && list_all p xs) (same x) ∙ ap (λ (b : Bool). q x && b)
    (same_all p q xs same)
