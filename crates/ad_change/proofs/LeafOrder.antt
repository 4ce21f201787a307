-- Of a subtree whose deepest objects go first, each object goes after its children.
use Rattle.std.proofs.Common.{◌≡◌, ℕ, zero, suc, ◌-◌, ◌<◌, ◌≤◌, Bool, true, false, List, [], ◌∷◌, ◌++◌, map, ◌⊎◌, inl}
use Rattle.std.proofs.Common.{inr, refl, sym, subst, ap, ◌∙◌, arith}
use Rattle.std.specs.Prelude.{nat_eq, filter, Result, Ok, Err, IfOk}
use Rattle.std.specs.Global.{Vec}
use Rattle.std.specs.List.{AllByRecursion}
use Rattle.std.proofs.lemmas.List.{append_assoc, append-nil}
use Rattle.std.proofs.lemmas.Bool.{cases_Bool, both_ways, eqb-true, eqb-false, eq-eqb, or_cases, or_left, or_right}
use Rattle.std.proofs.lemmas.Bool.{or_from, false≢true, false_from_ne_true}
use Rattle.ad_dir_model.specs.Limits.{max_depth}
use Rattle.ad_dir_model.specs.Object.{Object}
use Rattle.ad_dir_model.specs.Objects.{RiseAbove, object_of, is_live, numbers}
use Rattle.ad_dir_model.specs.Tree.{root, IsAtDepth, IsPlaced}
use Rattle.ad_dir_model.specs.Directory.{Directory, parents}
use Rattle.ad_dir_model.specs.Changes.{goes_with}
use Rattle.ad_dir_model.specs.Protection.{has}
use Rattle.ad_dir_model.specs.Soundness.{IsSound}
use Rattle.ad_dir_model.proofs.Deleting.{subtree_goes_down}
use Rattle.ad_dir_model.proofs.EditLaws.{all_by}
use Rattle.ad_dir_model.proofs.Finding.{live_above}
use Rattle.ad_dir_model.proofs.ScratchLaws.{root_at}
use Rattle.ad_dir_model.proofs.WorkLaws.{placed_at}
use Rattle.ad_change.specs.Removing.{at_depth, from_depth, ChildrenFirst, AreGoing}
use Rattle.ad_change.specs.Tree.{depth_of}
use Rattle.ad_change.proofs.DepthLaws.{depth_at, placed_shallow}

-- ---- lists

has_append : (xs ys : List ℕ) (n : ℕ) → has (xs ++ ys) n ≡ true → (has xs n ≡ true) ⊎ (has ys n ≡ true)
has_append [] ys n is = inr is
has_append (x ∷ xs) ys n is =
    elim (or_cases (nat_eq x n) (has (xs ++ ys) n) is) [
      | inl here ↦ inl (or_left (nat_eq x n) (has xs n) here)
      | inr behind ↦ elim (has_append xs ys n behind) [
        | inl first ↦ inl (or_right (nat_eq x n) (has xs n) first)
        | inr second ↦ inr second
      ]
    ]

append_first : (xs ys : List ℕ) (n : ℕ) → has xs n ≡ true → has (xs ++ ys) n ≡ true
append_first [] ys n is = absurd (false≢true is)
append_first (x ∷ xs) ys n is =
    elim (or_cases (nat_eq x n) (has xs n) is) [
      | inl here ↦ or_left (nat_eq x n) (has (xs ++ ys) n) here
      | inr behind ↦ or_right (nat_eq x n) (has (xs ++ ys) n) (append_first xs ys n behind)
    ]

append_second : (xs ys : List ℕ) (n : ℕ) → has ys n ≡ true → has (xs ++ ys) n ≡ true
append_second [] ys n is = is
append_second (x ∷ xs) ys n is = or_right (nat_eq x n) (has (xs ++ ys) n) (append_second xs ys n is)

has_filter : (test : ℕ → Bool) (xs : List ℕ) (n : ℕ) → has (filter test xs) n ≡ true → (has xs n ≡ true)
    × (test n ≡ true)
has_filter test [] n is = absurd (false≢true is)
has_filter test (x ∷ xs) n is =
    elim (cases_Bool (test x)) [
      | inl kept ↦ elim (or_cases (nat_eq x n) (has (filter test xs) n) (rw kept at is)) [
        | inl here ↦ (or_left (nat_eq x n) (has xs n) here, subst (λ (k : ℕ). test k ≡ true) (eqb-true x n here) kept)
        | inr behind ↦ let rest = has_filter test xs n behind in (or_right (nat_eq x n) (has xs n) rest.0, rest.1)
      ]
      | inr left ↦ let rest = has_filter test xs n (rw left at is) in (or_right (nat_eq x n) (has xs n) rest.0, rest.1)
    ]

filter_has : (test : ℕ → Bool) (xs : List ℕ) (n : ℕ) → has xs n ≡ true → test n ≡ true → has (filter test xs) n ≡ true
filter_has test [] n is passes = absurd (false≢true is)
filter_has test (x ∷ xs) n is passes =
    elim (cases_Bool (nat_eq x n)) [
      | inl here ↦
          let kept : test x ≡ true = subst (λ (k : ℕ). test k ≡ true) (sym (eqb-true x n here)) passes in
          rw kept (or_left (nat_eq x n) (has (filter test xs) n) here)
      | inr apart ↦
          let behind : has (filter test xs) n ≡ true = filter_has test xs n (rw apart at is) passes in
          elim (cases_Bool (test x)) [
            | inl kept ↦ rw kept (or_right (nat_eq x n) (has (filter test xs) n) behind)
            | inr left ↦ rw left behind
          ]
    ]

-- each stands once
abbrev Once : List ℕ → Type 0
Once [] = Unit {0}
Once (n ∷ ns) = (has ns n ≡ false) × Once ns

once_filter : (test : ℕ → Bool) (xs : List ℕ) → Once xs → Once (filter test xs)
once_filter test [] once = tt
once_filter test (x ∷ xs) once =
    elim (cases_Bool (test x)) [
      | inl kept ↦ rw kept (
        false_from_ne_true (has (filter test xs) x) (λ is. both_ways (has xs x) once.0 (has_filter test xs x is).0),
        once_filter test xs once.1,
      )
      | inr left ↦ rw left (once_filter test xs once.1)
    ]

-- none is deeper than the one before it, and each stands once
abbrev Falls : (ℕ → ℕ) → ℕ → List ℕ → Type 0
Falls f most [] = Unit {0}
Falls f most (n ∷ others) = ((f n ≤ most) × (has others n ≡ false)) × Falls f (f n) others

falls_weaken : (f : ℕ → ℕ) (a b : ℕ) (xs : List ℕ) → a ≤ b → Falls f a xs → Falls f b xs
falls_weaken f a b [] le falls = tt
falls_weaken f a b (x ∷ xs) le falls =
    let within : f x ≤ a = falls.0.0 in
    ((omega (arith, le, within), falls.0.1), falls.1)

falls_within : (f : ℕ → ℕ) (most : ℕ) (xs : List ℕ) (n : ℕ) → Falls f most xs → has xs n ≡ true → f n ≤ most
falls_within f most [] n falls is = absurd (false≢true is)
falls_within f most (x ∷ xs) n falls is =
    let within : f x ≤ most = falls.0.0 in
    elim (or_cases (nat_eq x n) (has xs n) is) [
      | inl here ↦ subst (λ (k : ℕ). f k ≤ most) (eqb-true x n here) within
      | inr behind ↦ let less : f n ≤ f x = falls_within f (f x) xs n falls.1 behind in omega (arith, within, less)
    ]

falls_append : (f : ℕ → ℕ) (d : ℕ) (xs ys : List ℕ) → AllByRecursion (λ (n : ℕ). f n ≡ d) xs → Once xs → Falls f d ys
    → ((n : ℕ) → f n ≡ d → has ys n ≡ false) → Falls f d (xs ++ ys)
falls_append f d [] ys at once falls apart = falls
falls_append f d (x ∷ xs) ys at once falls apart =
    let depth : f x ≡ d = at.0 in (
      (
        omega (arith, depth),
        false_from_ne_true (has (xs ++ ys) x) (λ is. elim (has_append xs ys x is) [
          | inl first ↦ both_ways (has xs x) once.0 first
          | inr second ↦ both_ways (has ys x) (apart x depth) second
        ]),
      ),
      subst (λ (k : ℕ). Falls f k (xs ++ ys)) (sym depth) (falls_append f d xs ys at.1 once.1 falls apart),
    )

-- ---- those of a list by their depths

module _ (f : ℕ → ℕ) (ns : List ℕ) where
  -- those that are less deep than this, the deepest first
  unfoldable levels : ℕ → List ℕ
  levels zero = []
  levels (suc d) = filter (λ (n : ℕ). nat_eq (f n) d) ns ++ levels d

  in_levels : (d n : ℕ) → has (levels d) n ≡ true → (has ns n ≡ true) × (f n < d)
  unfolding levels
  in_levels zero n is = absurd (false≢true is)
  in_levels (suc d) n is =
      elim (has_append (filter (λ (k : ℕ). nat_eq (f k) d) ns) (levels d) n is) [
        | inl first ↦
            let parts = has_filter (λ (k : ℕ). nat_eq (f k) d) ns n first in
            let depth : f n ≡ d = eqb-true (f n) d parts.1 in
            (parts.0, omega (arith, depth))
        | inr second ↦
            let parts = in_levels d n second in
            let less : f n < d = parts.1 in
            (parts.0, omega (arith, less))
      ]

  levels_have : (d n : ℕ) → has ns n ≡ true → f n < d → has (levels d) n ≡ true
  unfolding levels
  levels_have zero n is less = absurd (omega (arith, less))
  levels_have (suc d) n is less =
      elim (cases_Bool (nat_eq (f n) d)) [
        | inl here ↦ append_first (filter (λ (k : ℕ). nat_eq (f k) d) ns) (levels d) n
            (filter_has (λ (k : ℕ). nat_eq (f k) d) ns n is here)
        | inr apart ↦
            let other : f n ≡ d → ⊥ = eqb-false (f n) d apart in
            let fewer : f n < d = omega (arith, less, other) in
            append_second (filter (λ (k : ℕ). nat_eq (f k) d) ns) (levels d) n (levels_have d n is fewer)
      ]

  of_filter : (d : ℕ) (xs : List ℕ) → AllByRecursion (λ (n : ℕ). f n ≡ d) (filter (λ (n : ℕ). nat_eq (f n) d) xs)
  of_filter d [] = tt
  of_filter d (x ∷ xs) =
      elim (cases_Bool (nat_eq (f x) d)) [
        | inl kept ↦ rw kept (eqb-true (f x) d kept, of_filter d xs)
        | inr left ↦ rw left (of_filter d xs)
      ]

  levels_fall : (d : ℕ) → Once ns → Falls f d (levels d)
  unfolding levels
  levels_fall zero once = tt
  levels_fall (suc d) once = falls_weaken f d (suc d) (filter (λ (n : ℕ). nat_eq (f n) d) ns ++ levels d) (omega arith)
      (falls_append f d (filter (λ (n : ℕ). nat_eq (f n) d) ns) (levels d) (of_filter d ns)
      (once_filter (λ (n : ℕ). nat_eq (f n) d) ns once) (levels_fall d once)
      (λ n depth. false_from_ne_true (has (levels d) n) (λ is.
      let less : f n < d = (in_levels d n is).1 in absurd (omega (arith, less, depth)))))

  -- as the code has them, with their depths
  of_pairs : (d : ℕ) (xs : List ℕ) → at_depth d (map (λ (n : ℕ). (f n, n)) xs) ≡ filter (λ (n : ℕ). nat_eq (f n) d) xs
  of_pairs d [] = refl
  of_pairs d (x ∷ xs) =
      elim (cases_Bool (nat_eq (f x) d)) [
        | inl kept ↦ rw kept (ap (λ (ys : List ℕ). x ∷ ys) (of_pairs d xs))
        | inr left ↦ rw left (of_pairs d xs)
      ]

  levels_are : (d : ℕ) → from_depth d (map (λ (n : ℕ). (f n, n)) ns) ≡ levels d
  unfolding levels from_depth
  levels_are zero = refl
  levels_are (suc d) =
      ap (λ (xs : List ℕ). xs ++ from_depth d (map (λ (n : ℕ). (f n, n)) ns)) (of_pairs d ns)
      ∙ ap (λ (xs : List ℕ). filter (λ (n : ℕ). nat_eq (f n) d) ns ++ xs) (levels_are d)

-- ---- the loop over depths

pub level_more : (left : ℕ) (found : List (ℕ × ℕ)) (old new whole : List ℕ) → 0 < left → new ≡ old
    ++ at_depth (left - 1) found
    → old ++ from_depth left found ≡ whole → new ++ from_depth (left - 1) found ≡ whole
unfolding from_depth
level_more zero found old new whole some made so_far = absurd (omega (arith, some))
level_more (suc d) found old new whole some made so_far =
    let less : suc d - 1 ≡ d = omega arith in
    let here : new ≡ old ++ at_depth d found = made ∙ ap (λ (k : ℕ). old ++ at_depth k found) less in
    ap (λ (k : ℕ). new ++ from_depth k found) less ∙ ap (λ (xs : List ℕ). xs ++ from_depth d found) here
    ∙ append_assoc old (at_depth d found) (from_depth d found) ∙ so_far

pub level_end : (left : ℕ) (found : List (ℕ × ℕ)) (old whole : List ℕ) → left ≤ 0 → old ++ from_depth left found
    ≡ whole → old ≡ whole
unfolding from_depth
level_end zero found old whole none so_far = sym (append-nil old) ∙ so_far
level_end (suc d) found old whole none so_far = absurd (omega (arith, none))

-- ---- numbers

above_all : (m n : ℕ) (os : List Object) → RiseAbove m os → n ≤ m → has (numbers os) n ≡ false
unfolding numbers
above_all m n [] rise le = refl
above_all m n (o ∷ os) rise le =
    let above : m < o.number = rise.0 in
    or_from (nat_eq o.number n) (has (numbers os) n)
    (false_from_ne_true (nat_eq o.number n) (λ is. let same : o.number ≡ n = eqb-true o.number n is
    in absurd (omega (arith, above, le, same))))
    (above_all o.number n os rise.1 (omega (arith, above, le)))

once_numbers : (m : ℕ) (os : List Object) → RiseAbove m os → Once (numbers os)
unfolding numbers
once_numbers m [] rise = tt
once_numbers m (o ∷ os) rise = (above_all o.number o.number os rise.1 (omega arith), once_numbers o.number os rise.1)

numbers_have : (os : List Object) (n : ℕ) → is_live os n ≡ true → has (numbers os) n ≡ true
unfolding numbers object_of
numbers_have [] n live = absurd (false≢true live)
numbers_have (o ∷ os) n live =
    elim (cases_Bool (nat_eq o.number n)) [
      | inl here ↦ or_left (nat_eq o.number n) (has (numbers os) n) here
      | inr other ↦ or_right (nat_eq o.number n) (has (numbers os) n) (numbers_have os n (rw other at live))
    ]

numbers_live : (os : List Object) (n : ℕ) → has (numbers os) n ≡ true → is_live os n ≡ true
unfolding numbers object_of
numbers_live [] n is = absurd (false≢true is)
numbers_live (o ∷ os) n is =
    elim (cases_Bool (nat_eq o.number n)) [
      | inl here ↦ rw here refl
      | inr other ↦ rw other (numbers_live os n (rw other at is))
    ]

-- ---- the subtree

-- a child is one deeper, and goes with its parent
child_deeper : (dir : Directory) (child n : ℕ) → IsSound dir → is_live dir.objects child ≡ true
    → is_live dir.objects n ≡ true
    → parents dir child ≡ n → (child ≡ root → ⊥) × (depth_of (parents dir) child ≡ suc (depth_of (parents dir) n))
child_deeper dir child n sound live parent_live is = (below, by_depth (placed_at dir sound.each child live))
  where
    below : child ≡ root → ⊥
    below top =
        let above : 0 < n = live_above 0 dir.objects n sound.rise parent_live in
        let none : n ≡ 0 = sym is ∙ ap (parents dir) top ∙ (root_at dir sound).no_parent in
        absurd (omega (arith, above, none))

    by_depth : IsPlaced (parents dir) child → depth_of (parents dir) child ≡ suc (depth_of (parents dir) n)
    by_depth at = by_chain at.depth at.within at.chain
      where
        by_chain : (d : ℕ) → d ≤ max_depth → IsAtDepth (parents dir) d child → depth_of (parents dir) child
            ≡ suc (depth_of (parents dir) n)
        by_chain zero within chain = absurd (below chain)
        by_chain (suc d) within chain =
            let less : d ≤ max_depth = omega (arith, within) in
            depth_at (parents dir) child (suc d) chain within
            ∙ ap (λ (k : ℕ). suc k) (sym (depth_at (parents dir) n d (subst (IsAtDepth (parents dir) d) is chain.1)
            less))

module _ (dir : Directory) (target : ℕ) (sound : IsSound dir) (below : target ≡ root → ⊥) where
  goes_too : (child n : ℕ) → is_live dir.objects child ≡ true → (child ≡ root → ⊥) → parents dir child ≡ n
      → goes_with dir target n ≡ true
      → goes_with dir target child ≡ true
  goes_too child n live not_root is goes =
      elim (cases_Bool (goes_with dir target child)) [
        | inl yes' ↦ yes'
        | inr stays ↦
            let parent_stays : goes_with dir target (parents dir child) ≡ false
            = (subtree_goes_down dir target sound below).parent_stays child live not_root stays in
            absurd (both_ways (goes_with dir target n)
            (subst (λ (k : ℕ). goes_with dir target k ≡ false) is parent_stays) goes)
      ]

  order_from : (most : ℕ) (gone rest : List ℕ) → Falls (depth_of (parents dir)) most rest
      → AllByRecursion (λ (n : ℕ). (is_live dir.objects n ≡ true) × (goes_with dir target n ≡ true)) rest
      → ((n : ℕ) → has rest n ≡ true → has gone n ≡ false)
      → ((n : ℕ) → is_live dir.objects n ≡ true → goes_with dir target n ≡ true → (has gone n ≡ true)
      ⊎ (has rest n ≡ true))
      → ChildrenFirst dir gone rest
  order_from most gone [] falls each apart all = tt
  order_from most gone (n ∷ ns) falls each apart all = (
    (apart n (or_left (nat_eq n n) (has ns n) (eq-eqb n n refl)), children),
    order_from (depth_of (parents dir) n) (n ∷ gone) ns falls.1 each.1 apart_then all_then,
  )
    where
      children : (child : ℕ) → is_live dir.objects child ≡ true → parents dir child ≡ n → has gone child ≡ true
      children child live is =
          let deeper = child_deeper dir child n sound live each.0.0 is in
          elim (all child live (goes_too child n live deeper.0 is each.0.1)) [
            | inl before ↦ before
            | inr behind ↦ absurd (later child deeper.1 behind)
          ]
        where
          later : (child' : ℕ) → depth_of (parents dir) child' ≡ suc (depth_of (parents dir) n) → has (n ∷ ns) child'
              ≡ true → ⊥
          later child' deeper is' =
              let within : depth_of (parents dir) child' ≤ depth_of (parents dir) n
              = falls_within (depth_of (parents dir)) (depth_of (parents dir) n) (n ∷ ns) child'
              ((omega arith, falls.0.1), falls.1) is' in
              absurd (omega (arith, within, deeper))

      apart_then : (m : ℕ) → has ns m ≡ true → has (n ∷ gone) m ≡ false
      apart_then m is = or_from (nat_eq n m) (has gone m)
          (false_from_ne_true (nat_eq n m)
          (λ same. both_ways (has ns n) falls.0.1
          (subst (λ (k : ℕ). has ns k ≡ true) (sym (eqb-true n m same)) is)))
          (apart m (or_right (nat_eq n m) (has ns m) is))

      all_then : (m : ℕ) → is_live dir.objects m ≡ true → goes_with dir target m ≡ true → (has (n ∷ gone) m ≡ true)
          ⊎ (has ns m ≡ true)
      all_then m live goes =
          elim (all m live goes) [
            | inl before ↦ inl (or_right (nat_eq n m) (has gone m) before)
            | inr here ↦ elim (or_cases (nat_eq n m) (has ns m) here) [
              | inl same ↦ inl (or_left (nat_eq n m) (has gone m) same)
              | inr behind ↦ inr behind
            ]
          ]

  all_levels : (n : ℕ) → is_live dir.objects n ≡ true → goes_with dir target n ≡ true
      → has (levels (depth_of (parents dir)) (filter (goes_with dir target) (numbers dir.objects)) 65) n ≡ true
  unfolding max_depth
  all_levels n live goes =
      let shallow : depth_of (parents dir) n ≤ max_depth = placed_shallow (parents dir) n
      (placed_at dir sound.each n live) in
      levels_have (depth_of (parents dir)) (filter (goes_with dir target) (numbers dir.objects)) 65 n
      (filter_has (goes_with dir target) (numbers dir.objects) n (numbers_have dir.objects n live) goes)
      (omega (arith, shallow))

  pub going_all : AreGoing dir target (from_depth 65
      (map (λ (n : ℕ). (depth_of (parents dir) n, n)) (filter (goes_with dir target) (numbers dir.objects))))
  going_all = subst (AreGoing dir target)
      (sym (levels_are (depth_of (parents dir)) (filter (goes_with dir target) (numbers dir.objects)) 65)) (record {
        each = each;
        all = all_levels;
        order = order_from 65 []
            (levels (depth_of (parents dir)) (filter (goes_with dir target) (numbers dir.objects)) 65)
            (levels_fall (depth_of (parents dir)) (filter (goes_with dir target) (numbers dir.objects)) 65
            (once_filter (goes_with dir target) (numbers dir.objects) (once_numbers 0 dir.objects sound.rise)))
            each (λ n is. refl) (λ n live goes. inr (all_levels n live goes));
      })
    where
      each : AllByRecursion (λ (n : ℕ). (is_live dir.objects n ≡ true) × (goes_with dir target n ≡ true))
          (levels (depth_of (parents dir)) (filter (goes_with dir target) (numbers dir.objects)) 65)
      each = all_by (λ (n : ℕ). (is_live dir.objects n ≡ true) × (goes_with dir target n ≡ true))
          (levels (depth_of (parents dir)) (filter (goes_with dir target) (numbers dir.objects)) 65) (λ n is.
          let parts = has_filter (goes_with dir target) (numbers dir.objects) n
          (in_levels (depth_of (parents dir)) (filter (goes_with dir target) (numbers dir.objects)) 65 n is).0 in
          (numbers_live dir.objects n parts.0, parts.1))

  pub going_ok : {E : Type 0} (r : Result (Vec ℕ) E)
      → IfOk r (λ going. going.items ≡ from_depth 65
      (map (λ (n : ℕ). (depth_of (parents dir) n, n)) (filter (goes_with dir target) (numbers dir.objects))))
      → IfOk r (λ going. AreGoing dir target going.items)
  going_ok (Ok going) is = subst (AreGoing dir target) (sym is) going_all
  going_ok (Err e) is = tt
