-- The tree after a move: objects that don't go with the one that is moved are as deep as before, and the others as
-- deep as it is now.
use Rattle.std.proofs.Common.{◌≡◌, ℕ, zero, suc, ◌+◌, ◌<◌, ◌≤◌, Bool, true, false, List, Option, Some, None, ◌⊎◌, inl}
use Rattle.std.proofs.Common.{inr, refl, sym, subst, ap, arith, ◌∙◌}
use Rattle.std.specs.Prelude.{nat_eq, if◌then◌else◌, ◌||◌}
use Rattle.std.proofs.lemmas.Bool.{eqb-true, eqb-false, ne_eqb, eq-eqb, cases_Bool, both_ways, or_cases, or_left}
use Rattle.std.proofs.lemmas.Bool.{or_right}
use Rattle.ad_dir_model.specs.Limits.{max_depth}
use Rattle.ad_dir_model.specs.Object.{Object}
use Rattle.ad_dir_model.specs.Objects.{is_live, object_at, parent_at, put}
use Rattle.ad_dir_model.specs.Tree.{root, IsAtDepth, IsPlaced, is_below_within, is_below}
use Rattle.ad_dir_model.specs.Directory.{Directory, parents}
use Rattle.ad_dir_model.specs.Changes.{goes_with}
use Rattle.ad_dir_model.specs.Soundness.{IsSound}
use Rattle.ad_dir_model.specs.Conditions.{KeepsTree, MayMove}
use Rattle.ad_dir_model.proofs.Finding.{at-put_same, at-put_other}
use Rattle.ad_dir_model.proofs.TreeLaws.{depth_unique, below_enough}
use Rattle.ad_dir_model.proofs.ScratchLaws.{below_at}
use Rattle.ad_dir_model.proofs.WorkLaws.{placed_at}
use Rattle.ad_dir_model.proofs.Deleting.{GoesDown, subtree_goes_down}

parent_here : (dir : Directory) (o : Object) → parent_at (put o dir.objects) o.number ≡ o.parent
parent_here dir o = ap (λ (x : Object). x.parent) (at-put_same o dir.objects)

parent_elsewhere : (dir : Directory) (o : Object) (n : ℕ) → (o.number ≡ n → ⊥) → parent_at (put o dir.objects) n
    ≡ parents dir n
parent_elsewhere dir o n apart = ap (λ (x : Object). x.parent) (at-put_other o dir.objects n apart)

not_itself : (dir : Directory) (number n : ℕ) → goes_with dir number n ≡ false → number ≡ n → ⊥
unfolding goes_with
not_itself dir number n stays same = both_ways (goes_with dir number n) stays
    (or_left (nat_eq n number) (is_below (parents dir) number n) (eq-eqb n number (sym same)))

-- what doesn't go with it
stays_deep : (dir : Directory) (o : Object) → IsSound dir → GoesDown dir (goes_with dir o.number) → (d n : ℕ)
    → is_live dir.objects n ≡ true → goes_with dir o.number n ≡ false → IsAtDepth (parents dir) d n
    → IsAtDepth (parent_at (put o dir.objects)) d n
stays_deep dir o sound down zero n live stays at = at
stays_deep dir o sound down (suc d) n live stays at =
    let parent_live : is_live dir.objects (parents dir n) ≡ true
    = (below_at dir sound.each n live at.0).parent_live in (
      at.0,
      rw (parent_elsewhere dir o n (not_itself dir o.number n stays))
          (stays_deep dir o sound down d (parents dir n) parent_live (down.parent_stays n live at.0 stays) at.1),
    )

-- what goes: so many parents up to the one that is moved, and then those above it now
pub record IsMoved (dir : Directory) (o : Object) (above moved depth n : ℕ) : Type 0 where
  pub up : ℕ
  pub split : depth ≡ up + moved
  pub chain : IsAtDepth (parent_at (put o dir.objects)) (up + suc above) n

below_up : (parent : ℕ → ℕ) (d other n : ℕ) → (n ≡ root → ⊥) → is_below_within parent (suc d) other n ≡ true
    → (nat_eq (parent n) other || is_below_within parent d other (parent n)) ≡ true
unfolding is_below_within
below_up parent d other n not_root below = rw (ne_eqb n root not_root) at below

goes_up : (dir : Directory) (number n d : ℕ) → suc d ≤ max_depth → (n ≡ root → ⊥) → IsAtDepth (parents dir) d
    (parents dir n) → goes_with dir number n ≡ true → (number ≡ n → ⊥) → goes_with dir number (parents dir n) ≡ true
unfolding goes_with is_below
goes_up dir number n d within not_root at goes apart =
    elim (or_cases (nat_eq n number) (is_below_within (parents dir) max_depth number n) goes) [
      | inl same ↦ absurd (apart (sym (eqb-true n number same)))
      | inr below ↦
          let less : d ≤ max_depth = omega arith in
          let near = below_up (parents dir) d number n not_root
          (sym (below_enough (parents dir) (suc d) max_depth number n (not_root, at) within) ∙ below) in
          elim (or_cases (nat_eq (parents dir n) number) (is_below_within (parents dir) d number (parents dir n))
          near) [
            | inl parent ↦ or_left (nat_eq (parents dir n) number)
                (is_below_within (parents dir) max_depth number (parents dir n)) parent
            | inr further ↦ or_right (nat_eq (parents dir n) number)
                (is_below_within (parents dir) max_depth number (parents dir n))
                (below_enough (parents dir) d max_depth number (parents dir n) at less ∙ further)
          ]
    ]

moved_itself : (dir : Directory) (o : Object) (above moved depth n : ℕ) → (n ≡ root → ⊥) → o.number ≡ n
    → IsAtDepth (parents dir) moved o.number → IsAtDepth (parents dir) depth n
    → IsAtDepth (parent_at (put o dir.objects)) above o.parent → IsMoved dir o above moved depth n
moved_itself dir o above moved depth n not_root same at_moved at at_parent =
    let equal : depth ≡ moved = depth_unique (parents dir) n depth moved at
    (subst (IsAtDepth (parents dir) moved) same at_moved) in
    let here : IsAtDepth (parent_at (put o dir.objects)) (suc above) n
    = (
      not_root,
      subst (λ (k : ℕ). IsAtDepth (parent_at (put o dir.objects)) above k)
          (sym (parent_here dir o) ∙ ap (parent_at (put o dir.objects)) same) at_parent,
    ) in
    let number : suc above ≡ 0 + suc above = omega arith in
    record {
      up = 0;
      split = omega arith;
      chain = subst (λ (k : ℕ). IsAtDepth (parent_at (put o dir.objects)) k n)
          number here;
    }

goes_deep : (dir : Directory) (o : Object) (above moved : ℕ) → IsSound dir → GoesDown dir (goes_with dir o.number)
    → IsAtDepth (parents dir) moved o.number → IsAtDepth (parent_at (put o dir.objects)) above o.parent
    → (d n : ℕ) → d ≤ max_depth → is_live dir.objects n ≡ true → goes_with dir o.number n ≡ true
    → IsAtDepth (parents dir) d n → IsMoved dir o above moved d n
goes_deep dir o above moved sound down at_moved at_parent zero n within live goes at =
    absurd (both_ways (goes_with dir o.number root) down.root_stays
    (subst (λ (k : ℕ). goes_with dir o.number k ≡ true) at goes))
goes_deep dir o above moved sound down at_moved at_parent (suc d) n within live goes at =
    elim (cases_Bool (nat_eq o.number n)) [
      | inl same ↦ moved_itself dir o above moved (suc d) n at.0 (eqb-true o.number n same) at_moved at at_parent
      | inr differ ↦
          let apart : o.number ≡ n → ⊥ = eqb-false o.number n differ in
          let less : d ≤ max_depth = omega arith in
          let parent_live : is_live dir.objects (parents dir n) ≡ true
          = (below_at dir sound.each n live at.0).parent_live in
          let up : IsMoved dir o above moved d (parents dir n) = goes_deep dir o above moved sound down at_moved
          at_parent d (parents dir n) less parent_live (goes_up dir o.number n d within at.0 at.1 goes apart) at.1
          in
          one_up dir o above moved d n at.0 apart up
    ]
  where
    one_up : (dir : Directory) (o : Object) (above moved d n : ℕ) → (n ≡ root → ⊥) → (o.number ≡ n → ⊥)
        → IsMoved dir o above moved d (parents dir n) → IsMoved dir o above moved (suc d) n
    one_up dir o above moved d n not_root apart up =
        let split : d ≡ up.up + moved = up.split in
        let longer : IsAtDepth (parent_at (put o dir.objects)) (suc (up.up + suc above)) n
        = (not_root, rw (parent_elsewhere dir o n apart) up.chain) in
        let number : suc (up.up + suc above) ≡ suc up.up + suc above = omega arith in
        record {
          up = suc up.up;
          split = omega arith;
          chain
              = subst (λ (k : ℕ). IsAtDepth (parent_at (put o dir.objects)) k n) number longer;
        }

pub moved_placed : (dir : Directory) (o : Object) → IsSound dir → KeepsTree dir o → (n : ℕ) → is_live dir.objects n
    ≡ true → IsPlaced (parent_at (put o dir.objects)) n
moved_placed dir o sound keeps n live =
    elim (cases_Bool (goes_with dir o.number n)) [
      | inl goes ↦
          let at_parent : IsAtDepth (parent_at (put o dir.objects)) parent.depth o.parent
          = stays_deep dir o sound down parent.depth o.parent keeps.parent_live keeps.not_into_itself parent.chain
          in
          let far : IsMoved dir o parent.depth itself.depth old.depth n = goes_deep dir o parent.depth itself.depth
          sound down itself.chain at_parent old.depth n old.within live goes old.chain in
          let bound : old.depth + suc parent.depth ≤ max_depth + itself.depth = keeps.within n old.depth itself.depth
          parent.depth live goes old.chain itself.chain parent.chain in
          let split : old.depth ≡ far.up + itself.depth = far.split in
          record { depth = far.up + suc parent.depth; within = omega arith; chain = far.chain }
      | inr stays ↦ record {
        depth = old.depth;
        within = old.within;
        chain = stays_deep dir o sound down old.depth n
            live stays old.chain;
      }
    ]
  where
    down : GoesDown dir (goes_with dir o.number)
    down = subtree_goes_down dir o.number sound keeps.below

    old : IsPlaced (parents dir) n
    old = placed_at dir sound.each n live

    itself : IsPlaced (parents dir) o.number
    itself = placed_at dir sound.each o.number keeps.live

    parent : IsPlaced (parents dir) o.parent
    parent = placed_at dir sound.each o.parent keeps.parent_live

pub may_move : (dir : Directory) (o : Object) → IsSound dir → KeepsTree dir o → MayMove dir o
may_move dir o sound keeps = record {
  below = keeps.below;
  parent_live = keeps.parent_live;
  apart = not_itself dir o.number o.parent keeps.not_into_itself;
  placed = moved_placed dir o sound keeps;
}
