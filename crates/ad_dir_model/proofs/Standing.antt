-- Where objects stand in the tree, after one was put whose parent is the old one.
use Rattle.std.proofs.Common.{◌≡◌, ℕ, List, Some, inl, inr, sym, subst, ap, ◌∙◌}
use Rattle.std.specs.Prelude.{nat_eq}
use Rattle.std.proofs.lemmas.Bool.{eqb-true, eqb-false, ne_eqb, eq-eqb, cases_Bool}
use Rattle.ad_inherit.specs.Whole.{explicit_part}
use Rattle.prop_queue.specs.declared.pending.Pending.{Pending}
use Rattle.ad_dir_model.specs.Object.{Object}
use Rattle.ad_dir_model.specs.Objects.{object_of, parent_at, put}
use Rattle.ad_dir_model.specs.Tree.{root, IsPlaced}
use Rattle.ad_dir_model.specs.Directory.{Directory, parents}
use Rattle.ad_dir_model.specs.Inheritance.{IsSettledOrCovered}
use Rattle.ad_dir_model.specs.Soundness.{IsRoot, IsBelowRoot, Stands, EachIsSound}
use Rattle.ad_dir_model.proofs.Finding.{of_number, at-of, of-put_same, at-put_same, at-put_other, live-put}
use Rattle.ad_dir_model.proofs.Inheriting.{placed, Inherits}
use Rattle.ad_dir_model.proofs.ScratchLaws.{stands_root, stands_below}
use Rattle.ad_dir_model.proofs.Placing.{put_or_before}

-- the parents are the old ones
parent_put : (o : Object) (objects : List Object) (n : ℕ) → o.parent ≡ parent_at objects o.number
    → parent_at (put o objects) n ≡ parent_at objects n
parent_put o objects n same =
    elim (cases_Bool (nat_eq o.number n)) [
      | inl here ↦ subst (λ (k : ℕ). parent_at (put o objects) k ≡ parent_at objects k) (eqb-true o.number n here)
          (ap (λ (x : Object). x.parent) (at-put_same o objects) ∙ same)
      | inr other ↦ ap (λ (x : Object). x.parent) (at-put_other o objects n (eqb-false o.number n other))
    ]

pub parents_put : (o : Object) (objects : List Object) → o.parent ≡ parent_at objects o.number
    → parent_at (put o objects) ≡ parent_at objects
parents_put o objects same = λ i n. parent_put o objects n same i

-- ---- from what is asked of the root and below it

pub stands_from_root : (dir : Directory) (o : Object) → o.number ≡ root → IsRoot o → Stands dir o
stands_from_root dir o is_root is = rw (eq-eqb o.number root is_root) is

pub stands_from_below : (dir : Directory) (o : Object) → (o.number ≡ root → ⊥) → IsBelowRoot dir o → Stands dir o
stands_from_below dir o not_root is = rw (ne_eqb o.number root not_root) is

-- ---- an object put in the place of one with its parent

pub record StaysInPlace (dir : Directory) (o : Object) : Type 0 where
  pub old : Object
  pub live : object_of dir.objects o.number ≡ Some old
  pub parent : o.parent ≡ old.parent
  pub explicit : o.number ≡ root → explicit_part o.sd ≡ o.sd

pub same_parent : (dir : Directory) (o : Object) → StaysInPlace dir o → o.parent ≡ parent_at dir.objects o.number
same_parent dir o stays = stays.parent ∙ ap (λ (x : Object). x.parent)
    (sym (at-of dir.objects o.number stays.old stays.live))

pub placed_again : (dir : Directory) (o : Object) (n : ℕ) → StaysInPlace dir o → IsPlaced (parents dir) n
    → IsPlaced (parent_at (put o dir.objects)) n
placed_again dir o n stays is = subst (λ (parent : ℕ → ℕ). IsPlaced parent n)
    (sym (parents_put o dir.objects (same_parent dir o stays))) is

put_stands : (dir : Directory) (o old : Object) (pending : List Pending) → StaysInPlace dir o → o.parent ≡ old.parent
    → o.number ≡ old.number → Stands dir old
    → ((o.number ≡ root → ⊥) → IsSettledOrCovered (placed dir o pending) o) → Stands (placed dir o pending) o
put_stands dir o old pending stays parent number before inherits =
    elim (cases_Bool (nat_eq o.number root)) [
      | inl same ↦
          let is : o.number ≡ root = eqb-true o.number root same in
          stands_from_root (placed dir o pending) o is
          (record {
            no_parent = parent ∙ (stands_root dir old (sym number ∙ is) before).no_parent;
            explicit
                = stays.explicit is;
          })
      | inr differ ↦
          let not_root : o.number ≡ root → ⊥ = eqb-false o.number root differ in
          let below : IsBelowRoot dir old = stands_below dir old (λ (e : old.number ≡ root). not_root (number ∙ e))
          before in
          stands_from_below (placed dir o pending) o not_root (record {
            parent_live = live-put o dir.objects o.parent (rw parent below.parent_live);
            placed = placed_again dir o o.number stays (rw number below.placed);
            inherits = inherits not_root;
          })
    ]

other_stands : (dir : Directory) (o x : Object) (pending : List Pending) → StaysInPlace dir o → Stands dir x
    → ((x.number ≡ root → ⊥) → IsSettledOrCovered (placed dir o pending) x) → Stands (placed dir o pending) x
other_stands dir o x pending stays before inherits =
    elim (cases_Bool (nat_eq x.number root)) [
      | inl same ↦
          let is : x.number ≡ root = eqb-true x.number root same in
          stands_from_root (placed dir o pending) x is (stands_root dir x is before)
      | inr differ ↦
          let not_root : x.number ≡ root → ⊥ = eqb-false x.number root differ in
          let below : IsBelowRoot dir x = stands_below dir x not_root before in
          stands_from_below (placed dir o pending) x not_root (record {
            parent_live = live-put o dir.objects x.parent below.parent_live;
            placed = placed_again dir o x.number stays below.placed;
            inherits = inherits not_root;
          })
    ]

pub each_stands : (dir : Directory) (o : Object) (pending : List Pending) → EachIsSound dir → StaysInPlace dir o
    → Inherits (placed dir o pending)
    → (m : ℕ) (x : Object) → object_of (put o dir.objects) m ≡ Some x → Stands (placed dir o pending) x
each_stands dir o pending each stays inherits m x is =
    elim (put_or_before o dir.objects m x is) [
      | inl itself ↦
          let old_number : stays.old.number ≡ o.number = of_number dir.objects o.number stays.old stays.live in
          subst (Stands (placed dir o pending)) itself
          (put_stands dir o stays.old pending stays stays.parent (sym old_number)
          (each o.number stays.old stays.live).stands
          (λ not_root. inherits.each o.number o (of-put_same o dir.objects) not_root))
      | inr before ↦
          other_stands dir o x pending stays (each m x before.live).stands
          (λ not_root. inherits.each m x is (λ (e : m ≡ root). not_root (before.number ∙ e)))
    ]
