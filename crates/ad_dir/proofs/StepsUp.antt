-- Where objects stand, one step up at a time.
use Rattle.std.proofs.Common.{◌≡◌, ℕ, zero, suc, ◌-◌, ◌<◌, ◌≤◌, true, false, Option, Some, None}
use Rattle.std.proofs.Common.{refl, sym, ap, arith}
use Rattle.std.specs.Prelude.{is_some}
use Rattle.std.proofs.lemmas.Bool.{eq-eqb, ne_eqb}
use Rattle.ad_dir_model.specs.Object.{Object}
use Rattle.ad_dir_model.specs.Objects.{object_of}
use Rattle.ad_dir_model.specs.Tree.{root, is_below_within, is_below}
use Rattle.ad_dir_model.specs.Directory.{Directory, parents}
use Rattle.ad_dir_model.specs.Limits.{max_depth}
use Rattle.ad_dir_model.proofs.Finding.{at-of, at-not_live}

-- one step up
pub above_step : (parent : ℕ → ℕ) (left other n : ℕ) → 0 < left → (n ≡ root → ⊥) → (parent n ≡ other → ⊥)
    → is_below_within parent left other n ≡ is_below_within parent (left - 1) other (parent n)
unfolding is_below_within
above_step parent zero other n some not_root apart = absurd (omega (arith, some))
above_step parent (suc left) other n some not_root apart =
    let less : suc left - 1 ≡ left = omega arith in
    rw (ne_eqb n root not_root, ne_eqb (parent n) other apart)
    (ap (λ (levels : ℕ). is_below_within parent levels other (parent n)) (sym less))

pub above_found : (parent : ℕ → ℕ) (left other n : ℕ) → 0 < left → (n ≡ root → ⊥) → parent n ≡ other
    → is_below_within parent left other n ≡ true
unfolding is_below_within
above_found parent zero other n some not_root is = absurd (omega (arith, some))
above_found parent (suc left) other n some not_root is = rw (ne_eqb n root not_root, eq-eqb (parent n) other is) refl

pub above_root : (parent : ℕ → ℕ) (left other n : ℕ) → n ≡ root → is_below_within parent left other n ≡ false
unfolding is_below_within
above_root parent zero other n is = refl
above_root parent (suc left) other n is = rw (eq-eqb n root is) refl

pub above_none : (parent : ℕ → ℕ) (left other n : ℕ) → left ≤ 0 → is_below_within parent left other n ≡ false
unfolding is_below_within
above_none parent zero other n none = refl
above_none parent (suc left) other n none = absurd (omega (arith, none))

pub above_all : (parent : ℕ → ℕ) (other n : ℕ) → is_below_within parent 64 other n ≡ is_below parent other n
unfolding is_below max_depth
above_all parent other n = refl

-- ---- the parent that is found

pub parent_found : (dir : Directory) (n : ℕ) (o : Object) → Some o ≡ object_of dir.objects n → o.parent ≡ parents dir n
parent_found dir n o is = ap (λ (x : Object). x.parent) (sym (at-of dir.objects n o (sym is)))

pub none_found_parent : (dir : Directory) (n : ℕ) → None ≡ object_of dir.objects n → 0 ≡ parents dir n
none_found_parent dir n is = ap (λ (x : Object). x.parent) (sym (at-not_live dir.objects n (ap is_some (sym is))))
