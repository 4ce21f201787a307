-- Descriptors that are recomputed from the root, and how many objects have others.
use Rattle.std.proofs.Common.{◌≡◌, ℕ, ◌+◌, Bool, true, false, List, [], ◌∷◌, refl, sym, ap, ◌∙◌, inl, inr}
use Rattle.std.proofs.lemmas.Bool.{cases_Bool}
use Rattle.std.proofs.Common.{get_or, zero, suc, ◌-◌, ◌<◌, ◌≤◌, not, subst, arith, drop, length, length-drop}
use Rattle.std.proofs.Common.{if◌then◌else◌}
use Rattle.std.proofs.lemmas.List.{nil_from_length}
use Rattle.std.specs.Prelude.{nat_eq}
use Rattle.std.specs.List.{AllByRecursion}
use Rattle.std.proofs.lemmas.Bool.{eq-eqb, ne_eqb, eqb-true, eqb-false}
use Rattle.ad_inherit.specs.Whole.{explicit_part, whole}
use Rattle.ad_dir_model.specs.Inheritance.{guid_at}
use Rattle.ad_dir_model.specs.SameSd.{same_sd}
use Rattle.ad_dir_model.proofs.SameSdLaws.{same_sd-refl}
use Rattle.ad_dir_model.specs.Directory.{Directory, parents}
use Rattle.ad_dir_model.specs.Inheritance.{scratch_within, scratch}
use Rattle.ad_dir_model.specs.Limits.{max_depth}
use Rattle.ad_dir_model.specs.Objects.{numbers, is_live, object_at, sd_at}
use Rattle.ad_dir_model.specs.Soundness.{IsSound}
use Rattle.ad_dir_model.specs.Steps.{count}
use Rattle.ad_dir_model.specs.Tree.{root, IsAtDepth}
use Rattle.ad_dir_model.proofs.Counting.{all_numbers}
use Rattle.ad_dir_model.proofs.Finding.{at_number}
use Rattle.ad_dir_model.proofs.ScratchLaws.{whole_of_explicit, below_at, settled_scratch}
use Rattle.cmd_store.specs.Stale.{is_stale, stale}

-- ---- one level

pub root_scratch : (dir : Directory) (levels : ℕ) (number : ℕ) → number ≡ root → explicit_part (sd_at dir.objects 1)
    ≡ scratch_within dir (suc levels) number
unfolding scratch_within
root_scratch dir levels number is = rw (eq-eqb number root is)
    (ap (λ (n : ℕ). explicit_part (sd_at dir.objects n)) (sym is))

pub below_scratch : (dir : Directory) (levels number : ℕ) → (number ≡ root → ⊥)
    → whole (scratch_within dir levels (parents dir number)) (sd_at dir.objects number)
    (guid_at dir.schema (object_at dir.objects number).class) ≡ scratch_within dir (suc levels) number
unfolding scratch_within
below_scratch dir levels number not_root =
    rw (ne_eqb number root not_root)
    (sym (whole_of_explicit (scratch_within dir levels (parents dir number)) (sd_at dir.objects number)
    (guid_at dir.schema (object_at dir.objects number).class)))

-- the parent of an object below the root stands one level higher
pub up : (dir : Directory) (levels number : ℕ) → (number ≡ root → ⊥) → (depth : ℕ) × (depth ≤ levels)
    × IsAtDepth (parents dir) depth number
    → (0 < levels) × ((depth : ℕ) × (depth ≤ levels - 1) × IsAtDepth (parents dir) depth (parents dir number))
up dir levels number not_root (zero, fits, at) = absurd (not_root at)
up dir levels number not_root (suc depth, fits, at) = (omega (arith, fits), (depth, omega (arith, fits), at.1))

-- where nothing is pending nothing is stale
none_in : (test : ℕ → Bool) (ns : List ℕ) → AllByRecursion (λ (n : ℕ). test n ≡ false) ns → count test ns ≡ 0
unfolding count
none_in test [] all = refl
none_in test (n ∷ ns) all = rw (all.0, none_in test ns all.1) refl

pub none_stale : (dir : Directory) → IsSound dir → dir.pending ≡ [] → stale dir ≡ 0
unfolding stale
none_stale dir sound empty = none_in (is_stale dir) (numbers dir.objects)
    (all_numbers (λ (n : ℕ). is_stale dir n ≡ false) dir.objects (λ n live.
    ap not (ap (same_sd (sd_at dir.objects n)) (sym (settled_scratch dir sound empty n live))
    ∙ same_sd-refl (sd_at dir.objects n))))

-- the object of a number that is live stands in the tree
pub placed_within : (dir : Directory) (number : ℕ) → IsSound dir → is_live dir.objects number ≡ true → (depth : ℕ)
    × (depth ≤ 64) × IsAtDepth (parents dir) depth number
unfolding max_depth
placed_within dir number sound live = elim (cases_Bool (nat_eq number root)) [
  | inl is ↦ (0, omega arith, eqb-true number root is)
  | inr not ↦
      let placed = (below_at dir sound.each number live (eqb-false number root not)).placed in (
        placed.depth,
        placed.within,
        subst (IsAtDepth (parents dir) placed.depth) (at_number dir.objects number live)
            placed.chain,
      )
]

pub scratch_64 : (dir : Directory) (number : ℕ) → scratch_within dir 65 number ≡ scratch dir number
unfolding scratch max_depth
scratch_64 dir number = refl

-- ---- the loop over all objects

-- so many are stale among the numbers up to a place, and each of those from there on is live
pub record IsCounting (dir : Directory) (ns : List ℕ) (n i : ℕ) : Type 0 where
  pub so_far : n + count (is_stale dir) (drop i ns) ≡ stale dir
  pub live : AllByRecursion (λ (number : ℕ). is_live dir.objects number ≡ true) (drop i ns)
  pub few : n ≤ i

pub counting_from : (dir : Directory) (ns : List ℕ) → ns ≡ numbers dir.objects → IsCounting dir ns 0 0
unfolding stale
counting_from dir ns is = record {
  so_far = let all : count (is_stale dir) ns ≡ count (is_stale dir) (numbers dir.objects) = ap (count (is_stale dir))
      is in omega (arith, all);
  live = subst (AllByRecursion (λ (number : ℕ). is_live dir.objects number ≡ true)) (sym is)
      (all_numbers (λ (number : ℕ). is_live dir.objects number ≡ true) dir.objects (λ number live. live));
  few = omega arith;
}

front : (i : ℕ) (ns : List ℕ) → i < length ns → drop i ns ≡ get_or ns i 0 ∷ drop (suc i) ns
front i [] less = absurd (omega (arith, less))
front zero (n ∷ ns) less = refl
front (suc i) (n ∷ ns) less = front i ns (omega (arith, less))

count_front : (test : ℕ → Bool) (x : ℕ) (ns : List ℕ) (b : Bool) → test x ≡ b → count test (x ∷ ns)
    ≡ (if b then 1 else 0) + count test ns
unfolding count
count_front test x ns b is = ap (λ (c : Bool). (if c then 1 else 0) + count test ns) is

pub counted_more : (dir : Directory) (ns : List ℕ) (n i j : ℕ) (b : Bool) → IsCounting dir ns n i → j ≡ suc i → i
    < length ns → b ≡ is_stale dir (get_or ns i 0) → IsCounting dir ns (n + (if b then 1 else 0)) j
counted_more dir ns n i j b counting next less stale_here =
    let here = ap (count (is_stale dir)) (front i ns less) ∙ count_front (is_stale dir) (get_or ns i 0)
    (drop (suc i) ns) b (sym stale_here) in
    subst (IsCounting dir ns (n + (if b then 1 else 0))) (sym next) (record {
      so_far = omega (arith, counting.so_far, here);
      live = (subst (AllByRecursion (λ (number : ℕ). is_live dir.objects number ≡ true)) (front i ns less)
          counting.live).1;
      few = at_most b (counting.few);
    })
  where
    at_most : (c : Bool) → n ≤ i → n + (if c then 1 else 0) ≤ suc i
    at_most true le = omega (arith, le)
    at_most false le = omega (arith, le)

none_counted : (test : ℕ → Bool) (ns : List ℕ) → ns ≡ [] → count test ns ≡ 0
unfolding count
none_counted test [] is = refl
none_counted test (n ∷ ns) is = absurd cc

pub counted_all : (dir : Directory) (ns : List ℕ) (n i : ℕ) → IsCounting dir ns n i → length ns ≤ i → n ≡ stale dir
counted_all dir ns n i counting end =
    let none = none_counted (is_stale dir) (drop i ns)
    (nil_from_length (drop i ns) (omega (arith, length-drop i ns, end))) in
    omega (arith, counting.so_far, none)
