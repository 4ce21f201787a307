-- The containers above an object, one step up at a time.
use Rattle.std.proofs.Common.{◌≡◌, ◌∙◌, ℕ, zero, suc, ◌-◌, ◌<◌, ◌≤◌, true, List, [], ◌∷◌, ◌++◌, refl, sym, ap, subst}
use Rattle.std.proofs.Common.{inl, inr, arith, append_assoc, eq-eqb}
use Rattle.std.specs.Prelude.{All, ◌==◌}
use Rattle.std.proofs.lemmas.Bool.{cases_Bool, ne_eqb, true≢false}
use Rattle.std.proofs.lemmas.List.Elements.{All-nil, All-cons}
use Rattle.ad_dir_model.specs.Limits.{max_depth}
use Rattle.ad_dir_model.specs.Objects.{object_at, is_live, parent_at}
use Rattle.ad_dir_model.specs.Tree.{root}
use Rattle.ad_dir_model.specs.Directory.{Directory, parents}
use Rattle.ad_dir_model.proofs.Finding.{of-live}
use Rattle.ad_dir.specs.Standing.{AreStanding}
use Rattle.ad_policies.specs.Policies.{above_within, above}

-- what the first n levels give, and then those above
pub up_all : (dir : Directory) (n : ℕ) → above_within dir 64 n ≡ above dir n
unfolding above max_depth
up_all dir n = refl

pub up_root : (dir : Directory) (left n : ℕ) → n ≡ root → above_within dir left n ≡ []
unfolding above_within
up_root dir zero n is = refl
up_root dir (suc left) n is = rw (eq-eqb n root is) refl

pub up_none : (dir : Directory) (left n : ℕ) → left ≤ 0 → above_within dir left n ≡ []
unfolding above_within
up_none dir zero n none = refl
up_none dir (suc left) n none = absurd (omega (arith, none))

up_step : (dir : Directory) (left n parent : ℕ) → 0 < left → (n ≡ root → ⊥) → parent ≡ parents dir n
    → parent ∷ above_within dir (left - 1) parent ≡ above_within dir left n
unfolding above_within
up_step dir zero n parent some below is = absurd (omega (arith, some))
up_step dir (suc left) n parent some below is =
    let less : suc left - 1 ≡ left = omega arith in
    rw (ne_eqb n root below) (ap (λ (levels : ℕ). parent ∷ above_within dir levels parent) less
    ∙ ap (λ (p : ℕ). p ∷ above_within dir left p) is)

-- one more container
pub up_more : (dir : Directory) (left n parent : ℕ) (old new : List ℕ) → 0 < left → (n ≡ root → ⊥)
    → parent ≡ parents dir n → new ≡ old ++ parent ∷ []
    → new ++ above_within dir (left - 1) parent ≡ old ++ above_within dir left n
up_more dir left n parent old new some below is more =
    ap (λ (xs : List ℕ). xs ++ above_within dir (left - 1) parent) more
    ∙ append_assoc old (parent ∷ []) (above_within dir (left - 1) parent)
    ∙ ap (λ (xs : List ℕ). old ++ xs) (up_step dir left n parent some below is)

-- ---- they are live

abbrev Lives : Directory → ℕ → Type 0
Lives dir n = is_live dir.objects n ≡ true

up_lives : (dir : Directory) → AreStanding dir.schema dir.objects → (levels n : ℕ) → Lives dir n
    → All (Lives dir) (above_within dir levels n)
unfolding above_within
up_lives dir stand zero n live = All-nil (Lives dir)
up_lives dir stand (suc levels) n live = elim (cases_Bool (n == root)) [
  | inl top ↦ rw top (All-nil (Lives dir))
  | inr below ↦ (let not_root : n ≡ root → ⊥ = λ e. true≢false (sym (eq-eqb n root e) ∙ below) in
      let next : Lives dir (parents dir n)
      = stand.parents n (object_at dir.objects n) (of-live dir.objects n live) not_root in
      rw below (All-cons (Lives dir) (parents dir n) (above_within dir levels (parents dir n)) next
      (up_lives dir stand levels (parents dir n) next)))
]

above_lives : (dir : Directory) → AreStanding dir.schema dir.objects → (n : ℕ) → Lives dir n
    → All (λ m. is_live dir.objects m ≡ true) (above dir n)
unfolding above
above_lives dir stand n live = up_lives dir stand max_depth n live

pub above_live : (dir : Directory) (n : ℕ) (containers : List ℕ) → AreStanding dir.schema dir.objects → Lives dir n
    → containers ≡ above dir n → All (λ m. is_live dir.objects m ≡ true) containers
above_live dir n containers stand live are =
    subst (λ (xs : List ℕ). All (λ m. is_live dir.objects m ≡ true) xs) (sym are) (above_lives dir stand n live)

-- ---- those of one parent

up_alike : (dir : Directory) (levels a b : ℕ) → (a ≡ root → ⊥) → (b ≡ root → ⊥)
    → parent_at dir.objects a ≡ parent_at dir.objects b → above_within dir levels a ≡ above_within dir levels b
unfolding above_within
up_alike dir zero a b first second same = refl
up_alike dir (suc levels) a b first second same =
    rw (ne_eqb a root first, ne_eqb b root second) (ap (λ (p : ℕ). p ∷ above_within dir levels p) same)

pub above_alike : (dir : Directory) (a b : ℕ) → (a ≡ root → ⊥) → (b ≡ root → ⊥)
    → parent_at dir.objects a ≡ parent_at dir.objects b → above dir a ≡ above dir b
unfolding above
above_alike dir a b first second same = up_alike dir max_depth a b first second same
