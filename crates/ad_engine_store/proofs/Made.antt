-- How many steps are made of those that are asked for, and what they make.
use Rattle.std.proofs.Common.{◌≡◌, ◌∙◌, ⊎_elim, ℕ, zero, suc, ◌+◌, ◌-◌, ◌<◌, ◌≤◌, List, [], ◌∷◌, refl, sym, ap, arith}
use Rattle.std.proofs.lemmas.Bool.{cases_lt}
use Rattle.prop_queue.specs.declared.pending.Pending.{Pending}
use Rattle.ad_dir_model.specs.Directory.{Directory}
use Rattle.ad_dir_model.specs.Soundness.{IsSound}
use Rattle.ad_dir_model.specs.Steps.{stepped, step, steps, work}
use Rattle.ad_dir_model.proofs.StepSound.{step_sound}
use Rattle.ad_dir_model.proofs.WorkLaws.{work_falls as step_lowers}
use Rattle.ad_engine_store.specs.Settling.{one_more, steps_made}
use Rattle.ad_engine_store.specs.Settling.{AreSteps}

pub steps_after : (n m : ℕ) (dir : Directory) → steps m (steps n dir) ≡ steps (n + m) dir
unfolding steps
steps_after zero m dir = let same : m ≡ 0 + m = omega arith in ap (λ (k : ℕ). steps k dir) same
steps_after (suc n) m dir = let same : suc (n + m) ≡ suc n + m = omega arith in steps_after n m (step dir)
    ∙ ap (λ (k : ℕ). steps k dir) same

-- where nothing is pending steps change nothing
step_idle : (dir : Directory) → dir.pending ≡ [] → step dir ≡ dir
unfolding step
step_idle dir idle = ap (stepped dir) idle

steps_idle : (n : ℕ) (dir : Directory) → dir.pending ≡ [] → steps n dir ≡ dir
unfolding steps
steps_idle zero dir idle = refl
steps_idle (suc n) dir idle = ap (steps n) (step_idle dir idle) ∙ steps_idle n dir idle

-- as many as were asked for, or fewer where nothing is pending any more
pub made_all : (n most : ℕ) (old new : Directory) → new ≡ steps n old → n ≤ most → (n < most → new.pending ≡ []) → new
    ≡ steps most old
made_all n most old new are few idle =
    ⊎_elim (λ (less : n < most).
    let rest : n + (most - n) ≡ most = omega (arith, few) in
    sym (steps_idle (most - n) new (idle less)) ∙ ap (steps (most - n)) are ∙ steps_after n (most - n) old
    ∙ ap (λ (k : ℕ). steps k old) rest)
    (λ (no_less : most ≤ n).
    let same : n ≡ most = omega (arith, few, no_less) in are ∙ ap (λ (k : ℕ). steps k old) same) (cases_lt n most)

more : (ps : List Pending) (k : ℕ) → (ps ≡ [] → ⊥) → one_more ps k ≡ suc k
more [] k some = absurd (some refl)
more (p ∷ ps) k some = refl

made_of : (n most : ℕ) (old : Directory) → n ≤ most → ((m : ℕ) → m < n → (steps m old).pending ≡ [] → ⊥)
    → (n < most → (steps n old).pending ≡ []) → n ≡ steps_made most old
unfolding steps steps_made
made_of zero zero old few some idle = refl
made_of zero (suc most) old few some idle
    = sym (ap (λ (ps : List Pending). one_more ps (steps_made most (step old))) (idle (omega arith)))
made_of (suc n) zero old few some idle = absurd (omega (arith, few))
made_of (suc n) (suc most) old few some idle =
    let fewer : n ≤ most = omega (arith, few) in
    ap (λ (k : ℕ). suc k) (made_of n most (step old) fewer (λ m less. some (suc m) (omega (arith, less)))
    (λ less. idle (omega (arith, less))))
    ∙ sym (more old.pending (steps_made most (step old)) (some 0 (omega arith)))

pub made_count : (n most : ℕ) (old new : Directory) → new ≡ steps n old → n ≤ most
    → ((m : ℕ) → m < n → (steps m old).pending ≡ [] → ⊥)
    → (n < most → new.pending ≡ []) → n ≡ steps_made most old
made_count n most old new are few some idle =
    made_of n most old few some (λ less. ap (λ (d : Directory). d.pending) (sym are) ∙ idle less)

-- where something is pending, some are made
pub some_made : (most : ℕ) (dir : Directory) → (most ≡ 0 → ⊥) → (dir.pending ≡ [] → ⊥) → steps_made most dir ≡ 0 → ⊥
unfolding steps_made
some_made zero dir some pending none = some refl
some_made (suc n) dir some pending none = let is = more dir.pending (steps_made n (step dir)) pending
    in omega (arith, is, none)

pub are_none : (dir : Directory) → AreSteps 0 dir dir
unfolding steps
are_none dir = record { stepped = refl; not_before = λ m less _. absurd (omega (arith, less)) }

-- where nothing is asked for or pending, none are
pub none_due : (most : ℕ) (dir : Directory) → (0 < most → dir.pending ≡ []) → (0 ≡ steps_made most dir)
    × (dir ≡ steps most dir)
unfolding steps
none_due most dir idle = (
  made_of 0 most dir (omega arith) (λ m less _. absurd (omega (arith, less))) idle,
  made_all 0 most dir dir refl (omega arith) idle,
)

-- ---- steps that change nothing are none

-- they never raise the work that is left
no_more_work : (n : ℕ) (dir : Directory) → IsSound dir → work (steps n dir) ≤ work dir
unfolding steps
no_more_work zero dir sound = omega arith
no_more_work (suc n) dir sound = by dir.pending refl (no_more_work n (step dir) (step_sound dir sound))
  where
    by : (ps : List Pending) → dir.pending ≡ ps → work (steps n (step dir)) ≤ work (step dir)
        → work (steps n (step dir)) ≤ work dir
    by [] none rest = let same : work (step dir) ≡ work dir = ap work (step_idle dir none) in omega (arith, same, rest)
    by (p ∷ ps) some rest = let less : work (step dir) < work dir = step_lowers dir sound (λ none. absurd cc)
        in omega (arith, less, rest)

pub none_made_of : (most : ℕ) (dir : Directory) → IsSound dir → steps most dir ≡ dir → steps_made most dir ≡ 0
unfolding steps steps_made
none_made_of zero dir sound same = refl
none_made_of (suc n) dir sound same = by dir.pending refl same
  where
    by : (ps : List Pending) → dir.pending ≡ ps → steps n (step dir) ≡ dir
        → one_more dir.pending (steps_made n (step dir)) ≡ 0
    by [] none is = ap (λ (ps : List Pending). one_more ps (steps_made n (step dir))) none
    by (p ∷ ps) some is =
        let less : work (step dir) < work dir = step_lowers dir sound (λ none. absurd cc) in
        let rest = no_more_work n (step dir) (step_sound dir sound) in
        let same_work : work (steps n (step dir)) ≡ work dir = ap work is in
        absurd (omega (arith, less, rest, same_work))
