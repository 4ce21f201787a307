-- How a run of steps goes on.
use Rattle.std.proofs.Common.{◌≡◌, ◌⊎◌, inl, ⊎_elim, subst, ℕ, ◌≤◌, List, Option, Some, None, ◌∙◌, arith}
use Rattle.std.proofs.lemmas.Bool.{cases_lt}
use Rattle.site_io.specs.Told.{StaysTold}
use Rattle.site_io.specs.Disk.{Images, GoesOn, LeavesSame}
use Rattle.gate_log.specs.Moments.{Leaves, Began}

-- what crashes leave during one step: states with P, and an output as it was before the step
abbrev pub During : ℕ → (ℕ → Images → List ℕ → Type 0) → (ℕ → Images → List ℕ → Type 0) → (Images → Type 0) → Type 0
During before old new P = (t : ℕ) (images : Images) (out : List ℕ) → before ≤ t → new t images out → P images
    × ((began : Images) × old before began out)

pub first_step : (n0 n1 : ℕ) (l0 l1 : ℕ → Images → List ℕ → Type 0) (P : Images → Type 0) → GoesOn n0 n1 l0 l1
    → During n0 l0 l1 P → Leaves n0 n1 l0 l1 P
first_step n0 n1 l0 l1 P goes during = record {
  moments = goes;
  each = λ t images out le left. (during t images out le left).0;
  output = λ t images out le left. (during t images out le left).1;
}

pub next_step : (n0 n1 n2 : ℕ) (l0 l1 l2 : ℕ → Images → List ℕ → Type 0) (P : Images → Type 0) → Leaves n0 n1 l0 l1 P
    → GoesOn n1 n2 l1 l2 → During n1 l1 l2 P → Leaves n0 n2 l0 l2 P
next_step n0 n1 n2 l0 l1 l2 P so_far goes during = record {
  moments = record {
    later = omega (arith, so_far.moments.later, goes.later);
    earlier = λ t images out lt.
        let old = so_far.moments.earlier t images out lt in
        let new = goes.earlier t images out (omega (arith, lt, so_far.moments.later)) in
        (λ left. old.0 (new.0 left), λ left. new.1 (old.1 left));
  };
  each = λ t images out le left. ⊎_elim
      (λ lt. so_far.each t images out le ((goes.earlier t images out lt).0 left))
      (λ ge. (during t images out ge left).0)
      (cases_lt t n1);
  output = λ t images out le left. ⊎_elim
      (λ lt. so_far.output t images out le ((goes.earlier t images out lt).0 left))
      (λ ge. let began = (during t images out ge left).1 in so_far.output n1 began.0 out so_far.moments.later began.1)
      (cases_lt t n1);
}

-- with less said of the crash states
pub leaves_weaker : (n0 n1 : ℕ) (l0 l1 : ℕ → Images → List ℕ → Type 0) (P Q : Images → Type 0)
    → ((images : Images) → P images → Q images) → Leaves n0 n1 l0 l1 P → Leaves n0 n1 l0 l1 Q
leaves_weaker n0 n1 l0 l1 P Q weaker so_far = record {
  moments = so_far.moments;
  each = λ t images out le left. weaker images (so_far.each t images out le left);
  output = so_far.output;
}

-- one run after another
pub and_then : (n0 n1 n2 : ℕ) (l0 l1 l2 : ℕ → Images → List ℕ → Type 0) (P : Images → Type 0) → Leaves n0 n1 l0 l1 P
    → Leaves n1 n2 l1 l2 P → Leaves n0 n2 l0 l2 P
and_then n0 n1 n2 l0 l1 l2 P so_far more = next_step n0 n1 n2 l0 l1 l2 P so_far more.moments
    (λ t images out le left. (more.each t images out le left, more.output t images out le left))

-- steps that leave the crash states as they began
pub as_begun : (n0 n1 : ℕ) (l0 l1 : ℕ → Images → List ℕ → Type 0) (Q : Images → Type 0) → GoesOn n0 n1 l0 l1
    → LeavesSame n0 l0 l1 → Leaves n0 n1 l0 l1 (λ images. Began n0 l0 images ⊎ Q images)
as_begun n0 n1 l0 l1 Q goes same = first_step n0 n1 l0 l1 (λ images. Began n0 l0 images ⊎ Q images) goes
    (λ t images out le left.
    let began = same t images out le left in
    (inl (out, began), (images, began)))

-- no step at all
pub no_step : (n : ℕ) (l : ℕ → Images → List ℕ → Type 0) (Q : Images → Type 0)
    → ((t : ℕ) (images : Images) (out : List ℕ) → l t images out → t ≤ n)
    → Leaves n n l l (λ images. Began n l images ⊎ Q images)
no_step n l Q until = as_begun n n l l Q (record {
  later = omega arith;
  earlier = λ t images out lt.
      (λ x. x, λ x. x);
}) (λ t images out le left.
    let here : t ≡ n = omega (arith, le, until t images out left) in
    subst (λ k. l k images out) here left)

pub stays_on : {A : Type 0} (r0 r1 r2 : Option A) → StaysTold r0 r1 → StaysTold r1 r2 → StaysTold r0 r2
stays_on None None None first second = tt
stays_on (Some x) (Some y) (Some z) first second = second ∙ first
stays_on None None (Some z) first second = absurd second
stays_on None (Some y) r2 first second = absurd first
stays_on (Some x) None r2 first second = absurd first
stays_on (Some x) (Some y) None first second = absurd second

pub goes_on_on : (n0 n1 n2 : ℕ) (l0 l1 l2 : ℕ → Images → List ℕ → Type 0) → GoesOn n0 n1 l0 l1 → GoesOn n1 n2 l1 l2
    → GoesOn n0 n2 l0 l2
goes_on_on n0 n1 n2 l0 l1 l2 first second = record {
  later = omega (arith, first.later, second.later);
  earlier = λ t images out lt.
      let old = first.earlier t images out lt in
      let new = second.earlier t images out (omega (arith, lt, first.later)) in
      (λ left. old.0 (new.0 left), λ left. new.1 (old.1 left));
}

pub leaves_on : (n0 n1 n2 : ℕ) (l0 l1 l2 : ℕ → Images → List ℕ → Type 0) → LeavesSame n0 l0 l1 → GoesOn n0 n1 l0 l1
    → GoesOn n1 n2 l1 l2 → LeavesSame n1 l1 l2 → LeavesSame n0 l0 l2
leaves_on n0 n1 n2 l0 l1 l2 first goes second_goes second t images out le left = ⊎_elim
    (λ lt. first t images out le ((second_goes.earlier t images out lt).0 left))
    (λ ge. first n1 images out goes.later (second t images out ge left))
    (cases_lt t n1)
