-- One call that only looks after another.
use Rattle.std.proofs.Common.{◌∙◌, ⊎_elim, ℕ, List, Option, Some, None, arith}
use Rattle.std.proofs.lemmas.Bool.{cases_lt}
use Rattle.site_io.specs.Told.{StaysTold}
use Rattle.site_io.specs.Disk.{Images, GoesOn, LeavesSame}
use Rattle.site_io.specs.Outside.{OnlyLooks}
use Rattle.site_io.specs.declared.site.Site.{Ghosts}

stays_on : {A : Type 0} (r0 r1 r2 : Option A) → StaysTold r0 r1 → StaysTold r1 r2 → StaysTold r0 r2
stays_on None None None first second = tt
stays_on (Some x) (Some y) (Some z) first second = second ∙ first
stays_on None None (Some z) first second = absurd second
stays_on None (Some y) r2 first second = absurd first
stays_on (Some x) None r2 first second = absurd first
stays_on (Some x) (Some y) None first second = absurd second

goes_on_on : (n0 n1 n2 : ℕ) (l0 l1 l2 : ℕ → Images → List ℕ → Type 0) → GoesOn n0 n1 l0 l1 → GoesOn n1 n2 l1 l2
    → GoesOn n0 n2 l0 l2
goes_on_on n0 n1 n2 l0 l1 l2 first second = record {
  later = omega (arith, first.later, second.later);
  earlier = λ t images out lt.
      let old = first.earlier t images out lt in
      let new = second.earlier t images out (omega (arith, lt, first.later)) in
      (λ left. old.0 (new.0 left), λ left. new.1 (old.1 left));
}

leaves_on : (n0 n1 n2 : ℕ) (l0 l1 l2 : ℕ → Images → List ℕ → Type 0) → LeavesSame n0 l0 l1 → GoesOn n0 n1 l0 l1
    → GoesOn n1 n2 l1 l2 → LeavesSame n1 l1 l2 → LeavesSame n0 l0 l2
leaves_on n0 n1 n2 l0 l1 l2 first goes second_goes second t images out le left = ⊎_elim
    (λ lt. first t images out le ((second_goes.earlier t images out lt).0 left))
    (λ ge. first n1 images out goes.later (second t images out ge left))
    (cases_lt t n1)

module _ {S : Type 0} (s : Ghosts S) where
  pub looks_on : (x y z : S) → OnlyLooks s x y → OnlyLooks s y z → OnlyLooks s x z
  looks_on x y z first second = record {
    held = stays_on (s.reads x) (s.reads y) (s.reads z) first.held second.held;
    output = stays_on (s.emitted x) (s.emitted y) (s.emitted z) first.output second.output;
    moments = goes_on_on (s.now x) (s.now y) (s.now z) (s.left x) (s.left y) (s.left z) first.moments second.moments;
    images = leaves_on (s.now x) (s.now y) (s.now z) (s.left x) (s.left y) (s.left z) first.images first.moments
        second.moments second.images;
    never_falls = omega (arith, first.never_falls, second.never_falls);
    out_faults = second.out_faults ∙ first.out_faults;
  }
