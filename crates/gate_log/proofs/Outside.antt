-- One call after another, outside of what they are for.
use Rattle.std.proofs.Common.{◌≡◌, ◌∙◌, ⊎_elim, subst, sym, ap, ℕ, ◌≤◌, List, Option, Some, None, arith}
use Rattle.std.proofs.lemmas.Bool.{cases_lt}
use Rattle.site_io.specs.Told.{StaysTold}
use Rattle.std.specs.Option.{IfSome}
use Rattle.site_io.specs.Disk.{Images, at_slot, GoesOn, LeavesEmitted, LeavesHeld}
use Rattle.site_io.specs.declared.slot.Slot.{Slot}
use Rattle.site_io.specs.declared.slot.Slot.TheVariants.{A, B}
use Rattle.gate_log.specs.StoreOfLog.{RestsIn, StandsIn}
use Rattle.gate_log.specs.declared.log.Log.{Log}
use Rattle.site_io.specs.declared.site.Site.{Ghosts}
use Rattle.site_io.specs.Outside.{StaysKnown, EmitsNothing, TouchesSlots, OnlyLooks}
use Rattle.gate_log.proofs.Runs.{stays_on, goes_on_on}

known_on : (r0 r1 r2 : Option Images) → StaysKnown r0 r1 → StaysKnown r1 r2 → StaysKnown r0 r2
known_on None None None first second = tt
known_on (Some x) (Some y) (Some z) first second = tt
known_on None None (Some z) first second = absurd second
known_on None (Some y) r2 first second = absurd first
known_on (Some x) None r2 first second = absurd first
known_on (Some x) (Some y) None first second = absurd second

stays_known : (r0 r1 : Option Images) → StaysTold r0 r1 → StaysKnown r0 r1
stays_known None None same = tt
stays_known (Some x) (Some y) same = tt
stays_known None (Some y) same = absurd same
stays_known (Some x) None same = absurd same

quiet_on : (n0 n1 n2 : ℕ) (l0 l1 l2 : ℕ → Images → List ℕ → Type 0) → EmitsNothing n0 l0 l1 → GoesOn n0 n1 l0 l1
    → GoesOn n1 n2 l1 l2 → EmitsNothing n1 l1 l2 → EmitsNothing n0 l0 l2
quiet_on n0 n1 n2 l0 l1 l2 first goes second_goes second t images out le left = ⊎_elim
    (λ lt. first t images out le ((second_goes.earlier t images out lt).0 left))
    (λ ge. let began = second t images out ge left in first n1 began.0 out goes.later began.1)
    (cases_lt t n1)

module _ {S : Type 0} (s : Ghosts S) where
  pub touches_on : (x y z : S) → TouchesSlots s x y → TouchesSlots s y z → TouchesSlots s x z
  touches_on x y z first second = record {
    known = known_on (s.reads x) (s.reads y) (s.reads z) first.known second.known;
    output = stays_on (s.emitted x) (s.emitted y) (s.emitted z) first.output second.output;
    moments = goes_on_on (s.now x) (s.now y) (s.now z) (s.left x) (s.left y) (s.left z) first.moments second.moments;
    quiet = quiet_on (s.now x) (s.now y) (s.now z) (s.left x) (s.left y) (s.left z) first.quiet first.moments
        second.moments second.quiet;
    never_falls = omega (arith, first.never_falls, second.never_falls);
    out_faults = second.out_faults ∙ first.out_faults;
  }

  -- a call that only looks touches the slots at most
  pub looks_touch : (x y : S) → OnlyLooks s x y → TouchesSlots s x y
  looks_touch x y looks = record {
    known = stays_known (s.reads x) (s.reads y) looks.held;
    output = looks.output;
    moments = looks.moments;
    quiet = λ t images out le left. (images, looks.images t images out le left);
    never_falls = looks.never_falls;
    out_faults = looks.out_faults;
  }

  stays_same : {X : Type 0} (r : Option X) → StaysTold r r
  stays_same None = tt
  stays_same (Some x) = λ i. x

  -- no call at all
  pub looks_not : (x : S) → ((t : ℕ) (images : Images) (out : List ℕ) → s.left x t images out → t ≤ s.now x)
      → OnlyLooks s x x
  looks_not x until = record {
    held = stays_same (s.reads x);
    output = stays_same (s.emitted x);
    moments = record { later = omega arith; earlier = λ t images out lt. (λ left. left, λ left. left) };
    images = λ t images out le left. let here : t ≡ s.now x = omega (arith, le, until t images out left)
        in subst (λ k. s.left x k images out) here left;
    never_falls = omega arith;
    out_faults = λ i. s.out_faults x;
  }

  pub touches_not : (x : S) → ((t : ℕ) (images : Images) (out : List ℕ) → s.left x t images out → t ≤ s.now x)
      → TouchesSlots s x x
  touches_not x until = looks_touch x x (looks_not x until)

held_still : (slot : Slot) (r0 r1 : Option Images) (n0 n1 : ℕ) (l0 l1 : ℕ → Images → List ℕ → Type 0) (bytes : List ℕ)
    → StaysTold r0 r1 → n0 ≤ n1 → LeavesEmitted bytes n0 l0 l1 → LeavesHeld slot r0 n0 l0 → LeavesHeld slot r1 n1 l1
held_still slot None None n0 n1 l0 l1 bytes told later emits held = tt
held_still slot (Some x) (Some y) n0 n1 l0 l1 bytes told later emits held = λ images out left.
    let began = emits n1 images out later left in
    held images began.0 began.2 ∙ ap (at_slot slot) (sym told)
held_still slot None (Some y) n0 n1 l0 l1 bytes told later emits held = absurd told
held_still slot (Some x) None n0 n1 l0 l1 bytes told later emits held = absurd told

-- An emit keeps a log standing.
pub emit_stands : (log : Log) (r0 r1 : Option Images) (n0 n1 : ℕ) (l0 l1 : ℕ → Images → List ℕ → Type 0)
    (bytes : List ℕ) → StandsIn log r0 n0 l0 → StaysTold r0 r1 → n0 ≤ n1 → LeavesEmitted bytes n0 l0 l1
    → StandsIn log r1 n1 l1
emit_stands log r0 r1 n0 n1 l0 l1 bytes stands told later emits = λ unspent.
    let now = stands unspent in (
      rest_told r0 r1 told now.0,
      λ settled. (
        held_still A r0 r1 n0 n1 l0 l1 bytes told later emits (now.1 settled).0,
        held_still B r0 r1 n0 n1 l0 l1 bytes
            told later emits (now.1 settled).1,
      ),
    )
  where
    rest_told : (r0 r1 : Option Images) → StaysTold r0 r1
        → IfSome r0 (λ held. (bodies : List (List ℕ)) × RestsIn log held bodies)
        → IfSome r1 (λ held. (bodies : List (List ℕ)) × RestsIn log held bodies)
    rest_told None None told rests = tt
    rest_told (Some x) (Some y) told rests = subst (λ held. (bodies : List (List ℕ)) × RestsIn log held bodies)
        (sym told) rests
    rest_told None (Some y) told rests = absurd told
    rest_told (Some x) None told rests = absurd told
