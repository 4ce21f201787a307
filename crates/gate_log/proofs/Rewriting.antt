-- The four steps that put one body in the place of all.
use Rattle.std.proofs.Common.{◌≡◌, ◌⊎◌, inl, inr, ℕ, ◌+◌, ◌<◌, ◌≤◌, ◌^◌, List, [], ◌∷◌, ◌++◌, length, Option, Some}
use Rattle.std.proofs.Common.{None, Bool, true, false, refl, sym, ◌∙◌, ap, subst, arith}
use Rattle.std.specs.Option.{IfSome}
use Rattle.std.specs.Bool.{MatchBool}
use Rattle.site_io.specs.Told.{BothTold}
use Rattle.site_io.specs.Disk.{Images, at_slot, with_slot, put, GoesOn, LeavesSame, LeavesTorn}
use Rattle.site_io.specs.declared.slot.Slot.{Slot}
use Rattle.site_io.specs.declared.slot.Slot.TheVariants.{A, B}
use Rattle.gate_log.specs.Layout.{snapshot, Fresh, HasRecords}
use Rattle.gate_log.specs.Moments.{Leaves, LastsWhole}
use Rattle.gate_log.specs.Steps.{Puts}
use Rattle.gate_log.specs.Store.{other, IsClosed, IsOlder, HasBodies, OtherRests, Rests, number_of}
use Rattle.gate_log.specs.Rewriting.{must_close, Closes, Prepared}
use Rattle.gate_log.specs.declared.version.Version.{Version}
use Rattle.gate_log.specs.declared.version.Version.TheVariants.{One, Two}
use Rattle.gate_log.proofs.Adding.{changed}
use Rattle.gate_log.proofs.Images.{at_with, held_whole, rests_has}
use Rattle.gate_log.proofs.Runs.{During, first_step, next_step}
use Rattle.gate_log.proofs.Slots.{put_closed, torn_older, torn_closed, put_fresh}

pub beside : (live : Slot) (images : Images) (bytes : List ℕ) → at_slot live (with_slot (other live) images bytes)
    ≡ at_slot live images
beside A images bytes = refl
beside B images bytes = refl

pub beside_other : (live : Slot) (images : Images) (bytes : List ℕ) → at_slot (other (other live))
    (with_slot (other live) images bytes) ≡ at_slot live images
beside_other A images bytes = refl
beside_other B images bytes = refl

pub other_twice : (live : Slot) (images : Images) → at_slot (other (other live)) images ≡ at_slot live images
other_twice A images = refl
other_twice B images = refl

-- a store of version 1
pub one_has : (live : Slot) (generation end : ℕ) (images : Images) (bodies : List (List ℕ)) → live ≡ A → generation
    ≡ 1 → HasRecords (at_slot live images) 1 generation end bodies → HasBodies images bodies
one_has live generation end images bodies is_a is_first has =
    inl (
      end,
      subst (λ slot. HasRecords (at_slot slot images) 1 1 end bodies) is_a
          (subst (λ g. HasRecords (at_slot live images) 1 g end bodies) is_first has),
    )

-- a store of version 2
pub two_has : (live : Slot) (generation end : ℕ) (images : Images) (bodies : List (List ℕ)) → 0 < generation
    → generation < 2 ^ 64 → HasRecords (at_slot live images) 2 generation end bodies
    → IsClosed (at_slot (other live) images) ⊎ IsOlder generation (at_slot (other live) images)
    → HasBodies images bodies
two_has live generation end images bodies above below has rest
    = inr (record {
      live = live;
      generation = generation;
      end = end;
      has = has;
      above = above;
      below = below;
      rest
          = rest;
    })

-- With a closed slot beside it, a live slot makes a store.
pub beside_closed : (version : Version) (live : Slot) (generation end : ℕ) (is_open : Bool) (held : Images)
    (bodies : List (List ℕ)) (bytes : List ℕ) → Rests version live generation end is_open held bodies → IsClosed bytes
    → HasBodies (with_slot (other live) held bytes) bodies
beside_closed One live generation end is_open held bodies bytes rests closed =
    one_has live generation end (with_slot (other live) held bytes) bodies rests.rest.0 rests.rest.1
    (subst (λ (l : List ℕ). HasRecords l 1 generation end bodies) (sym (beside live held bytes)) rests.has)
beside_closed Two live generation end is_open held bodies bytes rests closed =
    two_has live generation end (with_slot (other live) held bytes) bodies rests.above rests.below
    (subst (λ (l : List ℕ). HasRecords l 2 generation end bodies) (sym (beside live held bytes)) rests.has)
    (inl (subst IsClosed (sym (at_with (other live) held bytes)) closed))

-- In version 1 it does, whatever stands beside it.
pub beside_any : (live : Slot) (generation end : ℕ) (is_open : Bool) (held : Images) (bodies : List (List ℕ))
    (bytes : List ℕ) → Rests One live generation end is_open held bodies
    → HasBodies (with_slot (other live) held bytes) bodies
beside_any live generation end is_open held bodies bytes rests =
    one_has live generation end (with_slot (other live) held bytes) bodies rests.rest.0 rests.rest.1
    (subst (λ (l : List ℕ). HasRecords l 1 generation end bodies) (sym (beside live held bytes)) rests.has)

beside_older : (live : Slot) (generation end : ℕ) (is_open : Bool) (held : Images) (bodies : List (List ℕ))
    (bytes : List ℕ) → Rests Two live generation end is_open held bodies → IsClosed bytes ⊎ IsOlder generation bytes
    → HasBodies (with_slot (other live) held bytes) bodies
beside_older live generation end is_open held bodies bytes rests rest =
    two_has live generation end (with_slot (other live) held bytes) bodies rests.above rests.below
    (subst (λ (l : List ℕ). HasRecords l 2 generation end bodies) (sym (beside live held bytes)) rests.has)
    (subst (λ (l : List ℕ). IsClosed l ⊎ IsOlder generation l) (sym (at_with (other live) held bytes)) rest)

other_rests_closed : (version : Version) (live : Slot) (generation : ℕ) (is_open : Bool) (old new : List ℕ)
    → OtherRests version live generation is_open old → IsClosed new → OtherRests version live generation false new
other_rests_closed One live generation is_open old new rest closed = rest
other_rests_closed Two live generation is_open old new rest closed = closed

rests_closed : (version : Version) (live : Slot) (generation end : ℕ) (is_open : Bool) (held : Images)
    (bodies : List (List ℕ)) (bytes : List ℕ) → Rests version live generation end is_open held bodies → IsClosed bytes
    → Rests version live generation end false (with_slot (other live) held bytes) bodies
rests_closed version live generation end is_open held bodies bytes rests closed = record {
  has = subst (λ (l : List ℕ). HasRecords l (number_of version) generation end bodies) (sym (beside live held bytes))
      rests.has;
  rest = other_rests_closed version live generation is_open (at_slot (other live) held)
      (at_slot (other live) (with_slot (other live) held bytes)) rests.rest
      (subst IsClosed (sym (at_with (other live) held bytes)) closed);
  above = rests.above;
  below = rests.below;
}

-- (1) While the other slot is closed, the store has the bodies.
pub closing : (version : Version) (live : Slot) (generation end : ℕ) (is_open : Bool) (held : Images)
    (bodies : List (List ℕ)) (n0 : ℕ) (l0 l1 : ℕ → Images → List ℕ → Type 0) → Rests version live generation end
    is_open held bodies → LastsWhole (Some held) n0 l0
    → MatchBool (must_close version is_open) (LeavesTorn (other live) 0 1 n0 l0 l1) (LeavesSame n0 l0 l1)
    → During n0 l0 l1 (λ images. HasBodies images bodies)
closing One live generation end is_open held bodies n0 l0 l1 rests lasts torn =
    changed (other live) 0 1 held n0 l0 l1 (λ images. HasBodies images bodies) lasts torn (λ images only torn.
    subst (λ i. HasBodies i bodies) (sym only)
    (beside_any live generation end is_open held bodies (at_slot (other live) images) rests))
closing Two live generation end true held bodies n0 l0 l1 rests lasts torn =
    changed (other live) 0 1 held n0 l0 l1 (λ images. HasBodies images bodies) lasts torn (λ images only torn.
    subst (λ i. HasBodies i bodies) (sym only)
    (beside_older live generation end true held bodies (at_slot (other live) images) rests
    (torn_older generation (at_slot (other live) held) (at_slot (other live) images) rests.rest torn)))
closing Two live generation end false held bodies n0 l0 l1 rests lasts same = λ t images out le left.
    let began = same t images out le left in (
      subst (λ i. HasBodies i bodies) (sym (held_whole held n0 l0 lasts.0 lasts.1 images out began))
          (rests_has Two live generation end false held bodies rests),
      (images, began),
    )

-- the live slot as it was, and the other closed
record Closed (version : Version) (live : Slot) (generation end : ℕ) (held : Images) (bodies : List (List ℕ)) : Type 0
  where
    rests : Rests version live generation end false held bodies
    closed : IsClosed (at_slot (other live) held)

closed_with : (version : Version) (live : Slot) (generation end : ℕ) (is_open : Bool) (held after : Images)
    (bodies : List (List ℕ)) (bytes : List ℕ) → Rests version live generation end is_open held bodies → IsClosed bytes
    → after ≡ with_slot (other live) held bytes → Closed version live generation end after bodies
closed_with version live generation end is_open held after bodies bytes rests closed is = record {
  rests = subst (λ i. Rests version live generation end false i bodies) (sym is)
      (rests_closed version live generation end is_open held bodies bytes rests closed);
  closed = subst IsClosed (sym (ap (at_slot (other live)) is ∙ at_with (other live) held bytes)) closed;
}

is_closed : (version : Version) (live : Slot) (generation end : ℕ) (is_open : Bool) (held after : Images)
    (bodies : List (List ℕ)) → Rests version live generation end is_open held bodies
    → Closes (must_close version is_open) (other live) held after → Closed version live generation end after bodies
is_closed One live generation end is_open held after bodies rests is = closed_with One live generation end is_open
    held after bodies (put 0 (0 ∷ []) (at_slot (other live) held)) rests (put_closed (at_slot (other live) held)) is
is_closed Two live generation end true held after bodies rests is = closed_with Two live generation end true held
    after bodies (put 0 (0 ∷ []) (at_slot (other live) held)) rests (put_closed (at_slot (other live) held)) is
is_closed Two live generation end false held after bodies rests is = record {
  rests = subst (λ i. Rests Two live generation end false i bodies) (sym is) rests;
  closed = subst (λ i. IsClosed (at_slot (other live) i)) (sym is) rests.rest;
}

-- (2) While a snapshot is written behind the closed gate, too.
writing : (version : Version) (live : Slot) (generation end n : ℕ) (held : Images) (bodies : List (List ℕ)) (n1 : ℕ)
    (l1 l2 : ℕ → Images → List ℕ → Type 0) → Closed version live generation end held bodies
    → LastsWhole (Some held) n1 l1
    → LeavesTorn (other live) 1 n n1 l1 l2 → During n1 l1 l2 (λ images. HasBodies images bodies)
writing version live generation end n held bodies n1 l1 l2 closed lasts torn =
    changed (other live) 1 n held n1 l1 l2 (λ images. HasBodies images bodies) lasts torn (λ images only torn.
    subst (λ i. HasBodies i bodies) (sym only)
    (beside_closed version live generation end false held bodies (at_slot (other live) images) closed.rests
    (torn_closed n (at_slot (other live) held) (at_slot (other live) images) closed.closed torn)))

fresh_closed : (bytes : List ℕ) (generation : ℕ) (body : List ℕ) → Fresh bytes generation body → IsClosed bytes
fresh_closed bytes generation body fresh = (
  fresh.gate,
  snapshot generation body ++ fresh.junk,
  fresh.closed,
  fresh.layout,
)

is_prepared : (version : Version) (live : Slot) (generation end : ℕ) (held after : Images) (bodies : List (List ℕ))
    (body : List ℕ) → Closed version live generation end held bodies
    → Puts (other live) 1 (snapshot (generation + 1) body) held after → Prepared version live generation end after
    bodies body
is_prepared version live generation end held after bodies body closed is =
    let bytes = put 1 (snapshot (generation + 1) body) (at_slot (other live) held) in
    let fresh = put_fresh (generation + 1) body (at_slot (other live) held) closed.closed in
    record {
      rests = subst (λ i. Rests version live generation end false i bodies) (sym is)
          (rests_closed version live generation end false held bodies bytes closed.rests
          (fresh_closed bytes (generation + 1) body fresh));
      fresh = subst (λ (l : List ℕ). Fresh l (generation + 1) body)
          (sym (ap (at_slot (other live)) is ∙ at_with (other live) held bytes)) fresh;
    }

module _ (version : Version) (live : Slot) (generation : ℕ) (is_open : Bool) (body : List ℕ) where
  pub closing_moments : (r0 : Option Images) (n0 n1 : ℕ) (l0 l1 : ℕ → Images → List ℕ → Type 0) → LastsWhole r0 n0 l0
      → GoesOn n0 n1 l0 l1 → MatchBool (must_close version is_open) (LeavesTorn (other live) 0 1 n0 l0 l1)
      (LeavesSame n0 l0 l1)
      → IfSome r0 (λ held. (end : ℕ) (bodies : List (List ℕ)) → Rests version live generation end is_open held bodies
      → Leaves n0 n1 l0 l1 (λ images. HasBodies images bodies))
  closing_moments None n0 n1 l0 l1 lasts goes torn = tt
  closing_moments (Some held) n0 n1 l0 l1 lasts goes torn = λ end bodies rests.
      first_step n0 n1 l0 l1 (λ images. HasBodies images bodies) goes
      (closing version live generation end is_open held bodies n0 l0 l1 rests lasts torn)

  pub writing_moments : (r0 r1 : Option Images) (n0 n1 n2 n : ℕ) (l0 l1 l2 : ℕ → Images → List ℕ → Type 0)
      → BothTold r0 r1 (Closes (must_close version is_open) (other live)) → LastsWhole r1 n1 l1 → GoesOn n1 n2 l1 l2
      → LeavesTorn (other live) 1 n n1 l1 l2
      → IfSome r0 (λ held. (end : ℕ) (bodies : List (List ℕ)) → Rests version live generation end is_open held bodies
      → Leaves n0 n1 l0 l1 (λ images. HasBodies images bodies))
      → IfSome r0 (λ held. (end : ℕ) (bodies : List (List ℕ)) → Rests version live generation end is_open held bodies
      → Leaves n0 n2 l0 l2 (λ images. HasBodies images bodies))
  writing_moments None r1 n0 n1 n2 n l0 l1 l2 closes lasts goes torn so_far = tt
  writing_moments (Some held) None n0 n1 n2 n l0 l1 l2 closes lasts goes torn so_far = absurd closes
  writing_moments (Some held) (Some after) n0 n1 n2 n l0 l1 l2 closes lasts goes torn so_far = λ end bodies rests.
      let closed = is_closed version live generation end is_open held after bodies rests closes in
      next_step n0 n1 n2 l0 l1 l2 (λ images. HasBodies images bodies) (so_far end bodies rests) goes
      (writing version live generation end n after bodies n1 l1 l2 closed lasts torn)

  pub prepared : (r0 r1 r2 : Option Images) → BothTold r0 r1 (Closes (must_close version is_open) (other live))
      → BothTold r1 r2 (Puts (other live) 1 (snapshot (generation + 1) body))
      → BothTold r0 r2 (λ before after. (end : ℕ) (bodies : List (List ℕ)) → Rests version live generation end is_open
      before bodies → Prepared version live generation end after bodies body)
  prepared None None None closes puts = tt
  prepared None None (Some last) closes puts = absurd puts
  prepared None (Some after) r2 closes puts = absurd closes
  prepared (Some held) None r2 closes puts = absurd closes
  prepared (Some held) (Some after) None closes puts = absurd puts
  prepared (Some held) (Some after) (Some last) closes puts = λ end bodies rests.
      is_prepared version live generation end after last bodies body
      (is_closed version live generation end is_open held after bodies rests closes) puts

  -- there is a gate to write after
  pub gate_there : (r0 r1 : Option Images)
      → IfSome r0 (λ held. (end : ℕ) × (bodies : List (List ℕ)) × Rests version live generation end is_open held
      bodies) → BothTold r0 r1 (Closes (must_close version is_open) (other live))
      → IfSome r1 (λ held. 1 ≤ length (at_slot (other live) held))
  gate_there None None rests closes = tt
  gate_there None (Some after) rests closes = absurd closes
  gate_there (Some held) None rests closes = tt
  gate_there (Some held) (Some after) rests closes =
      let closed = is_closed version live generation rests.0 is_open held after rests.1 rests.2 closes in
      omega (arith, ap length closed.closed.3)
