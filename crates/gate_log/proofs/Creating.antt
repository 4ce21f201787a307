-- Making a store.
use Rattle.std.proofs.Common.{◌≡◌, ℕ, ◌+◌, ◌<◌, ◌^◌, List, [], ◌∷◌, ◌++◌, length, length-append, Option, Some, None}
use Rattle.std.proofs.Common.{false, sym, ◌∙◌, ap, subst, arith, ◌⊎◌, inl, inr, ⊎_elim, Ok}
use Rattle.std.specs.Option.{IfSome}
use Rattle.site_io.specs.Told.{BothTold}
use Rattle.site_io.specs.Disk.{Images}
use Rattle.site_io.specs.Outside.{OnlyLooks}
use Rattle.site_io.specs.declared.site.Site.{Ghosts}
use Rattle.site_io.specs.declared.slot.Slot.TheVariants.{A, B}
use Rattle.gate_log.specs.Created.{HasBytes, IsBegun, IsCreated}
use Rattle.gate_log.specs.Layout.{head, recorded, snapshot, snapshot_end, Fresh, HasRecords}
use Rattle.gate_log.specs.Moments.{LastsWhole}
use Rattle.gate_log.proofs.Images.{held_whole, rests_has}
use Rattle.gate_log.specs.Steps.{Puts}
use Rattle.gate_log.specs.Store.{IsClosed, HasBodies, Rests}
use Rattle.gate_log.specs.declared.log.Log.{Log}
use Rattle.gate_log.specs.declared.version.Version.TheVariants.{Two}
use Rattle.gate_log.proofs.Opening.{and_told}
use Rattle.gate_log.proofs.Outside.{looks_touch, touches_on}
use Rattle.gate_log.proofs.Slots.{put_closed, put_fresh, put_opened}

abbrev pub BothClosed : Images → Type 0
BothClosed held = IsClosed held.a × IsClosed held.b

cleared_some : (held mid after : Images) → Puts B 0 (0 ∷ []) held mid → Puts A 0 (0 ∷ []) mid after → BothClosed after
cleared_some held mid after first second = (
  subst IsClosed (sym (ap (λ (i : Images). i.a) second)) (put_closed mid.a),
  subst IsClosed (sym (ap (λ (i : Images). i.b) second ∙ ap (λ (i : Images). i.b) first)) (put_closed held.b),
)

pub cleared : (r0 r1 r2 : Option Images) → BothTold r0 r1 (Puts B 0 (0 ∷ [])) → BothTold r1 r2 (Puts A 0 (0 ∷ []))
    → IfSome r2 BothClosed
cleared r0 r1 None first second = tt
cleared r0 None (Some after) first second = absurd second
cleared None (Some mid) (Some after) first second = absurd first
cleared (Some held) (Some mid) (Some after) first second = cleared_some held mid after first second

filled_some : (body : List ℕ) (held mid after : Images) → length body < 2 ^ 64 → BothClosed held
    → Puts A 1 (snapshot 1 body) held mid → Puts A 0 (1 ∷ []) mid after → Rests Two A 1 (snapshot_end body) false
    after (body ∷ [])
filled_some body held mid after fits closed first second =
    let fresh : Fresh mid.a 1 body = subst (λ (l : List ℕ). Fresh l 1 body) (sym (ap (λ (i : Images). i.a) first))
    (put_fresh 1 body held.a closed.0) in
    record {
      has = subst (λ (l : List ℕ). HasRecords l 2 1 (snapshot_end body) (body ∷ []))
          (sym (ap (λ (i : Images). i.a) second)) (put_opened 1 body mid.a fits fresh);
      rest = subst IsClosed (sym (ap (λ (i : Images). i.b) second ∙ ap (λ (i : Images). i.b) first)) closed.1;
      above = omega arith;
      below = omega arith;
    }

pub filled : (body : List ℕ) (r0 r1 r2 : Option Images) → length body < 2 ^ 64 → IfSome r0 BothClosed
    → BothTold r0 r1 (Puts A 1 (snapshot 1 body)) → BothTold r1 r2 (Puts A 0 (1 ∷ []))
    → IfSome r2 (λ held. Rests Two A 1 (snapshot_end body) false held (body ∷ []))
filled body r0 r1 None fits closed first second = tt
filled body r0 None (Some after) fits closed first second = absurd second
filled body None (Some mid) (Some after) fits closed first second = absurd first
filled body (Some held) (Some mid) (Some after) fits closed first second = filled_some body held mid after fits closed
    first second

-- Each crash has the body, where all of it is durable.
pub crash_made : (body : List ℕ) (r : Option Images) (n : ℕ) (l : ℕ → Images → List ℕ → Type 0)
    → IfSome r (λ held. Rests Two A 1 (snapshot_end body) false held (body ∷ [])) → LastsWhole r n l
    → IfSome r (λ held. (images : Images) (out : List ℕ) → l n images out → HasBodies images (body ∷ []))
crash_made body None n l made lasts = tt
crash_made body (Some held) n l made lasts = λ images out here.
    subst (λ i. HasBodies i (body ∷ [])) (sym (held_whole held n l lasts.0 lasts.1 images out here))
    (rests_has Two A 1 (snapshot_end body) false held (body ∷ []) made)

pub length_snapshot : (generation : ℕ) (body : List ℕ) → length (snapshot generation body) ≡ 22 + length body + 1
length_snapshot generation body = omega (
  arith,
  length-append (head 2 generation ++ 1 ∷ recorded body) (0 ∷ []),
  length-append (head 2 generation) (1 ∷ recorded body),
)

-- ---- whole calls

no_bytes : (held : Images) → (length held.a ≡ 0) × (length held.b ≡ 0) → HasBytes held → ⊥
no_bytes held empty (inl lt) = omega (arith, empty.0, lt)
no_bytes held empty (inr lt) = omega (arith, empty.1, lt)

module _ {S : Type 0} (s : Ghosts S) where
  -- the store was made
  pub done_create : {E : Type 0} (x y z : S) (body : List ℕ) (log : Log) → OnlyLooks s x y
      → IfSome (s.reads x) (λ held. (length held.a ≡ 0) × (length held.b ≡ 0))
      → IsBegun {E = E} s y z body (Ok log) → IsCreated s x z body (Ok log)
  done_create x y z body log looks empty begun = record {
    created = begun.created;
    stands = begun.stands;
    every_crash = begun.every_crash;
    generation = begun.generation;
    counts = begun.counts;
    unspent = begun.unspent;
    empty = empty;
    taken = λ never. absurd cc;
    taken_only = and_told (λ held. (length held.a ≡ 0) × (length held.b ≡ 0))
        (λ held. (length held.a ≡ 0) × (length held.b ≡ 0)) (λ held. HasBytes held → _ ⊎ _) (s.reads x) empty empty
        (λ held none again bytes. absurd (no_bytes held none bytes));
    unwritten = ⊎_elim (λ never. absurd cc) (λ never. absurd cc);
    faults = (λ never. cc never, λ never. cc never, λ never. cc never);
    outside = touches_on s x y z (looks_touch s x y looks) begun.outside;
    cause = λ never. absurd cc;
  }
