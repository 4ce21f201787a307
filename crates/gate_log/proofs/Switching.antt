-- The third and the fourth step of a rewriting: the other slot is opened, and slot A of a store of version 1 is
-- closed.
use Rattle.std.proofs.Common.{◌≡◌, inl, inr, ⊎_elim, ℕ, ◌+◌, ◌<◌, ◌^◌, List, [], ◌∷◌, length, Option, Some, None}
use Rattle.std.proofs.Common.{Bool, true, false, sym, ◌∙◌, ap, subst, arith}
use Rattle.std.specs.Option.{IfSome}
use Rattle.std.specs.Bool.{MatchBool}
use Rattle.site_io.specs.Told.{BothTold}
use Rattle.site_io.specs.Disk.{Images, at_slot, with_slot, put, GoesOn, LeavesSame, LeavesTorn}
use Rattle.site_io.specs.declared.slot.Slot.{Slot}
use Rattle.gate_log.specs.Layout.{snapshot_end, HasRecords}
use Rattle.gate_log.specs.Moments.{Leaves, LastsWhole}
use Rattle.gate_log.specs.Steps.{Puts}
use Rattle.gate_log.specs.Store.{other, IsClosed, IsOlder, HasBodies, OldOrWhole, OtherRests, Rests, number_of}
use Rattle.gate_log.specs.Rewriting.{is_one, is_two, Closes, IsOneAt, Prepared, Switched}
use Rattle.gate_log.specs.declared.version.Version.{Version}
use Rattle.gate_log.specs.declared.version.Version.TheVariants.{One, Two}
use Rattle.gate_log.proofs.Adding.{changed}
use Rattle.gate_log.proofs.Images.{at_with, other_with, held_whole}
use Rattle.gate_log.proofs.Rewriting.{beside, beside_other, other_twice, one_has, two_has, beside_closed, beside_any}
use Rattle.gate_log.proofs.Runs.{During, first_step, next_step}
use Rattle.gate_log.proofs.Slots.{put_closed, torn_fresh, put_opened, torn_live, is_older}

-- the opened slot is live, and the one that was is older
whole_beside : (live : Slot) (generation end : ℕ) (is_open : Bool) (held : Images) (bodies : List (List ℕ))
    (body bytes : List ℕ) → generation + 1 < 2 ^ 64 → Rests Two live generation end is_open held bodies
    → HasRecords bytes 2 (generation + 1) (snapshot_end body) (body ∷ [])
    → HasBodies (with_slot (other live) held bytes) (body ∷ [])
whole_beside live generation end is_open held bodies body bytes below rests has =
    two_has (other live) (generation + 1) (snapshot_end body) (with_slot (other live) held bytes) (body ∷ [])
    (omega arith) below
    (subst (λ (l : List ℕ). HasRecords l 2 (generation + 1) (snapshot_end body) (body ∷ []))
    (sym (at_with (other live) held bytes)) has)
    (inr (subst (λ (l : List ℕ). IsOlder (generation + 1) l) (sym (beside_other live held bytes))
    (is_older generation end bodies (at_slot live held) rests.above rests.has)))

-- (3) While the other slot is opened
opening : (version : Version) (live : Slot) (generation end : ℕ) (held : Images) (bodies : List (List ℕ))
    (body : List ℕ) (n2 : ℕ) (l2 l3 : ℕ → Images → List ℕ → Type 0) → length body < 2 ^ 64 → generation + 1 < 2 ^ 64
    → Prepared version live generation end held bodies body → LastsWhole (Some held) n2 l2 → LeavesTorn (other live) 0
    1 n2 l2 l3 → During n2 l2 l3 (OldOrWhole bodies body)
opening One live generation end held bodies body n2 l2 l3 fits below ready lasts torn =
    changed (other live) 0 1 held n2 l2 l3 (OldOrWhole bodies body) lasts torn (λ images only torn.
    inl (subst (λ i. HasBodies i bodies) (sym only)
    (beside_any live generation end false held bodies (at_slot (other live) images) ready.rests)))
opening Two live generation end held bodies body n2 l2 l3 fits below ready lasts torn =
    changed (other live) 0 1 held n2 l2 l3 (OldOrWhole bodies body) lasts torn (λ images only torn.
    ⊎_elim
    (λ closed. inl (subst (λ i. HasBodies i bodies) (sym only)
    (beside_closed Two live generation end false held bodies (at_slot (other live) images) ready.rests closed)))
    (λ has. inr (subst (λ i. HasBodies i (body ∷ [])) (sym only)
    (whole_beside live generation end false held bodies body (at_slot (other live) images) below ready.rests
    has)))
    (torn_fresh (generation + 1) body (at_slot (other live) held) (at_slot (other live) images) fits ready.fresh torn))

is_one_at : (version : Version) (live : Slot) (generation : ℕ) (bytes : List ℕ) → OtherRests version live generation
    false bytes → IsOneAt version live generation
is_one_at One live generation bytes rest = rest
is_one_at Two live generation bytes rest = tt

is_switched : (version : Version) (live : Slot) (generation end : ℕ) (held after : Images) (bodies : List (List ℕ))
    (body : List ℕ) → length body < 2 ^ 64 → Prepared version live generation end held bodies body
    → Puts (other live) 0 (1 ∷ []) held after
    → Switched version live generation end after bodies body
is_switched version live generation end held after bodies body fits ready is =
    let bytes = put 0 (1 ∷ []) (at_slot (other live) held) in
    record {
      old = subst (λ (l : List ℕ). HasRecords l (number_of version) generation end bodies)
          (sym (ap (at_slot live) is ∙ beside live held bytes)) ready.rests.has;
      new = subst (λ (l : List ℕ). HasRecords l 2 (generation + 1) (snapshot_end body) (body ∷ []))
          (sym (ap (at_slot (other live)) is ∙ at_with (other live) held bytes))
          (put_opened (generation + 1) body (at_slot (other live) held) fits ready.fresh);
      one = is_one_at version live generation (at_slot (other live) held) ready.rests.rest;
    }

-- two open slots of version 2
switched_two : (live : Slot) (generation end : ℕ) (held : Images) (bodies : List (List ℕ)) (body : List ℕ) → 0
    < generation → generation + 1 < 2 ^ 64 → Switched Two live generation end held bodies body
    → Rests Two (other live) (generation + 1) (snapshot_end body) true held (body ∷ [])
switched_two live generation end held bodies body above below switched = record {
  has = switched.new;
  rest = subst (λ (l : List ℕ). IsOlder (generation + 1) l) (sym (other_twice live held))
      (is_older generation end bodies (at_slot live held) above switched.old);
  above = omega arith;
  below = below;
}

-- (4) While slot A of a store of version 1 is closed
ending : (version : Version) (live : Slot) (generation end : ℕ) (held : Images) (bodies : List (List ℕ))
    (body : List ℕ) (n3 : ℕ) (l3 l4 : ℕ → Images → List ℕ → Type 0) → 0 < generation → generation + 1 < 2 ^ 64
    → Switched version live generation end held bodies body → LastsWhole (Some held) n3 l3
    → MatchBool (is_one version) (LeavesTorn live 0 1 n3 l3 l4) (LeavesSame n3 l3 l4)
    → During n3 l3 l4 (OldOrWhole bodies body)
ending One live generation end held bodies body n3 l3 l4 above below switched lasts torn =
    changed live 0 1 held n3 l3 l4 (OldOrWhole bodies body) lasts torn (λ images only torn.
    let beside_it : at_slot (other live) images ≡ at_slot (other live) held = ap (at_slot (other live)) only
    ∙ other_with live held (at_slot live images) in
    ⊎_elim
    (λ closed. inr (two_has (other live) (generation + 1) (snapshot_end body) images (body ∷ []) (omega arith) below
    (subst (λ (l : List ℕ). HasRecords l 2 (generation + 1) (snapshot_end body) (body ∷ [])) (sym beside_it)
    switched.new)
    (inl (subst IsClosed (sym (other_twice live images)) closed))))
    (λ has. inl (one_has live generation end images bodies switched.one.0 switched.one.1 has))
    (torn_live 1 generation end bodies (at_slot live held) (at_slot live images) switched.old torn))
ending Two live generation end held bodies body n3 l3 l4 above below switched lasts same = λ t images out le left.
    let began = same t images out le left in
    let rests = switched_two live generation end held bodies body above below switched in
    let has = two_has (other live) (generation + 1) (snapshot_end body) held (body ∷ []) rests.above rests.below
    rests.has (inr rests.rest) in (
      inr (subst (λ i. HasBodies i (body ∷ [])) (sym (held_whole held n3 l3 lasts.0 lasts.1 images out began)) has),
      (images, began),
    )

is_ended : (version : Version) (live : Slot) (generation end : ℕ) (held after : Images) (bodies : List (List ℕ))
    (body : List ℕ) → 0 < generation → generation + 1 < 2 ^ 64 → Switched version live generation end held bodies body
    → Closes (is_one version) live held after
    → Rests Two (other live) (generation + 1) (snapshot_end body) (is_two version) after (body ∷ [])
is_ended One live generation end held after bodies body above below switched is =
    let bytes = put 0 (0 ∷ []) (at_slot live held) in
    record {
      has = subst (λ (l : List ℕ). HasRecords l 2 (generation + 1) (snapshot_end body) (body ∷ []))
          (sym (ap (at_slot (other live)) is ∙ other_with live held bytes)) switched.new;
      rest = subst IsClosed (sym (other_twice live after ∙ ap (at_slot live) is ∙ at_with live held bytes))
          (put_closed (at_slot live held));
      above = omega arith;
      below = below;
    }
is_ended Two live generation end held after bodies body above below switched is =
    subst (λ i. Rests Two (other live) (generation + 1) (snapshot_end body) true i (body ∷ [])) (sym is)
    (switched_two live generation end held bodies body above below switched)

module _ (version : Version) (live : Slot) (generation : ℕ) (body : List ℕ) (above : 0 < generation)
    (below : generation + 1 < 2 ^ 64) (fits : length body < 2 ^ 64) where
  pub opening_moments : (r0 : Option Images) (n0 n1 : ℕ) (l0 l1 : ℕ → Images → List ℕ → Type 0) → LastsWhole r0 n0 l0
      → GoesOn n0 n1 l0 l1 → LeavesTorn (other live) 0 1 n0 l0 l1
      → IfSome r0 (λ held. (end : ℕ) (bodies : List (List ℕ)) → Prepared version live generation end held bodies body
      → Leaves n0 n1 l0 l1 (OldOrWhole bodies body))
  opening_moments None n0 n1 l0 l1 lasts goes torn = tt
  opening_moments (Some held) n0 n1 l0 l1 lasts goes torn = λ end bodies ready.
      first_step n0 n1 l0 l1 (OldOrWhole bodies body) goes
      (opening version live generation end held bodies body n0 l0 l1 fits below ready lasts torn)

  pub ending_moments : (r0 r1 : Option Images) (n0 n1 n2 : ℕ) (l0 l1 l2 : ℕ → Images → List ℕ → Type 0)
      → BothTold r0 r1 (Puts (other live) 0 (1 ∷ [])) → LastsWhole r1 n1 l1 → GoesOn n1 n2 l1 l2
      → MatchBool (is_one version) (LeavesTorn live 0 1 n1 l1 l2) (LeavesSame n1 l1 l2)
      → IfSome r0 (λ held. (end : ℕ) (bodies : List (List ℕ)) → Prepared version live generation end held bodies body
      → Leaves n0 n1 l0 l1 (OldOrWhole bodies body))
      → IfSome r0 (λ held. (end : ℕ) (bodies : List (List ℕ)) → Prepared version live generation end held bodies body
      → Leaves n0 n2 l0 l2 (OldOrWhole bodies body))
  ending_moments None r1 n0 n1 n2 l0 l1 l2 puts lasts goes torn so_far = tt
  ending_moments (Some held) None n0 n1 n2 l0 l1 l2 puts lasts goes torn so_far = absurd puts
  ending_moments (Some held) (Some after) n0 n1 n2 l0 l1 l2 puts lasts goes torn so_far = λ end bodies ready.
      let switched = is_switched version live generation end held after bodies body fits ready puts in
      next_step n0 n1 n2 l0 l1 l2 (OldOrWhole bodies body) (so_far end bodies ready) goes
      (ending version live generation end after bodies body n1 l1 l2 above below switched lasts torn)

  pub ended : (r0 r1 r2 : Option Images) → BothTold r0 r1 (Puts (other live) 0 (1 ∷ []))
      → BothTold r1 r2 (Closes (is_one version) live)
      → BothTold r0 r2 (λ before after. (end : ℕ) (bodies : List (List ℕ)) → Prepared version live generation end
      before bodies body → Rests Two (other live) (generation + 1) (snapshot_end body) (is_two version) after
      (body ∷ []))
  ended None None None puts closes = tt
  ended None None (Some last) puts closes = absurd closes
  ended None (Some after) r2 puts closes = absurd puts
  ended (Some held) None r2 puts closes = absurd puts
  ended (Some held) (Some after) None puts closes = absurd closes
  ended (Some held) (Some after) (Some last) puts closes = λ end bodies ready.
      is_ended version live generation end after last bodies body above below
      (is_switched version live generation end held after bodies body fits ready puts) closes
