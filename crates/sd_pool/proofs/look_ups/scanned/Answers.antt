use Rattle.std.proofs.Common.{◌≡◌, ℕ, ◌+◌, ◌<◌, ◌≤◌, Bool, true, false, List, length, get_or, refl, ap, sym, subst}
use Rattle.std.proofs.Common.{◌∙◌, arith}
use Rattle.sd_pool.specs.declared.slot.Slot.{Slot}
use Rattle.sd_pool.specs.declared.parts.Parts.{Parts}
use Rattle.std.specs.Prelude.{nat_lt}
use Rattle.std.proofs.lemmas.List.{get_or_default}
use Rattle.std.proofs.lemmas.Bool.{ltb-true, ltb-false}
use Rattle.sd_pool.specs.Slots.{is_used, bytes_of}
use Rattle.sd_pool.specs.Kept.{IsHeldAt}
use Rattle.sd_pool.proofs.Slotted.{none_held}
use Rattle.sd_pool.proofs.look_ups.scanned.Goals as goal

-- the default of a place that is there makes no difference
held_at : (region : List ℕ) (slots : List Slot) (bytes : List ℕ) (i : ℕ) → i < length slots
    → is_used (get_or slots i (record { block = 0; len = 0; sharers = 0 })) ≡ true
    → bytes_of region (get_or slots i (record { block = 0; len = 0; sharers = 0 })) ≡ bytes
    → IsHeldAt region slots bytes i
held_at region slots bytes i lt used has = record {
  within = lt;
  used = λ d. ap is_used (get_or_default slots i d (record { block = 0; len = 0; sharers = 0 }) lt) ∙ used;
  has = λ d. ap (bytes_of region) (get_or_default slots i d (record { block = 0; len = 0; sharers = 0 }) lt) ∙ has;
}

pub loop-id-preserved : goal.loop-id-preserved
loop-id-preserved c = λ i lt held. by_lt (nat_lt i c.loop-id.id) i refl lt held
  where
    by_lt : (t : Bool) (i : ℕ) → nat_lt i c.loop-id.id ≡ t → i < c.loop-id.id + 1
        → IsHeldAt c.args.parts.now.region.items c.args.parts.now.slots.items c.args.bytes.now i → ⊥
    by_lt true i h lt held = c.loop-id.invariant i (ltb-true i c.loop-id.id h) held
    by_lt false i h lt held =
        let ge : c.loop-id.id ≤ i = ltb-false i c.loop-id.id h in
        let same : i ≡ c.loop-id.id = omega (arith, lt) in
        let here = subst (IsHeldAt c.args.parts.now.region.items c.args.parts.now.slots.items c.args.bytes.now) same
        held in
        let wrong : false ≡ true = sym c.if-is_held_at.false ∙ c.is_held_at.ensures.1 here in absurd (cc)

pub returns : goal.returns
returns c =
    let parts : Parts = c.args.parts.now in
    none_held 0 parts.region.items parts.slots.items (record { block = 0; len = 0; sharers = 0 }) c.args.bytes.now
    (λ i lt used has. c.loop-id.invariant i
    (omega (arith, lt, c.loop-id-test.false, c.len-id-end.ensures, c.args.parts.now.slots.ok))
    (held_at parts.region.items parts.slots.items c.args.bytes.now i lt used has))
