use Rattle.std.proofs.Common.{◌≡◌, ℕ, ◌+◌, ◌*◌, ◌<◌, ◌≤◌, true, false, not, List, length, get_or, ap, sym, subst, ◌∙◌}
use Rattle.std.proofs.Common.{arith}
use Rattle.sd_pool.specs.declared.slot.Slot.{Slot}
use Rattle.sd_pool.specs.declared.parts.Parts.{Parts}
use Rattle.std.proofs.lemmas.Bool.{ne_eqb, eq-eqb}
use Rattle.std.proofs.lemmas.Slice.Eq.{bytes_eq-Decides}
use Rattle.sd_pool.specs.Blocks.{blocks_for}
use Rattle.sd_pool.specs.Slots.{is_used, bytes_of}
use Rattle.sd_pool.proofs.Slotted.{within_at, len_fits}
use Rattle.sd_pool.proofs.look_ups.is_held_at.Goals as goal

pub bytes_in-requires : goal.bytes_in-requires
bytes_in-requires c =
    let parts : Parts = c.args.parts.now in
    let slot : Slot = c.slot_at-slot.result in
    let is : slot ≡ get_or parts.slots.items c.args.id slot = c.slot_at-slot.ensures slot
    ∙ ap (λ (xs : List Slot). get_or xs c.args.id slot) c.deref.ensures.value in
    let used : is_used slot ≡ true = ap not (ne_eqb slot.sharers 0 c.if-slot-ne0.true) in
    let lt : c.args.id < length c.args.parts.now.slots.items
    = omega (arith, c.if-len-id.false, c.len.ensures, c.args.parts.now.slots.ok) in
    let inside : slot.block + blocks_for slot.len ≤ parts.blocks
    = subst (λ (s : Slot). is_used s ≡ true → s.block + blocks_for s.len ≤ parts.blocks) (sym is)
    (within_at parts.blocks c.args.id parts.slots.items slot c.requires.within lt) used in
    let long : 64 * c.args.parts.now.blocks ≤ length c.deref-then-slot-ne0.result.now
    = subst (λ (xs : List ℕ). 64 * parts.blocks ≤ length xs) (sym c.deref-then-slot-ne0.ensures.value)
    c.requires.region in
    let len : slot.len ≤ 64 * blocks_for slot.len = len_fits slot.len in
    omega (arith, inside, long, len)

pub returns-then-slot-ne0 : goal.returns-then-slot-ne0
returns-then-slot-ne0 c =
    let parts : Parts = c.args.parts.now in
    let slot : Slot = c.slot_at-slot.result in
    let used : is_used slot ≡ true = ap not (ne_eqb slot.sharers 0 c.if-slot-ne0.true) in
    let lt : c.args.id < length c.args.parts.now.slots.items
    = omega (arith, c.if-len-id.false, c.len.ensures, c.args.parts.now.slots.ok) in
    let at = λ (d : Slot). sym (c.slot_at-slot.ensures d ∙ ap (λ (xs : List Slot). get_or xs c.args.id d)
    c.deref.ensures.value) in
    let own : c.bytes_in.result.now ≡ bytes_of parts.region.items slot = c.bytes_in.ensures
    ∙ ap (λ (r : List ℕ). bytes_of r slot) c.deref-then-slot-ne0.ensures.value in (
      (λ h. record {
        within = lt;
        used = λ d. ap is_used (at d) ∙ used;
        has = λ d. ap (bytes_of parts.region.items) (at d) ∙ sym own
            ∙ (bytes_eq-Decides c.bytes_in.result.now c.args.bytes.now).0 (sym c.eq.ensures ∙ h);
      }),
      (λ held. c.eq.ensures ∙ (bytes_eq-Decides c.bytes_in.result.now c.args.bytes.now).1
          (own ∙ ap (bytes_of parts.region.items) (sym (at slot)) ∙ held.has slot)),
    )

pub returns-else-slot-ne0 : goal.returns-else-slot-ne0
returns-else-slot-ne0 c =
    let parts : Parts = c.args.parts.now in
    let slot : Slot = c.slot_at-slot.result in
    let unused : is_used slot ≡ false = ap not (eq-eqb slot.sharers 0 c.if-slot-ne0.false) in
    let is : get_or parts.slots.items c.args.id slot ≡ slot
    = sym (c.slot_at-slot.ensures slot ∙ ap (λ (xs : List Slot). get_or xs c.args.id slot) c.deref.ensures.value)
    in (
      (λ h. let wrong : true ≡ false = sym h ∙ unused in absurd (cc)),
      (λ held. let wrong : true ≡ false = sym (held.used slot) ∙ ap is_used is ∙ unused in absurd (cc)),
    )
