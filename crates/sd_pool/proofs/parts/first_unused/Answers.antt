use Rattle.std.proofs.Common.{◌≡◌, ℕ, zero, suc, ◌≤◌, true, not, List, [], ◌∷◌, length, ap, sym, subst, ◌∙◌, arith}
use Rattle.std.proofs.lemmas.Bool.{ne_eqb}
use Rattle.sd_pool.specs.declared.slot.Slot.{Slot}
use Rattle.sd_pool.specs.Slots.{is_used, AreUsedBelow}
use Rattle.sd_pool.proofs.Slotted.{used_more}
use Rattle.sd_pool.proofs.parts.first_unused.Goals as goal

used_len : (n : ℕ) (slots : List Slot) → AreUsedBelow n slots → n ≤ length slots
used_len zero slots used = omega arith
used_len (suc n) [] used = absurd used
used_len (suc n) (slot ∷ slots) used = let rest : n ≤ length slots = used_len n slots used.1 in omega arith

pub loop-id-preserved : goal.loop-id-preserved
loop-id-preserved c =
    let slot : Slot = c.slot_at.result in
    let used : is_used slot ≡ true = ap not (ne_eqb slot.sharers 0 c.if-slot_at-eq0.false) in
    used_more c.loop-id.id c.args.slots.now slot c.loop-id-test.true
    (ap is_used (sym (c.slot_at.ensures slot)) ∙ used) c.loop-id.invariant

pub returns : goal.returns
returns c =
    let most : c.loop-id.id ≤ length c.args.slots.now = used_len c.loop-id.id c.args.slots.now c.loop-id.invariant in
    let last : c.loop-id.id ≡ length c.args.slots.now = omega (arith, c.loop-id-test.false) in
    record {
      within = omega arith;
      below = subst (λ (n : ℕ). AreUsedBelow n c.args.slots.now) last c.loop-id.invariant;
      unused = λ d lt. absurd (omega (arith, lt));
    }
