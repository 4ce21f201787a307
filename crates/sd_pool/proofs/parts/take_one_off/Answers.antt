use Rattle.std.proofs.Common.{◌≡◌, ℕ, ◌-◌, ◌<◌, ◌≤◌, Bool, true, false, not, get_or, set, refl, ap, sym, ◌∙◌, arith}
use Rattle.std.specs.Prelude.{◌==◌}
use Rattle.sd_pool.specs.declared.slot.Slot.{Slot}
use Rattle.sd_pool.specs.declared.parts.Parts.{Parts}
use Rattle.sd_pool.specs.Kept.{live_of}
use Rattle.std.proofs.lemmas.Bool.{ltb-true, ltb-false, eq-eqb, ne_eqb}
use Rattle.std.specs.Prelude.{nat_lt}
use Rattle.sd_pool.specs.Slots.{extent_in}
use Rattle.sd_pool.proofs.Sharing.{given_back_more}
use Rattle.sd_pool.proofs.Slotted.{slot_within}
use Rattle.sd_pool.proofs.Keeping.{slot_is_found, slot_is_used, live-sharers, kept-sharers}
use Rattle.sd_pool.proofs.parts.take_one_off.Goals as goal

-- a number that is neither 0 nor 1
two_at_least : (n : ℕ) → not (n == 0) ≡ true → (n == 1) ≡ false → 2 ≤ n
two_at_least n some more = by_lt (nat_lt n 2) refl
  where
    by_lt : (t : Bool) → nat_lt n 2 ≡ t → 2 ≤ n
    by_lt true lt = let small : n < 2 = ltb-true n 2 lt in by_zero (n == 0) refl
      where
        by_zero : (t : Bool) → (n == 0) ≡ t → 2 ≤ n
        by_zero true h = let wrong : false ≡ true = sym (ap not h) ∙ some in absurd (cc)
        by_zero false h = let lt2 : n < 2 = ltb-true n 2 lt in by_one (nat_lt 0 n) refl
          where
            by_one : (t : Bool) → nat_lt 0 n ≡ t → 2 ≤ n
            by_one true p = let above : 0 < n = ltb-true 0 n p in let one : n ≡ 1 = omega (arith, ltb-true n 2 lt)
                in let wrong : true ≡ false = sym (eq-eqb n 1 one) ∙ more in absurd (cc)
            by_one false p = let below : n ≤ 0 = ltb-false 0 n p in let none : n ≡ 0 = omega arith in let wrong : true
                ≡ false = sym (eq-eqb n 0 none) ∙ h in absurd (cc)
    by_lt false ge = ltb-false n 2 ge

still_some : (n : ℕ) → 2 ≤ n → not (n - 1 == 0) ≡ true
still_some n two = ap not (ne_eqb (n - 1) 0 (λ none. omega (arith, two, none)))

pub overflow_sub-less : goal.overflow_sub-less
overflow_sub-less c =
    let two : 2 ≤ c.args.slot.sharers = two_at_least c.args.slot.sharers
    (slot_is_used c.args.parts.now c.args.id c.args.slot c.requires.live (c.requires.slot c.args.slot))
    c.requires.more in
    omega (arith, two)

pub set_slot-requires : goal.set_slot-requires
set_slot-requires c = slot_within c.args.id c.args.parts.now.region.items c.args.parts.now.slots.items c.requires.live

pub returns-clause-kept : goal.returns-clause-kept
returns-clause-kept c =
    let parts : Parts = c.args.parts.now in
    let slot : Slot = c.args.slot in
    let is : slot ≡ get_or parts.slots.items c.args.id slot = c.requires.slot slot in
    let two : 2 ≤ slot.sharers = two_at_least slot.sharers (slot_is_used parts c.args.id slot c.requires.live is)
    c.requires.more in
    let new = c.set_slot.ensures ∙ ap (λ (s : Slot). set parts.slots.items c.args.id
    (record s { sharers = slot.sharers - 1 })) is in
    kept-sharers parts c.set_slot.new.slots c.args.id (slot.sharers - 1) slot c.requires.kept c.requires.live
    (still_some slot.sharers two) new

pub returns-clause-live : goal.returns-clause-live
returns-clause-live c =
    let parts : Parts = c.args.parts.now in
    let slot : Slot = c.args.slot in
    let is : slot ≡ get_or parts.slots.items c.args.id slot = c.requires.slot slot in
    let two : 2 ≤ slot.sharers = two_at_least slot.sharers (slot_is_used parts c.args.id slot c.requires.live is)
    c.requires.more in
    let new = c.set_slot.ensures ∙ ap (λ (s : Slot). set parts.slots.items c.args.id
    (record s { sharers = slot.sharers - 1 })) is in
    live-sharers parts c.set_slot.new.slots c.args.id (slot.sharers - 1) slot c.requires.live
    (still_some slot.sharers two) new
    ∙ sym (given_back_more c.args.id (extent_in parts.region.items c.args.id slot) (live_of parts)
    (slot_is_found parts c.args.id slot c.requires.live is) c.requires.more)
