use Rattle.std.proofs.Common.{◌≡◌, Bool, List, [], ◌∷◌, ◌++◌, length, ap, sym, ◌∙◌, arith}
use Rattle.std.specs.Prelude.{if◌then◌else◌}
use Rattle.std.proofs.lemmas.Bool.{eq-eqb, ne_eqb}
use Rattle.sd_pool.specs.declared.slot.Slot.{Slot}
use Rattle.sd_pool.specs.Kept.{with_slot}
use Rattle.sd_pool.proofs.parts.make_slot.Goals as goal

pub returns-in_ok-push-clause-ok : goal.returns-in_ok-push-clause-ok
unfolding with_slot
returns-in_ok-push-clause-ok c =
    let slots : List Slot = c.args.slots.now.items in
    let last : c.args.id ≡ length c.args.slots.now.items
    = omega (arith, c.if-id-len.true, c.len.ensures, c.args.slots.now.ok) in
    c.in_ok-push.ensures.items ∙ sym (ap (λ (b : Bool). if b then slots ++ record { block = 0; len = 0; sharers = 0 }
    ∷ [] else slots) (eq-eqb c.args.id (length slots) last))

pub returns-else-id-len-clause-ok : goal.returns-else-id-len-clause-ok
unfolding with_slot
returns-else-id-len-clause-ok c =
    let slots : List Slot = c.args.slots.now.items in
    sym (ap (λ (b : Bool). if b then slots ++ record { block = 0; len = 0; sharers = 0 } ∷ [] else slots)
    (ne_eqb c.args.id (length slots) (λ last.
    c.if-id-len.false (let is : c.args.id ≡ c.len.result = omega (arith, last, c.len.ensures, c.args.slots.now.ok)
    in is))))
