use Rattle.std.proofs.Common.{◌≡◌, ℕ, ◌-◌, ◌^◌, ◌<◌, Option, Some, List, get_or, ap, sym, subst, ◌∙◌}
use Rattle.std.specs.Prelude.{is_some}
use Rattle.std.specs.Option.{IfSome}
use Rattle.sd_pool.specs.declared.slot.Slot.{Slot}
use Rattle.sd_pool.specs.declared.parts.Parts.{Parts}
use Rattle.sd_pool.specs.Blocks.{Extent}
use Rattle.sd_pool.specs.Pool.{Pool, with_live, shared}
use Rattle.sd_pool.specs.Slots.{extent_in}
use Rattle.sd_pool.specs.Kept.{live_of, pool_of}
use Rattle.sd_pool.proofs.Keeping.{holder_found, holder_is}
use Rattle.sd_pool.proofs.parts.put.Goals as goal

no_slot : Slot
no_slot = record { block = 0; len = 0; sharers = 0 }

pub share-requires-clause-live : goal.share-requires-clause-live
share-requires-clause-live c = ap is_some (holder_is c.args.parts.now c.args.bytes.now c.in-Ok.id c.in-Ok.ensures)

pub share-requires-clause-few : goal.share-requires-clause-few
share-requires-clause-few c =
    let parts : Parts = c.args.parts.now in
    subst (λ (o : Option Extent). IfSome o (λ (e : Extent). e.sharers < 2 ^ 32 - 1))
    (holder_found parts c.args.bytes.now c.in-Ok.id c.requires.kept c.in-Ok.ensures
    ∙ sym (holder_is parts c.args.bytes.now c.in-Ok.id c.in-Ok.ensures)) c.requires.few

pub returns-in-Ok-clause-again : goal.returns-in-Ok-clause-again
returns-in-Ok-clause-again c = λ extent found.
    let parts : Parts = c.args.parts.now in
    let own : Extent = extent_in parts.region.items c.in-Ok.id
    (get_or parts.slots.items c.in-Ok.id (record { block = 0; len = 0; sharers = 0 })) in
    let both : Some own ≡ Some extent = sym
    (holder_found parts c.args.bytes.now c.in-Ok.id c.requires.kept c.in-Ok.ensures) ∙ found in
    let same : own ≡ extent = cc in
    let id_is : c.in-Ok.id ≡ extent.id = ap (λ (e : Extent). e.id) same in (
      id_is,
      pool_by (pool_of c.share.new.parts) (shared extent.id (live_of parts)) (pool_of parts)
          (c.share.ensures.live ∙ ap (λ (n : ℕ). shared n (live_of parts)) id_is) c.share.ensures.blocks,
    )
  where
    pool_by : (new : Pool) (live : List Extent) (old : Pool) → new.live ≡ live → new.blocks ≡ old.blocks → new
        ≡ with_live live old
    pool_by new live old lives blocks = ap (λ (es : List Extent). record { live = es; blocks = new.blocks }) lives
        ∙ ap (λ (b : ℕ). record { live = live; blocks = b }) blocks

pub returns-in-Ok-clause-put : goal.returns-in-Ok-clause-put
returns-in-Ok-clause-put c = λ none.
    let wrong = sym (holder_found c.args.parts.now c.args.bytes.now c.in-Ok.id c.requires.kept c.in-Ok.ensures) ∙ none
    in absurd (cc)

pub returns-in-Ok-clause-full : goal.returns-in-Ok-clause-full
returns-in-Ok-clause-full c = (
  (λ wrong. absurd (cc)),
  (λ both. let wrong = sym (holder_found c.args.parts.now c.args.bytes.now c.in-Ok.id c.requires.kept c.in-Ok.ensures)
      ∙ both.0 in absurd (cc)),
)
