use Rattle.std.proofs.Common.{ℕ, ◌-◌, ◌^◌, ◌<◌, ◌≤◌, List, length, ap, sym, subst, ◌∙◌, arith}
use Rattle.std.proofs.Math.Seq.{take-length}
use Rattle.sd_pool.specs.declared.slot.Slot.{Slot}
use Rattle.sd_pool.specs.declared.parts.Parts.{Parts}
use Rattle.sd_pool.specs.Found.{FirstPasses, PlaceWithin}
use Rattle.sd_pool.specs.Holes.{suits, fit}
use Rattle.sd_pool.specs.Kept.{FirstUnused}
use Rattle.sd_pool.proofs.Lists.{place_within}
use Rattle.sd_pool.proofs.Room.{front_longer, with_one, still_kept, still_pool, still_below, still_few, there}
use Rattle.sd_pool.proofs.Room.{still_free}
use Rattle.sd_pool.proofs.parts.make_room.Goals as goal

pub returns-in_err-reserve-clause-kept : goal.returns-in_err-reserve-clause-kept
returns-in_err-reserve-clause-kept c =
    still_kept c.args.parts.now c.args.parts.now.region c.make_slot.new.slots c.reserve.new.self
    c.first_unused-parts.result (record {
      kept = c.requires.kept;
      few = c.requires.free;
      front = take-length c.args.parts.now.region.items;
      longer = omega arith;
      id_is = subst (λ (xs : List Slot). FirstUnused xs c.first_unused-parts.result) c.deref.ensures.value
          c.first_unused-parts.ensures;
      slots_are = with_one c.first_unused-parts.result c.args.parts.now.slots.items c.make_slot.new.slots.items
          c.in_ok-make_slot.ensures.ok;
      holes_are = c.reserve.ensures.items;
      room = c.reserve.ensures.capacity;
    })

pub returns-in_err-reserve-clause-same : goal.returns-in_err-reserve-clause-same
returns-in_err-reserve-clause-same c =
    still_pool c.args.parts.now c.args.parts.now.region c.make_slot.new.slots c.reserve.new.self
    c.first_unused-parts.result (record {
      kept = c.requires.kept;
      few = c.requires.free;
      front = take-length c.args.parts.now.region.items;
      longer = omega arith;
      id_is = subst (λ (xs : List Slot). FirstUnused xs c.first_unused-parts.result) c.deref.ensures.value
          c.first_unused-parts.ensures;
      slots_are = with_one c.first_unused-parts.result c.args.parts.now.slots.items c.make_slot.new.slots.items
          c.in_ok-make_slot.ensures.ok;
      holes_are = c.reserve.ensures.items;
      room = c.reserve.ensures.capacity;
    })

pub block_at-block-requires : goal.block_at-block-requires
block_at-block-requires c = subst (PlaceWithin c.first_fit-place.result)
    (c.deref-2.ensures.value ∙ sym c.deref-3.ensures.value)
    (place_within (suits c.args.parts.now.blocks c.blocks_of-count.result) c.first_fit-place.result
    c.deref-2.result.now c.first_fit-place.ensures)

pub returns-in_err-grow-clause-kept : goal.returns-in_err-grow-clause-kept
returns-in_err-grow-clause-kept c =
    still_kept c.args.parts.now c.grow.new.region c.make_slot.new.slots c.reserve.new.self c.first_unused-parts.result
    (record {
      kept = c.requires.kept;
      few = c.requires.free;
      front = c.grow.ensures.begins;
      longer = front_longer c.args.parts.now.region.items c.grow.new.region.items c.grow.ensures.begins;
      id_is = subst (λ (xs : List Slot). FirstUnused xs c.first_unused-parts.result) c.deref.ensures.value
          c.first_unused-parts.ensures;
      slots_are = with_one c.first_unused-parts.result c.args.parts.now.slots.items c.make_slot.new.slots.items
          c.in_ok-make_slot.ensures.ok;
      holes_are = c.reserve.ensures.items;
      room = c.reserve.ensures.capacity;
    })

pub returns-in_err-grow-clause-same : goal.returns-in_err-grow-clause-same
returns-in_err-grow-clause-same c =
    still_pool c.args.parts.now c.grow.new.region c.make_slot.new.slots c.reserve.new.self c.first_unused-parts.result
    (record {
      kept = c.requires.kept;
      few = c.requires.free;
      front = c.grow.ensures.begins;
      longer = front_longer c.args.parts.now.region.items c.grow.new.region.items c.grow.ensures.begins;
      id_is = subst (λ (xs : List Slot). FirstUnused xs c.first_unused-parts.result) c.deref.ensures.value
          c.first_unused-parts.ensures;
      slots_are = with_one c.first_unused-parts.result c.args.parts.now.slots.items c.make_slot.new.slots.items
          c.in_ok-make_slot.ensures.ok;
      holes_are = c.reserve.ensures.items;
      room = c.reserve.ensures.capacity;
    })

pub returns-clause-kept : goal.returns-clause-kept
returns-clause-kept c =
    still_kept c.args.parts.now c.grow.new.region c.make_slot.new.slots c.reserve.new.self c.first_unused-parts.result
    (record {
      kept = c.requires.kept;
      few = c.requires.free;
      front = c.grow.ensures.begins;
      longer = front_longer c.args.parts.now.region.items c.grow.new.region.items c.grow.ensures.begins;
      id_is = subst (λ (xs : List Slot). FirstUnused xs c.first_unused-parts.result) c.deref.ensures.value
          c.first_unused-parts.ensures;
      slots_are = with_one c.first_unused-parts.result c.args.parts.now.slots.items c.make_slot.new.slots.items
          c.in_ok-make_slot.ensures.ok;
      holes_are = c.reserve.ensures.items;
      room = c.reserve.ensures.capacity;
    })

pub returns-clause-same : goal.returns-clause-same
returns-clause-same c =
    still_pool c.args.parts.now c.grow.new.region c.make_slot.new.slots c.reserve.new.self c.first_unused-parts.result
    (record {
      kept = c.requires.kept;
      few = c.requires.free;
      front = c.grow.ensures.begins;
      longer = front_longer c.args.parts.now.region.items c.grow.new.region.items c.grow.ensures.begins;
      id_is = subst (λ (xs : List Slot). FirstUnused xs c.first_unused-parts.result) c.deref.ensures.value
          c.first_unused-parts.ensures;
      slots_are = with_one c.first_unused-parts.result c.args.parts.now.slots.items c.make_slot.new.slots.items
          c.in_ok-make_slot.ensures.ok;
      holes_are = c.reserve.ensures.items;
      room = c.reserve.ensures.capacity;
    })

pub returns-clause-ok : goal.returns-clause-ok
returns-clause-ok c =
    let parts : Parts = c.args.parts.now in
    let id : ℕ = c.first_unused-parts.result in
    let id_is = subst (λ (xs : List Slot). FirstUnused xs id) c.deref.ensures.value c.first_unused-parts.ensures in
    let slots_is = c.in_ok-make_slot.ensures.ok in
    let within : id < length c.make_slot.new.slots.items = there parts c.make_slot.new.slots.items id id_is slots_is in
    let few : length c.make_slot.new.slots.items ≤ 2 ^ 32 - 1 = still_few parts c.grow.new.region
    c.make_slot.new.slots c.reserve.new.self id (record {
      kept = c.requires.kept;
      few = c.requires.free;
      front = c.grow.ensures.begins;
      longer = front_longer c.args.parts.now.region.items c.grow.new.region.items c.grow.ensures.begins;
      id_is = subst (λ (xs : List Slot). FirstUnused xs c.first_unused-parts.result) c.deref.ensures.value
          c.first_unused-parts.ensures;
      slots_are = with_one c.first_unused-parts.result c.args.parts.now.slots.items c.make_slot.new.slots.items
          c.in_ok-make_slot.ensures.ok;
      holes_are = c.reserve.ensures.items;
      room = c.reserve.ensures.capacity;
    }) in
    record {
      id = record {
        within = omega (arith, within);
        below = still_below parts c.grow.new.region c.make_slot.new.slots c.reserve.new.self id (record {
          kept = c.requires.kept;
          few = c.requires.free;
          front = c.grow.ensures.begins;
          longer = front_longer c.args.parts.now.region.items c.grow.new.region.items c.grow.ensures.begins;
          id_is = subst (λ (xs : List Slot). FirstUnused xs c.first_unused-parts.result) c.deref.ensures.value
              c.first_unused-parts.ensures;
          slots_are = with_one c.first_unused-parts.result c.args.parts.now.slots.items c.make_slot.new.slots.items
              c.in_ok-make_slot.ensures.ok;
          holes_are = c.reserve.ensures.items;
          room = c.reserve.ensures.capacity;
        });
        unused = λ d lt. still_free parts c.make_slot.new.slots.items id id_is slots_is d;
      };
      within = within;
      small = omega (arith, within, few);
      count = c.blocks_of-count.ensures;
      place = subst (FirstPasses (suits parts.blocks c.blocks_of-count.result) c.first_fit-place.result)
          c.deref-2.ensures.value c.first_fit-place.ensures;
      block = c.block_at-block.ensures c.blocks_of-count.result
          (subst (FirstPasses (suits parts.blocks c.blocks_of-count.result) c.first_fit-place.result)
          (c.deref-2.ensures.value ∙ sym c.deref-3.ensures.value) c.first_fit-place.ensures)
          ∙ ap (fit parts.blocks c.blocks_of-count.result) c.deref-3.ensures.value;
      region = c.in_ok-grow.ensures.ok;
      holes = omega (arith, c.in_ok-reserve.ensures.ok, c.reserve.new.self.ok);
    }
