use Rattle.std.proofs.Common.{ℕ, ◌*◌, ◌≤◌, length, sym, subst, arith}
use Rattle.sd_pool.specs.Holes.{suits}
use Rattle.sd_pool.proofs.Lists.{place_within}
use Rattle.sd_pool.proofs.Slotted.{len_fits}
use Rattle.sd_pool.proofs.Keeping.{kept-new, is-put}
use Rattle.sd_pool.proofs.parts.put_at.Goals as goal

pub take-requires : goal.take-requires
take-requires c = place_within (suits c.args.parts.now.blocks c.args.spot.count) c.args.spot.place
    c.args.parts.now.holes.items c.requires.ready.place

pub write-requires : goal.write-requires
write-requires c =
    let short : length c.args.bytes.now ≤ 64 * c.args.spot.count = subst (λ (n : ℕ). length c.args.bytes.now ≤ 64 * n)
    (sym c.requires.ready.count) (len_fits (length c.args.bytes.now)) in
    omega (arith, short, c.requires.ready.region)

pub overflow_add-parts : goal.overflow_add-parts
overflow_add-parts c = omega (arith, c.requires.few)

pub returns-clause-kept : goal.returns-clause-kept
returns-clause-kept c = kept-new c.args.parts.now c.write.new.region c.set_slot.new.slots c.take.new.holes
    c.max-parts.result c.args.bytes.now c.args.spot (record {
      laid = c.requires.laid;
      ready = c.requires.ready;
      new = c.requires.new;
      region_is = c.write.ensures;
      slots_are = c.set_slot.ensures;
      holes_are = c.take.ensures.taken c.args.parts.now.blocks c.requires.ready.place;
      cap_is = c.take.ensures.capacity;
      fewer = c.take.ensures.len;
      blocks_are = c.max-parts.ensures;
    }) c.requires.tallied

pub returns-clause-put : goal.returns-clause-put
returns-clause-put c = is-put c.args.parts.now c.write.new.region c.set_slot.new.slots c.take.new.holes
    c.max-parts.result c.args.bytes.now c.args.spot (record {
      laid = c.requires.laid;
      ready = c.requires.ready;
      new = c.requires.new;
      region_is = c.write.ensures;
      slots_are = c.set_slot.ensures;
      holes_are = c.take.ensures.taken c.args.parts.now.blocks c.requires.ready.place;
      cap_is = c.take.ensures.capacity;
      fewer = c.take.ensures.len;
      blocks_are = c.max-parts.ensures;
    })
