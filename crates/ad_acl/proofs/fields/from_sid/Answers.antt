use Rattle.std.proofs.Common.{◌+◌, ◌≤◌, length, drop, arith, sym, ap, ◌∙◌}
use Rattle.ad_ids.specs.SidReading.{sid_at}
use Rattle.ad_acl.specs.EntryIn.{entry_in}
use Rattle.ad_acl.proofs.EntryPlaces.{flat, sid_long, sid_there}
use Rattle.ad_acl.proofs.fields.from_sid.Goals as goal

pub tail-requires : goal.tail-requires
tail-requires c = omega (
  arith,
  sid_long (entry_in c.args.bytes.now) c.args.bytes.now
      (flat c.args.bytes.now (λ i. omega (arith, c.type_inv.bytes i)) c.requires),
  c.sid_offset-at.ensures,
)

pub returns : goal.returns
returns c =
    let f = flat c.args.bytes.now (λ i. omega (arith, c.type_inv.bytes i)) c.requires in (
      f.more,
      ap sid_at (c.tail.ensures ∙ ap (λ (n : _). drop n c.args.bytes.now) c.sid_offset-at.ensures)
          ∙ sid_there (entry_in c.args.bytes.now) c.args.bytes.now f,
    )
