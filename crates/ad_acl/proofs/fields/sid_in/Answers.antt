use Rattle.std.proofs.Common.{arith, sym, ap, ◌∙◌}
use Rattle.ad_acl.specs.EntryIn.{entry_in}
use Rattle.ad_acl.proofs.EntryPlaces.{flat, sid_long, sid_is, sid_fault}
use Rattle.ad_acl.proofs.fields.sid_in.Goals as goal

pub tail-requires : goal.tail-requires
tail-requires c = omega (
  arith,
  sid_long (entry_in c.args.bytes.now) c.args.bytes.now
      (flat c.args.bytes.now (λ i. omega (arith, c.type_inv.bytes i)) c.requires),
  c.sid_offset-at.ensures,
)

pub unreachable-requires : goal.unreachable-requires
unreachable-requires c = sid_fault (entry_in c.args.bytes.now) c.args.bytes.now
    (flat c.args.bytes.now (λ i. omega (arith, c.type_inv.bytes i)) c.requires) c.sid_offset-at.result
    c.tail.result.now c.new-input.result c.in-Err.field-0 c.sid_offset-at.ensures c.tail.ensures c.new-input.ensures
    c.in-Err.ensures.read

pub returns : goal.returns
returns c = sid_is (entry_in c.args.bytes.now) c.args.bytes.now
    (flat c.args.bytes.now (λ i. omega (arith, c.type_inv.bytes i)) c.requires) c.sid_offset-at.result
    c.tail.result.now c.new-input.result c.read.new.input c.in-Ok.sid c.sid_offset-at.ensures c.tail.ensures
    c.new-input.ensures c.in-Ok.ensures.read
