use Rattle.std.proofs.Common.{arith, sym, ap, ◌∙◌}
use Rattle.ad_acl.specs.EntryIn.{entry_in}
use Rattle.ad_acl.proofs.EntryPlaces.{flat, long_20, mask_at}
use Rattle.ad_acl.proofs.fields.mask_in.Goals as goal

pub number32-requires : goal.number32-requires
number32-requires c = omega (
  arith,
  long_20 (entry_in c.args.bytes.now) c.args.bytes.now
      (flat c.args.bytes.now (λ i. omega (arith, c.type_inv.bytes i)) c.requires),
)

pub returns : goal.returns
returns c = c.number32.ensures ∙ mask_at (entry_in c.args.bytes.now) c.args.bytes.now
    (flat c.args.bytes.now (λ i. omega (arith, c.type_inv.bytes i)) c.requires)
