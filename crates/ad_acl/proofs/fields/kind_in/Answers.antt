use Rattle.std.proofs.Common.{arith, sym, ap, ◌∙◌}
use Rattle.ad_acl.specs.EntryIn.{entry_in}
use Rattle.ad_acl.proofs.EntryPlaces.{flat, long_20, kind_there}
use Rattle.ad_acl.proofs.fields.kind_in.Goals as goal

pub bounds-bytes-0 : goal.bounds-bytes-0
bounds-bytes-0 c = omega (
  arith,
  long_20 (entry_in c.args.bytes.now) c.args.bytes.now
      (flat c.args.bytes.now (λ i. omega (arith, c.type_inv.bytes i)) c.requires),
)

pub returns : goal.returns
returns c = c.kind_of.ensures ∙ kind_there (entry_in c.args.bytes.now) c.args.bytes.now
    (flat c.args.bytes.now (λ i. omega (arith, c.type_inv.bytes i)) c.requires)
