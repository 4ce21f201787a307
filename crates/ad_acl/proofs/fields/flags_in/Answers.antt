use Rattle.std.specs.Prelude.{slice_index}
use Rattle.std.proofs.Common.{arith, sym, ap, ◌∙◌}
use Rattle.ad_acl.specs.EntryIn.{entry_in}
use Rattle.ad_acl.proofs.KeptFlags.{kept-clear}
use Rattle.ad_acl.proofs.EntryPlaces.{flat, long_20, flags_there}
use Rattle.ad_acl.proofs.fields.flags_in.Goals as goal

pub bounds-bytes-1 : goal.bounds-bytes-1
bounds-bytes-1 c = omega (
  arith,
  long_20 (entry_in c.args.bytes.now) c.args.bytes.now
      (flat c.args.bytes.now (λ i. omega (arith, c.type_inv.bytes i)) c.requires),
)

pub returns-clause-value : goal.returns-clause-value
returns-clause-value c = flags_there (entry_in c.args.bytes.now) c.args.bytes.now
    (flat c.args.bytes.now (λ i. omega (arith, c.type_inv.bytes i)) c.requires)

pub returns-clause-clear : goal.returns-clause-clear
returns-clause-clear c = kept-clear (slice_index c.args.bytes.now 1) (omega (arith, c.type_inv.bytes 1))
