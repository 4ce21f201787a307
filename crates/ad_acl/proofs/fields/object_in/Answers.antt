use Rattle.std.proofs.Common.{arith, sym, ap, ◌∙◌}
use Rattle.ad_acl.specs.EntryIn.{entry_in}
use Rattle.ad_acl.proofs.EntryPlaces.{flat, says_false, says_true, object_none, object_some, object_long}
use Rattle.ad_acl.proofs.fields.object_in.Goals as goal

pub returns-then-which-eq0 : goal.returns-then-which-eq0
returns-then-which-eq0 c = object_none (entry_in c.args.bytes.now) c.args.bytes.now
    (flat c.args.bytes.now (λ i. omega (arith, c.type_inv.bytes i)) c.requires)
    (says_false _ _ 1 c.which_in-which.ensures c.if-which-eq0.true)

pub guid_at-requires : goal.guid_at-requires
guid_at-requires c = object_long (entry_in c.args.bytes.now) c.args.bytes.now
    (flat c.args.bytes.now (λ i. omega (arith, c.type_inv.bytes i)) c.requires)
    (says_true _ _ 1 c.which_in-which.ensures c.if-which-eq0.false)

pub returns : goal.returns
returns c = rw c.guid_at.ensures (object_some (entry_in c.args.bytes.now) c.args.bytes.now
    (flat c.args.bytes.now (λ i. omega (arith, c.type_inv.bytes i)) c.requires)
    (says_true _ _ 1 c.which_in-which.ensures c.if-which-eq0.false))
