use Rattle.std.proofs.Common.{◌+◌, arith, sym, ap, ◌∙◌}
use Rattle.ad_acl.specs.EntryIn.{entry_in}
use Rattle.ad_acl.proofs.EntryPlaces.{flat, says_false, says_true, inherited_none, inherited_some, inherited_long}
use Rattle.ad_acl.proofs.EntryPlaces.{offset_is}
use Rattle.ad_acl.proofs.fields.inherited_in.Goals as goal

pub returns-then-which-eq0 : goal.returns-then-which-eq0
returns-then-which-eq0 c = inherited_none (entry_in c.args.bytes.now) c.args.bytes.now
    (flat c.args.bytes.now (λ i. omega (arith, c.type_inv.bytes i)) c.requires)
    (says_false _ _ 2 c.which_in-which.ensures c.if-which-eq0.true)

pub guid_at-requires : goal.guid_at-requires
guid_at-requires c = inherited_long (entry_in c.args.bytes.now) c.args.bytes.now (12 + c.guid_len-at.result)
    (flat c.args.bytes.now (λ i. omega (arith, c.type_inv.bytes i)) c.requires)
    (says_true _ _ 2 c.which_in-which.ensures c.if-which-eq0.false)
    (offset_is c.args.bytes.now c.which_in-which.result c.guid_len-at.result c.which_in-which.ensures
    c.guid_len-at.ensures.value)

pub returns : goal.returns
returns c = rw c.guid_at.ensures (inherited_some (entry_in c.args.bytes.now) c.args.bytes.now
    (12 + c.guid_len-at.result) (flat c.args.bytes.now (λ i. omega (arith, c.type_inv.bytes i)) c.requires)
    (says_true _ _ 2 c.which_in-which.ensures c.if-which-eq0.false)
    (offset_is c.args.bytes.now c.which_in-which.result c.guid_len-at.result c.which_in-which.ensures
    c.guid_len-at.ensures.value))
