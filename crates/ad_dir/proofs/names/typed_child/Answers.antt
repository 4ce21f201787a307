use Rattle.std.proofs.Common.{◌∙◌}
use Rattle.ad_dir.proofs.NameLaws.{child_is, no_child_is}
use Rattle.ad_dir.proofs.names.typed_child.Goals as goal

pub if_rdn-requires-clause-live : goal.if_rdn-requires-clause-live
if_rdn-requires-clause-live c = (child_is c.args.dir.now c.args.parent
    (record { kind = c.args.kind.now; value = c.args.value.now }) c.in-Some.child c.invariants.ensures.rise
    c.in-Some.ensures).0

pub returns-in-Some : goal.returns-in-Some
returns-in-Some c = c.if_rdn.ensures ∙ (child_is c.args.dir.now c.args.parent
    (record { kind = c.args.kind.now; value = c.args.value.now }) c.in-Some.child c.invariants.ensures.rise
    c.in-Some.ensures).1

pub returns-in-None : goal.returns-in-None
returns-in-None c = no_child_is c.args.dir.now c.args.parent
    (record { kind = c.args.kind.now; value = c.args.value.now }) c.in-None.ensures
