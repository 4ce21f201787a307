use Rattle.ad_ldifmod.proofs.Descriptors.{written_alone}
use Rattle.ad_ldifmod.proofs.messages.sd_of.Goals as goal

pub returns : goal.returns
returns c = written_alone c.args.list.now c.as_slice.result.now c.in_ok-acl.acl.items c.header.result.now
    c.deref.result.now c.in_ok-sd.sd
    c.as_slice.ensures c.in_ok-acl.ensures.written c.deref.ensures.value
    (c.header.ensures c.args.list.now.entries c.in_ok-acl.acl.items) c.in_ok-sd.ensures
