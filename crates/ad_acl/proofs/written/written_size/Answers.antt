use Rattle.std.proofs.Common.{arith}
use Rattle.ad_acl.proofs.EntryExact.{some_written, none_written}
use Rattle.ad_acl.proofs.written.written_size.Goals as goal

pub returns-clause-some : goal.returns-clause-some
returns-clause-some c = some_written c.args.bytes.now (λ i. omega (arith, c.type_inv.bytes i)) c.exact_size.result
    c.exact_size.ensures.some

pub returns-clause-none : goal.returns-clause-none
returns-clause-none c = none_written c.args.bytes.now c.exact_size.result c.exact_size.ensures.none
