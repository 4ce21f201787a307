use Rattle.std.proofs.Common.{arith}
use Rattle.gate_log.proofs.Parsing.{head_found}
use Rattle.gate_log.proofs.read.head_of.Goals as goal

pub returns-clause-head : goal.returns-clause-head
returns-clause-head c =
    head_found c.args.bytes.now c.number_of.result c.if-bytes-lt-RECORDS.false (λ i. omega (arith, c.type_inv.bytes i))
    c.if-bytes-ne1.false c.if-bytes-ne65.false c.if-bytes-ne68.false c.if-bytes-ne83.false c.if-bytes-ne68-2.false
    c.number_of.ensures
