use Rattle.std.proofs.Common.{arith}
use Rattle.ad_acl.proofs.AclCodec.{found_unless, only_unless}
use Rattle.ad_acl.proofs.list.read_acl.Goals as goal

pub returns-clause-found : goal.returns-clause-found
returns-clause-found c =
    found_unless (λ v. v.items) c.read_list.result c.read_list.new.input c.args.bytes.now
    (λ i. omega (arith, c.type_inv.bytes i)) (rw c.new-input.ensures at c.read_list.ensures.read)

pub returns-clause-only : goal.returns-clause-only
returns-clause-only c = λ entries text rest s parts.
    only_unless (λ v. v.items) c.read_list.result c.read_list.new.input c.args.bytes.now
    (rw c.new-input.ensures at c.read_list.ensures.read) entries text rest s parts
