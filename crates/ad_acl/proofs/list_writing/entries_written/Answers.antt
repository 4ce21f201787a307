use Rattle.std.proofs.Common.{◌≡◌, ◌+◌, ◌++◌, length, take, sym, ap, ◌∙◌, arith}
use Rattle.std.specs.List.{flat_map}
use Rattle.ad_acl.specs.Writing.{entry_bytes}
use Rattle.ad_acl.proofs.ListWriting.{entries_more, front_le}
use Rattle.ad_acl.proofs.list_writing.entries_written.Goals as goal

pub returns-then-len-clause-too_long : goal.returns-then-len-clause-too_long
returns-then-len-clause-too_long c = λ _.
    let put : c.write_entry.new.into.items ≡ flat_map entry_bytes (take (c.loop-ace.ace-index + 1) c.args.list.now) =
    c.in_ok-write_entry.ensures.written ∙ ap (λ t. t ++ entry_bytes c.ace-item.result) c.loop-ace.invariant.put
    ∙ sym (entries_more c.loop-ace.ace-index c.args.list.now c.ace-item.result c.loop-ace-test.true c.ace-item.is)
    in
    omega (arith, ap length put, front_le (c.loop-ace.ace-index + 1) c.args.list.now, c.len.ensures, c.if-len.true)
