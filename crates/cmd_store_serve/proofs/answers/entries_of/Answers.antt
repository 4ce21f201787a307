use Rattle.std.proofs.Common.{◌≡◌, ◌∙◌, ℕ, suc, ◌+◌, ◌-◌, List, length, ap, arith}
use Rattle.cmd_store_serve.specs.Answers.{operation_of, is_entry, one_if}
use Rattle.cmd_store_serve.proofs.Entries.{entries_more, entries_end, entries_none, one_small}
use Rattle.cmd_store_serve.proofs.answers.entries_of.Goals as goal

pub returns-in-Err : goal.returns-in-Err
returns-in-Err c =
    let len = length c.args.reply.now in
    let next : len - c.loop.counter ≡ suc (len - (c.loop.counter + 1)) = omega (arith, c.loop-test.true) in
    let none = entries_end (len - c.loop.counter) (len - (c.loop.counter + 1)) c.loop.input c.in-Err.field-0 next
    c.in-Err.ensures.read in
    omega (arith, c.loop.invariant.all, none)

pub loop-preserved : goal.loop-preserved
loop-preserved c =
    let len = length c.args.reply.now in
    let next : len - c.loop.counter ≡ suc (len - (c.loop.counter + 1)) = omega (arith, c.loop-test.true) in
    let more = entries_more (len - c.loop.counter) (len - (c.loop.counter + 1)) c.loop.input c.read.new.input
    c.in-Ok.message next c.in-Ok.ensures.read in
    let one : c.one_if-found.result ≡ one_if (is_entry (operation_of c.in-Ok.message.body)) =
    c.one_if-found.ensures ∙ ap one_if (c.is_entry.ensures ∙ ap (λ (b : List ℕ). is_entry (operation_of b))
    c.rest.ensures) in
    record {
      all = omega (arith, c.loop.invariant.all, more, one);
      few = omega (arith, c.loop.invariant.few, one_small (is_entry (operation_of c.in-Ok.message.body)), one);
    }

pub returns : goal.returns
returns c =
    let none : length c.args.reply.now - c.loop.counter ≡ 0 = omega (arith, c.loop-test.false) in
    omega (arith, c.loop.invariant.all, entries_none (length c.args.reply.now - c.loop.counter) c.loop.input none)
