use Rattle.std.proofs.Common.{◌∙◌, ◌+◌, ℕ, sym, subst, arith}
use Rattle.std.proofs.lemmas.List.{nil_from_length}
use Rattle.cmd_store.proofs.StaleLaws.{IsCounting, none_stale, counting_from, counted_more, counted_all}
use Rattle.cmd_store.proofs.stale.count_stale.Goals as goal

pub returns-then-len-eq0 : goal.returns-then-len-eq0
returns-then-len-eq0 c =
    let none = nil_from_length c.queue.result.now (sym c.len.ensures.len ∙ c.if-len-eq0.true) in
    sym (none_stale c.args.dir.now c.requires (sym c.queue.ensures ∙ none))

pub loop-number-init : goal.loop-number-init
loop-number-init c = counting_from c.args.dir.now c.deref-number-items.result.now
    (c.deref-number-items.ensures.value ∙ c.in_ok-numbers.ensures)

pub loop-number-preserved : goal.loop-number-preserved
loop-number-preserved c =
    let counted = counted_more c.args.dir.now c.deref-number-items.result.now c.loop-number.n
    c.loop-number.number-index (c.loop-number.number-index + 1) c.in_ok-is_stale.field-0
    c.loop-number.invariant (omega arith) c.loop-number-test.true c.in_ok-is_stale.ensures in
    subst (λ (k : ℕ). IsCounting c.args.dir.now c.deref-number-items.result.now (c.loop-number.n + k)
    (c.loop-number.number-index + 1)) (sym c.one_if.ensures) counted

pub returns : goal.returns
returns c = counted_all c.args.dir.now c.deref-number-items.result.now c.loop-number.n c.loop-number.number-index
    c.loop-number.invariant (omega (arith, c.loop-number-test.false))
