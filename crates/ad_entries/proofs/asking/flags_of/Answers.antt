use Rattle.std.proofs.Common.{sym, subst, ◌∙◌, arith}
use Rattle.std.proofs.lemmas.List.{drop_all}
use Rattle.ad_entries.proofs.ListLaws.{from_here}
use Rattle.ad_entries.specs.Asked.{AreFlags}
use Rattle.ad_entries.proofs.AskedLaws.{one_more, flags_end, leaves_unasked, all_set, all_by_none, all_by_every}
use Rattle.ad_entries.proofs.asking.flags_of.Goals as goal

pub loop-asked-preserved : goal.loop-asked-preserved
loop-asked-preserved c =
    one_more c.args.schema.now c.args.sent.now c.loop-asked.flags.items c.flag_named.new.flags.items
    c.loop-asked.named.items c.flag_named.new.named.items c.loop-asked.asked-index c.asked-item.result
    (c.names_are_distinct.ensures c.args.schema.now c.make_schema.ensures.added)
    (from_here c.args.sent.now c.loop-asked.asked-index c.asked-item.result c.loop-asked-test.true c.asked-item.is)
    (rw c.as_slice.ensures at (sym c.is_every.ensures ∙ c.if-is_every.false))
    (rw c.as_slice-in-loop-asked.ensures at c.in_ok-flag_named.ensures) c.loop-asked.invariant

pub returns-clause-flags : goal.returns-clause-flags
returns-clause-flags c =
    flags_end c.args.schema.now c.args.sent.now c.loop-asked.flags.items c.loop-asked.named.items
    c.loop-asked.asked-index (sym c.is_empty.ensures ∙ c.if-is_empty.false)
    (drop_all c.loop-asked.asked-index c.args.sent.now (omega (arith, c.loop-asked-test.false))) c.loop-asked.invariant

pub returns-then-is_empty-clause-flags : goal.returns-then-is_empty-clause-flags
returns-then-is_empty-clause-flags c =
    subst (AreFlags c.args.schema.now c.args.sent.now) (sym c.in_ok-all_flags.ensures)
    (all_set c.args.schema.now c.args.sent.now
    (all_by_none c.args.sent.now (sym c.is_empty.ensures ∙ c.if-is_empty.true)))

pub returns-then-is_every-clause-flags : goal.returns-then-is_every-clause-flags
returns-then-is_every-clause-flags c =
    subst (AreFlags c.args.schema.now c.args.sent.now) (sym c.in_ok-all_flags-2.ensures)
    (all_set c.args.schema.now c.args.sent.now
    (all_by_every c.args.sent.now c.loop-asked.asked-index c.asked-item.result
    (from_here c.args.sent.now c.loop-asked.asked-index c.asked-item.result c.loop-asked-test.true c.asked-item.is)
    (rw c.as_slice.ensures at (sym c.is_every.ensures ∙ c.if-is_every.true))))

pub returns-clause-named : goal.returns-clause-named
returns-clause-named c =
    leaves_unasked c.args.schema.now c.args.sent.now c.loop-asked.flags.items c.loop-asked.named.items
    (flags_end c.args.schema.now c.args.sent.now c.loop-asked.flags.items c.loop-asked.named.items
    c.loop-asked.asked-index (sym c.is_empty.ensures ∙ c.if-is_empty.false)
    (drop_all c.loop-asked.asked-index c.args.sent.now (omega (arith, c.loop-asked-test.false)))
    c.loop-asked.invariant) c.loop-asked.invariant.listed
