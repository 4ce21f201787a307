use Rattle.std.proofs.Common.{sym, ◌∙◌, arith}
use Rattle.ad_ids.proofs.SidFront.{spelled_of, found_here, found_whole, at_fault, one_shorter, no_fronts}
use Rattle.ad_ids.proofs.sid.front.longest_prefix.Goals as goal

pub returns-in-Ok-clause-longest : goal.returns-in-Ok-clause-longest
returns-in-Ok-clause-longest c = sym (found_whole c.in-Ok.sid c.args.text.now
    (spelled_of c.in-Ok.sid c.args.text.now c.in-Ok.ensures.found))

pub loop-len-init : goal.loop-len-init
loop-len-init c = at_fault c.in-Err.fault.place c.args.text.now c.in-Err.ensures.fault

pub returns-in-Ok-from_text-clause-longest : goal.returns-in-Ok-from_text-clause-longest
returns-in-Ok-from_text-clause-longest c =
    sym (sym c.loop-len.invariant ∙ found_here c.loop-len.len c.in-Ok-from_text.sid c.args.text.now
    (spelled_of c.in-Ok-from_text.sid _ c.in-Ok-from_text.ensures.found))

pub loop-len-preserved : goal.loop-len-preserved
loop-len-preserved c =
    sym (one_shorter c.loop-len.len c.args.text.now c.loop-len-test.true
    (λ v s. let read = c.in_default.ensures.only v s in absurd cc)) ∙ c.loop-len.invariant

pub returns-clause-longest : goal.returns-clause-longest
returns-clause-longest c = sym (sym c.loop-len.invariant ∙ no_fronts c.loop-len.len c.args.text.now
    (omega (arith, c.loop-len-test.false)))
