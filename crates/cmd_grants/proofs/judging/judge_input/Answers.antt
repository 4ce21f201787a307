use Rattle.std.proofs.Common.{◌≤◌, length, arith}
use Rattle.cmd_grants.proofs.Inputs.{judged_whole, judged_long}
use Rattle.cmd_grants.proofs.judging.judge_input.Goals as goal

pub returns-in_ok-judge_text-in-Ok-Some-clause-judged :
    goal.returns-in_ok-judge_text-in-Ok-Some-clause-judged
returns-in_ok-judge_text-in-Ok-Some-clause-judged g c =
    let read = rw c.in-Ok-Some.field-0-is at c.in-Ok-Some.ensures in
    let few : length c.in-Ok-Some.text.items ≤ 1048576 = omega (arith, read.within) in
    judged_whole c.args.dir.now (g.I.Source.rest c.args.source.now) (g.I.Source.rest c.read_whole.new.source)
    c.in-Ok-Some.text.items c.in_ok-judge_text-in-Ok-Some.field-0 few read.whole
    c.in_ok-judge_text-in-Ok-Some.ensures

pub returns-in_ok-too_long-in-Ok-None-clause-judged : goal.returns-in_ok-too_long-in-Ok-None-clause-judged
returns-in_ok-too_long-in-Ok-None-clause-judged g c =
    judged_long c.args.dir.now (g.I.Source.rest c.args.source.now) (g.I.Source.rest c.read_whole.new.source)
    c.in_ok-too_long-in-Ok-None.field-0 (rw c.in-Ok-None.field-0-is at c.in-Ok-None.ensures).whole
    c.in_ok-too_long-in-Ok-None.ensures
