use Rattle.std.proofs.Common.{length}
use Rattle.ad_sddl.specs.Reading.{all_flags}
use Rattle.ad_sddl.proofs.Loops.{flags_more, flags_end, or_true, or_false}
use Rattle.ad_sddl.proofs.list.read_list_flags.Goals as goal

pub loop-is_p-preserved-then-protected : goal.loop-is_p-preserved-then-protected
loop-is_p-preserved-then-protected c =
    let i = c.loop-is_p.invariant in
    flags_more i.0 c.loop-is_p.protected c.in-Some.is_p c.loop-is_p.protected c.loop-is_p.input
    c.read_list_flag.new.input (length c.args.input.now) (all_flags c.args.input.now) i.1.1.0
    (or_true c.loop-is_p.protected c.in-Some.is_p c.if-protected.true) i.1.0 c.in-Some.ensures.left
    c.in-Some.ensures.read i.1.1.1

pub loop-is_p-preserved : goal.loop-is_p-preserved
loop-is_p-preserved c =
    let i = c.loop-is_p.invariant in
    flags_more i.0 c.loop-is_p.protected c.in-Some.is_p c.in-Some.is_p c.loop-is_p.input c.read_list_flag.new.input
    (length c.args.input.now) (all_flags c.args.input.now) i.1.1.0
    (or_false c.loop-is_p.protected c.in-Some.is_p c.if-protected.false) i.1.0 c.in-Some.ensures.left
    c.in-Some.ensures.read i.1.1.1

pub returns-clause-read : goal.returns-clause-read
returns-clause-read c =
    let i = c.loop-is_p.invariant in
    rw c.in_default.ensures.none (flags_end i.0 c.loop-is_p.protected c.loop-is_p.input (all_flags c.args.input.now)
    c.in_default.ensures.read i.1.1.1)
