use Rattle.ad_protect.specs.Putting.{sd_given}
use Rattle.ad_protect.proofs.Steps.{puts_none, puts_end}
use Rattle.ad_protect.proofs.puts.puts_of.Goals as goal

pub loop-number-init : goal.loop-number-init
loop-number-init c = puts_none c.args.dir.now (sd_given c.args.given.now) c.new-edits.result.items
    c.new-edits.ensures.items

pub returns : goal.returns
returns c =
    puts_end c.args.dir.now (sd_given c.args.given.now) c.args.numbers.now c.loop-number.number-index
    c.loop-number.edits.items
    c.loop-number-test.false c.loop-number.invariant
