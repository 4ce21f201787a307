use Rattle.std.proofs.Common.{◌∙◌, sym}
use Rattle.ad_diff_rights.proofs.NoChange.{none_differs}
use Rattle.ad_diff_rights.proofs.unchanged.lines_of.Goals as goal

pub returns-then-unchanged : goal.returns-then-unchanged
returns-then-unchanged c = c.new.ensures.items
    ∙ sym (none_differs c.args.sides.now.before.now c.args.sides.now.after.now c.args.party.now c.args.own c.args.o
    (c.requires.unchanged_party c.if-unchanged_party.true) (c.requires.unchanged c.if-unchanged.true))
