use Rattle.std.proofs.Common.{◌+◌, refl, sym, ◌∙◌, arith}
use Rattle.ad_ldifmod.proofs.OneByOne.{nothing_taken, one_taken, one_faulty}
use Rattle.ad_ldifmod.proofs.next.take_line.Goals as goal

pub returns-then-says_nothing-clause-taken : goal.returns-then-says_nothing-clause-taken
returns-then-says_nothing-clause-taken c = nothing_taken c.args.dir.now c.args.taken.now _ c.args.line.now
    (sym c.says_nothing.ensures ∙ c.if-says_nothing.true) refl (omega arith) refl

pub returns-in-Ok-clause-taken : goal.returns-in-Ok-clause-taken
returns-in-Ok-clause-taken c =
    one_taken c.args.dir.now c.args.taken.now _ c.args.line.now c.in-Ok.message (c.args.taken.now.messages + 1)
    (sym c.says_nothing.ensures ∙ c.if-says_nothing.false) (omega arith)
    (omega (arith, c.requires.room, c.requires.fewer)) c.in-Ok.ensures.message c.in-Ok.ensures.lists (omega arith)
    (omega arith)

pub returns-in-Err-Bad-clause-faulty : goal.returns-in-Err-Bad-clause-faulty
returns-in-Err-Bad-clause-faulty c =
    λ _. one_faulty c.args.dir.now c.args.taken.now _ (c.args.taken.now.messages + 1) c.args.line.now
    c.in-Err-Bad.kind (sym c.says_nothing.ensures ∙ c.if-says_nothing.false) (omega arith) (omega arith)
    (rw c.in-Err-Bad.field-0-is at c.in-Err-Bad.ensures.message refl)
