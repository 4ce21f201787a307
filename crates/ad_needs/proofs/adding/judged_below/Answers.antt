use Rattle.std.proofs.Common.{◌∙◌}
use Rattle.ad_dir.proofs.NameLaws.{if_ok}
use Rattle.ad_needs.proofs.AddLaws.{named_at, below_misnamed, below_classless, below_of_class}
use Rattle.ad_needs.proofs.adding.judged_below.Goals as goal

pub returns-in-Some : goal.returns-in-Some
returns-in-Some c =
    below_misnamed c.args.dir.now c.args.token.now c.args.parent c.args.rdn c.args.add.now c.args.flags
    c.in-Some.refusal
    (rw c.in-Some.is at c.in_ok-named.ensures ∙ named_at c.args.dir.now c.args.add.now c.schema.result.now
    c.as_slice.result.now c.schema.ensures c.as_slice.ensures)

pub returns-in_default-2 : goal.returns-in_default-2
returns-in_default-2 c =
    below_classless c.args.dir.now c.args.token.now c.args.parent c.args.rdn c.args.add.now c.args.flags
    (rw c.in_default.is at c.in_ok-named.ensures ∙ named_at c.args.dir.now c.args.add.now c.schema.result.now
    c.as_slice.result.now c.schema.ensures c.as_slice.ensures)
    (rw c.in_default-2.is at c.in_ok-class.ensures.class)

pub returns : goal.returns
returns c =
    if_ok c.judged_of_class.result
    (λ verdict is. is ∙ below_of_class c.args.dir.now c.args.token.now c.args.parent c.args.rdn c.args.add.now
    c.args.flags c.in-Some-2.class.0
    (rw c.in_default.is at c.in_ok-named.ensures ∙ named_at c.args.dir.now c.args.add.now c.schema.result.now
    c.as_slice.result.now c.schema.ensures c.as_slice.ensures)
    (rw c.in-Some-2.is at c.in_ok-class.ensures.class))
    c.judged_of_class.ensures
