use Rattle.std.proofs.Common.{◌∙◌, ap}
use Rattle.ad_dn.specs.declared.rdn.Dn.{Dn}
use Rattle.ad_dir.proofs.NameLaws.{if_ok}
use Rattle.ad_needs_rules.specs.declared.outcome.Verdict.TheVariants.{Hidden}
use Rattle.ad_needs.proofs.RenameLaws.{moved_unread, moved_unseen, moved_nowhere, moved_seen}
use Rattle.ad_needs.proofs.renaming.judged_moved.Goals as goal

pub returns-in_default : goal.returns-in_default
returns-in_default c = moved_unread c.args.dir.now c.args.token.now c.args.dn.now.rdns c.args.rdn c.args.superior.now
    (rw c.in_default.is at c.in_ok-above.ensures)

pub returns-in_default-2 : goal.returns-in_default-2
returns-in_default-2 c =
    ap (λ (d : Dn). Hidden d) c.in_ok-near.ensures
    ∙ moved_unseen c.args.dir.now c.args.token.now c.args.dn.now.rdns c.args.rdn c.args.superior.now c.in-Some.above
    (rw c.in-Some.is at c.in_ok-above.ensures)
    (rw c.in_default-2.is at c.in_ok-number.ensures.found)

pub returns-in_default-3 : goal.returns-in_default-3
returns-in_default-3 c =
    ap (λ (d : Dn). Hidden d) c.in_ok-next.ensures
    ∙ moved_nowhere c.args.dir.now c.args.token.now c.args.dn.now.rdns c.args.rdn c.args.superior.now c.in-Some.above
    c.in-Some-2.number (rw c.in-Some.is at c.in_ok-above.ensures)
    (rw c.in-Some-2.is at c.in_ok-number.ensures.found) (rw c.in_default-3.is at c.in_ok-parent.ensures.found)

pub returns : goal.returns
returns c =
    if_ok c.verdict_there.result
    (λ verdict is. is ∙ moved_seen c.args.dir.now c.args.token.now c.args.dn.now.rdns c.args.rdn c.args.superior.now
    c.in-Some.above c.in-Some-2.number c.in-Some-3.parent
    (rw c.in-Some.is at c.in_ok-above.ensures) (rw c.in-Some-2.is at c.in_ok-number.ensures.found)
    (rw c.in-Some-3.is at c.in_ok-parent.ensures.found))
    c.verdict_there.ensures
