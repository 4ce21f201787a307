use Rattle.std.proofs.Common.{◌∙◌, ap}
use Rattle.ad_dn.specs.declared.rdn.Dn.{Dn}
use Rattle.ad_needs_rules.specs.declared.outcome.Verdict.TheVariants.{Hidden}
use Rattle.ad_needs.proofs.DeleteLaws.{delete_unread, delete_unseen, delete_root, delete_needed, delete_granted}
use Rattle.ad_needs.proofs.deleting.delete_verdict.Goals as goal

pub returns-in_default : goal.returns-in_default
returns-in_default c = delete_unread c.args.dir.now c.args.token.now c.args.text.now c.args.settings.now
    (rw c.in_default.is at c.in_ok-dn.ensures)

pub returns-in_default-2 : goal.returns-in_default-2
returns-in_default-2 c =
    ap (λ (d : Dn). Hidden d) c.in_ok-above.ensures
    ∙ delete_unseen c.args.dir.now c.args.token.now c.args.text.now c.args.settings.now c.in-Some.dn
    (rw c.in-Some.is at c.in_ok-dn.ensures) (rw c.in_default-2.is at c.in_ok-number.ensures.found)

pub returns-then-number-eq-ROOT : goal.returns-then-number-eq-ROOT
returns-then-number-eq-ROOT c =
    delete_root c.args.dir.now c.args.token.now c.args.text.now c.args.settings.now c.in-Some.dn c.in-Some-2.number
    (rw c.in-Some.is at c.in_ok-dn.ensures)
    (rw c.in-Some-2.is at c.in_ok-number.ensures.found) c.if-number-eq-ROOT.true

pub returns-in-Some-3 : goal.returns-in-Some-3
returns-in-Some-3 c =
    delete_needed c.args.dir.now c.args.token.now c.args.text.now c.args.settings.now c.in-Some.dn c.in-Some-2.number
    c.in-Some-3.refusal (rw c.in-Some.is at c.in_ok-dn.ensures)
    (rw c.in-Some-2.is at c.in_ok-number.ensures.found) c.if-number-eq-ROOT.false
    (rw c.in-Some-3.is at c.in_ok-refusal.ensures.refusal)

pub returns : goal.returns
returns c =
    delete_granted c.args.dir.now c.args.token.now c.args.text.now c.args.settings.now c.in-Some.dn c.in-Some-2.number
    (rw c.in-Some.is at c.in_ok-dn.ensures)
    (rw c.in-Some-2.is at c.in_ok-number.ensures.found) c.if-number-eq-ROOT.false
    (rw c.in-None.is at c.in_ok-refusal.ensures.refusal)
