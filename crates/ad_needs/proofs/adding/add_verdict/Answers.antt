use Rattle.std.proofs.Common.{◌∙◌, sym, ap}
use Rattle.ad_dn.specs.declared.rdn.Dn.{Dn}
use Rattle.ad_dn.specs.Reading.{dn_of}
use Rattle.ad_dir.proofs.NameLaws.{if_ok}
use Rattle.ad_needs_rules.specs.declared.outcome.Verdict.TheVariants.{Hidden}
use Rattle.ad_needs.proofs.AddLaws.{add_unread, add_partless, add_root, add_unseen, add_below}
use Rattle.ad_needs.proofs.adding.add_verdict.Goals as goal

pub returns-in_default : goal.returns-in_default
returns-in_default c = add_unread c.args.dir.now c.args.token.now c.args.add.now c.args.settings.now
    (rw c.in_default.is at c.in_ok-dn.ensures ∙ ap dn_of c.as_slice.ensures)

pub returns-in_default-2 : goal.returns-in_default-2
returns-in_default-2 c =
    add_partless c.args.dir.now c.args.token.now c.args.add.now c.args.settings.now c.in-Some.dn
    (rw c.in-Some.is at c.in_ok-dn.ensures ∙ ap dn_of c.as_slice.ensures)
    (rw c.in_default-2.is at c.in_ok-rdn.ensures)

pub returns-then-branch : goal.returns-then-branch
returns-then-branch c =
    let named = rw c.in-Some-2.is at c.in_ok-rdn.ensures in
    add_root c.args.dir.now c.args.token.now c.args.add.now c.args.settings.now c.in-Some.dn
    (rw c.in-Some.is at c.in_ok-dn.ensures ∙ ap dn_of c.as_slice.ensures) named.1
    (sym (rw c.if-branch.true at c.in_ok-is_root_named.ensures))

pub returns-in_default-3 : goal.returns-in_default-3
returns-in_default-3 c =
    let named = rw c.in-Some-2.is at c.in_ok-rdn.ensures in
    ap (λ (d : Dn). Hidden d) c.in_ok-near.ensures
    ∙ add_unseen c.args.dir.now c.args.token.now c.args.add.now c.args.settings.now c.in-Some.dn
    (rw c.in-Some.is at c.in_ok-dn.ensures ∙ ap dn_of c.as_slice.ensures) named.1
    (sym (rw c.if-branch.false at c.in_ok-is_root_named.ensures))
    (rw c.in_default-3.is at c.in_ok-parent.ensures.found)

pub returns : goal.returns
returns c =
    let named = rw c.in-Some-2.is at c.in_ok-rdn.ensures in
    if_ok c.judged_below.result
    (λ verdict is. is
    ∙ add_below c.args.dir.now c.args.token.now c.args.add.now c.args.settings.now c.in-Some.dn c.in-Some-3.parent
    c.in-Some-2.rdn
    (rw c.in-Some.is at c.in_ok-dn.ensures ∙ ap dn_of c.as_slice.ensures) named.1
    (sym (rw c.if-branch.false at c.in_ok-is_root_named.ensures))
    (rw c.in-Some-3.is at c.in_ok-parent.ensures.found) named.0)
    c.judged_below.ensures
