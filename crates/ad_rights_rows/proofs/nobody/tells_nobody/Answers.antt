use Rattle.std.proofs.Common.{◌≡◌, ◌∙◌, sym, subst, arith}
use Rattle.ad_rights_rows.proofs.Telling.{none_there, one_there}
use Rattle.ad_rights_rows.proofs.Signs.{added_there, none_before}
use Rattle.ad_rights_rows.proofs.nobody.tells_nobody.Goals as goal

pub returns-then-is_added : goal.returns-then-is_added
returns-then-is_added c = λ whole is.
    sym (added_there c.args.set.now whole c.args.own c.args.sign is (sym c.is_added.ensures ∙ c.if-is_added.true))

pub loop-member-init : goal.loop-member-init
loop-member-init c = λ q lt within.
    none_before c.args.set.now c.args.own c.args.sign q (sym c.is_added.ensures ∙ c.if-is_added.false) within
    (c.requires q lt)

pub returns-then-signed : goal.returns-then-signed
returns-then-signed c = λ whole is.
    sym (one_there whole c.loop-member.member
    (sym (is.1 c.loop-member.member) ∙ sym c.signed.ensures ∙ c.if-signed.true))

pub returns : goal.returns
returns c = λ whole is.
    let l = c.loop-member in
    sym (none_there whole (λ q lt. sym (is.1 q) ∙ l.invariant q (omega (arith, lt, is.0, c.loop-member-test.false))
    (omega (arith, lt, is.0))))
