use Rattle.std.proofs.Common.{◌≡◌, List, subst}
use Rattle.std.proofs.lemmas.List.{take_all}
use Rattle.std.proofs.lemmas.List.Elements.{All-more}
use Rattle.ad_ids.specs.SidValue.{SidValue}
use Rattle.ad_access.specs.Holder.{first_holder, holds}
use Rattle.ad_diff_rights.specs.Named.{HoldAlike}
use Rattle.ad_diff.proofs.kinds.hold_alike.Goals as goal

pub loop-sid-preserved : goal.loop-sid-preserved
loop-sid-preserved c =
    let P = λ (sid : SidValue). holds (first_holder c.args.a.now) sid ≡ holds (first_holder c.args.b.now) sid in
    All-more P c.args.named.now c.loop-sid.sid-index c.sid-item.result c.loop-sid-test.true c.loop-sid.invariant
    (subst P c.sid-item.is (c.hold_same.ensures c.if-not-hold_same.false))

pub returns : goal.returns
returns c = λ done. subst (λ (sids : List SidValue). HoldAlike sids c.args.a.now c.args.b.now)
    (take_all c.loop-sid.sid-index c.args.named.now c.loop-sid-test.false) c.loop-sid.invariant
