use Rattle.std.proofs.Common.{◌≡◌, ◌<◌, true, List, length, get_or, sym, ap, subst, ◌∙◌, arith}
use Rattle.std.proofs.lemmas.List.{get_or_default}
use Rattle.ad_ids.specs.SidValue.{SidValue, contains_sid}
use Rattle.ad_dir_model.specs.Object.{no_sid}
use Rattle.ad_principals.specs.Reaching.{Takes}
use Rattle.ad_principals.proofs.Steps.{reaching_starts, reaching_goes, reaching_ends}
use Rattle.ad_principals.proofs.reaching.reached.Goals.{then-groups-test+else-len-le-MAX_SET, else-groups-test}
use Rattle.ad_principals.proofs.reaching.reached.Goals as goal

pub groups-init : goal.groups-init
groups-init c =
    reaching_starts c.args.dir.now c.args.user.now c.args.first.now
    c.take_all.new.taken.keys c.take_brought.new.taken.keys
    (subst (λ (old : List SidValue). Takes (λ s. contains_sid c.args.first.now s ≡ true) old c.take_all.new.taken.keys)
    c.in_ok-set.ensures.empty c.in_ok-take_all.ensures)
    c.in_ok-take_brought.ensures

pub groups-preserved : goal.groups-preserved
groups-preserved c =
    let less : c.groups.done < length c.groups.set.keys = omega (arith, c.groups-test.true, c.len.ensures.len) in
    reaching_goes c.args.dir.now c.args.user.now c.args.first.now c.groups.done
    c.index-as_slice-done.result
    c.groups.set.keys c.take_brought-in-groups.new.taken.keys c.groups.invariant less
    (get_or_default c.groups.set.keys c.groups.done no_sid c.index-as_slice-done.result less
    ∙ ap (λ (keys : List SidValue). get_or keys c.groups.done c.index-as_slice-done.result)
    (sym c.as_slice.ensures.keys) ∙ sym c.index-as_slice-done.is)
    c.in_ok-take_brought-2.ensures

pub returns-clause-least : goal.returns-clause-least
returns-clause-least c = λ few.
    reaching_ends c.args.dir.now c.args.user.now c.args.first.now c.groups.done
    c.groups.set.keys c.groups.invariant
    (elim c.groups-test.branch [
      | then-groups-test+else-len-le-MAX_SET w
          ↦ absurd (omega (arith, few, w.if-len-le-MAX_SET.false, w.len-in-groups.ensures.len))
      | else-groups-test w ↦ omega (arith, w.groups-test.false, c.len.ensures.len)
    ])
