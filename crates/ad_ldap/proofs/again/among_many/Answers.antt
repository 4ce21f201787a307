use Rattle.std.proofs.Common.{◌∙◌, true, take, sym, ap, subst}
use Rattle.std.specs.Ordering.{nat_cmp}
use Rattle.std.specs.BTreeSet.{Updates}
use Rattle.ad_ldap.specs.Again.{digest}
use Rattle.ad_ldap.proofs.StandsAgain.{new_here, again_here, seen_here, new_digest}
use Rattle.ad_ldap.proofs.again.among_many.Goals as goal

pub returns-then-stands : goal.returns-then-stands
returns-then-stands c =
    let control = c.index-controls-i.result in
    let number = c.digest.ensures ∙ ap digest c.as_slice.ensures in
    again_here c.args.controls.now c.each.i control c.each-test.true c.index-controls-i.is c.each.invariant.new
    (sym (c.stands.ensures (new_digest c.each.seen (take c.each.i c.args.controls.now) control.oid c.digest.result
    c.in_ok-is_new.is_new c.each.invariant.seen number c.in_ok-is_new.ensures.added)) ∙ c.if-stands.true)

pub each-preserved : goal.each-preserved
each-preserved c =
    let control = c.index-controls-i.result in
    let number = c.digest.ensures ∙ ap digest c.as_slice.ensures in
    record {
      new = new_here c.args.controls.now c.each.i control c.each-test.true c.index-controls-i.is c.each.invariant.new
          (sym (c.stands.ensures (new_digest c.each.seen (take c.each.i c.args.controls.now) control.oid
          c.digest.result c.in_ok-is_new.is_new c.each.invariant.seen number c.in_ok-is_new.ensures.added))
          ∙ c.if-stands.false);
      seen = seen_here c.each.seen c.insert.new.self c.args.controls.now c.each.i control c.each-test.true
          c.index-controls-i.is c.each.invariant.seen
          (subst (λ (n : _). Updates nat_cmp c.each.seen c.insert.new.self n true) number
          c.in_ok-is_new.ensures.updates);
    }
