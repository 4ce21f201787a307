use Rattle.std.proofs.Common.{List, ap, refl, sym, subst, ◌∙◌}
use Rattle.prop_queue.specs.declared.pending.Pending.{Pending}
use Rattle.prop_queue.specs.Pending.{AreDistinct, from_the_start, marked}
use Rattle.prop_queue.specs.Numbers.{AreKnownIf}
use Rattle.prop_queue.proofs.Standing.{stands_pending, push-marked}
use Rattle.prop_queue.proofs.Distinct.{distinct-marked}
use Rattle.prop_queue.proofs.Known.{known-marked}
use Rattle.prop_queue.proofs.queue.Queue.mark.Goals as goal

pub invariant_of-self : goal.invariant_of-self
invariant_of-self c =
    let items : List Pending = c.self.inside.entries.items in
    let stands = c.in-Some.ensures in
    let is = c.start_again.ensures c.args.parent stands in (
      subst AreDistinct (sym is) (distinct-marked items c.args.parent c.self.invariant.0),
      subst (AreKnownIf c.prepare.new.self.numbers) (sym is)
          (known-marked c.prepare.new.self.numbers c.args.parent items
          (stands_pending c.args.parent c.in-Some.place items stands) c.prepare.ensures),
    )

pub invariant_of-self-in-None : goal.invariant_of-self-in-None
invariant_of-self-in-None c =
    let items : List Pending = c.self.inside.entries.items in
    let is = c.in_ok-put_last-in-None.ensures.ok in
    let last = push-marked c.args.parent items c.in-None.ensures in (
      subst AreDistinct (sym (is ∙ last)) (distinct-marked items c.args.parent c.self.invariant.0),
      subst (AreKnownIf c.put_last-in-None.new.self.numbers) (sym is)
          (c.put_last-in-None.ensures items (from_the_start c.args.parent) refl c.prepare.ensures),
    )

pub returns-in_ok-put_last-in-None-clause-ok : goal.returns-in_ok-put_last-in-None-clause-ok
returns-in_ok-put_last-in-None-clause-ok c =
    c.in_ok-put_last-in-None.ensures.ok
    ∙ push-marked c.args.parent c.self.inside.entries.items c.in-None.ensures
    ∙ ap (marked c.args.parent) c.self.view_is
