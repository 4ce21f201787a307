use Rattle.std.proofs.Common.{◌≡◌, List, false, sym, subst}
use Rattle.prop_queue.specs.declared.pending.Pending.{Pending}
use Rattle.prop_queue.specs.Pending.{is_pending, AreDistinct, without}
use Rattle.prop_queue.specs.Numbers.{AreKnownIf}
use Rattle.prop_queue.proofs.Standing.{without-absent}
use Rattle.prop_queue.proofs.Distinct.{distinct-without, absent-without}
use Rattle.prop_queue.proofs.Known.{known-without}
use Rattle.prop_queue.proofs.queue.Queue.remove.Goals as goal

pub invariant_of-self : goal.invariant_of-self
invariant_of-self c =
    let items : List Pending = c.self.inside.entries.items in
    let is = c.take_out.ensures c.args.parent c.in-Some.ensures c.self.invariant.0 in
    let known = known-without c.self.inside.index.numbers c.args.parent items c.self.invariant.1 in (
      subst AreDistinct (sym is) (distinct-without items c.args.parent c.self.invariant.0),
      c.take_off.ensures c.take_out.new.entries.items
          (subst (λ (queue : List Pending). is_pending c.args.parent queue ≡ false) (sym is)
          (absent-without c.args.parent items))
          (subst (AreKnownIf c.self.inside.index.numbers) (sym is) known),
    )

pub returns-in_default : goal.returns-in_default
returns-in_default c = subst (λ (queue : List Pending). queue ≡ without c.args.parent queue) c.self.view_is
    (sym (without-absent c.args.parent c.self.inside.entries.items c.in_default.ensures))
