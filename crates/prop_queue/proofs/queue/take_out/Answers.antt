use Rattle.std.proofs.Common.{◌≡◌, ◌<◌, Option, deque_len, subst, ◌∙◌, arith}
use Rattle.std.specs.Prelude.{OnSome}
use Rattle.std.specs.List.{remove}
use Rattle.prop_queue.specs.declared.pending.Pending.{Pending}
use Rattle.prop_queue.specs.Pending.{from_the_start}
use Rattle.prop_queue.proofs.Standing.{stands_within, remove-without}
use Rattle.prop_queue.proofs.queue.take_out.Goals as goal

pub returns : goal.returns
returns c = λ parent stands distinct.
    let within : c.args.place < deque_len c.args.entries.now
    = omega (arith, c.args.entries.now.ok.0, stands_within parent c.args.place c.args.entries.now.items stands) in
    let there = c.remove-entry.ensures.succeeds (from_the_start 0) within in
    let taken = subst (λ (r : Option Pending). OnSome r
    (c.remove-entry.new.self.items ≡ remove c.args.entries.now.items c.args.place)) there
    c.remove-entry.ensures.items in
    taken ∙ remove-without parent c.args.place c.args.entries.now.items stands distinct
