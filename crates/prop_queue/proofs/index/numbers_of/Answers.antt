use Rattle.std.proofs.Common.{◌≡◌, ℕ, ◌+◌, ◌<◌, List, [], ◌∷◌, ◌++◌, length, take, sym, subst, ap, ◌∙◌, arith}
use Rattle.std.proofs.lemmas.List.{take_more}
use Rattle.prop_queue.specs.declared.pending.Pending.{Pending}
use Rattle.prop_queue.specs.Numbers.{AreKnown}
use Rattle.prop_queue.proofs.Known.{known-push}
use Rattle.prop_queue.proofs.index.numbers_of.Goals as goal

pub loop-offset-preserved : goal.loop-offset-preserved
loop-offset-preserved c =
    let items : List Pending = c.args.entries.now.items in
    let offset : ℕ = c.loop-offset.offset in
    let entry : Pending = c.index.result.now in
    let updates = c.in_ok-insert.ensures.updates in
    let within : c.loop-offset.offset < length c.args.entries.now.items = omega (arith, c.len-offset-end.ensures) in
    let more : take c.loop-offset.offset c.args.entries.now.items ++ c.index.result.now ∷ []
    ≡ take (c.loop-offset.offset + 1) c.args.entries.now.items
    = ap (λ (e : Pending). take c.loop-offset.offset c.args.entries.now.items ++ e ∷ []) c.index.ensures
    ∙ sym (take_more c.args.entries.now.items c.loop-offset.offset c.index.result.now within) in
    subst (AreKnown c.insert.new.self) more
    (known-push c.loop-offset.numbers c.insert.new.self offset (take offset items) entry updates.2 updates.1
    c.loop-offset.invariant)
