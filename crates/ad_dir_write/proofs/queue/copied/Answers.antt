use Rattle.std.proofs.Common.{◌≡◌, ◌<◌, ◌++◌, [], ◌∷◌, List, length, take, take_all, get_or, sym, ap, subst, ◌∙◌, arith}
use Rattle.std.proofs.lemmas.List.{take_more}
use Rattle.std.proofs.lemmas.Option.{get_or_from_slice_get}
use Rattle.prop_queue.specs.declared.pending.Pending.{Pending}
use Rattle.prop_queue.specs.Pending.{AreDistinct}
use Rattle.ad_dir_write.proofs.queue.copied.Goals as goal

pub loop-i-preserved : goal.loop-i-preserved
loop-i-preserved c =
    let queue = c.args.queue.now in
    let i = c.loop-i.i in
    let lt : i < length queue = omega (arith, c.loop-i-test.true, c.len-len.ensures.len) in
    let entry : get_or queue i c.in-Some.entry ≡ c.in-Some.entry = get_or_from_slice_get queue i c.in-Some.entry
    c.in-Some.entry (sym c.in-Some.ensures) in
    c.in_ok-push-in-Some.ensures.items
    ∙ ap (λ (ps : List Pending). ps ++ c.in-Some.entry ∷ []) c.loop-i.invariant
    ∙ ap (λ (p : Pending). take i queue ++ p ∷ []) (sym entry)
    ∙ sym (take_more queue i c.in-Some.entry lt)

pub of-requires : goal.of-requires
of-requires c =
    let whole : take c.loop-i.i c.args.queue.now ≡ c.args.queue.now = take_all c.loop-i.i c.args.queue.now
    (omega (arith, c.loop-i-test.false, c.len-len.ensures.len)) in
    subst AreDistinct (sym (c.loop-i.invariant ∙ whole)) c.len-len.ensures.distinct
