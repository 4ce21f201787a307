use Rattle.std.proofs.Common.{◌+◌, Bool, drop, sym, ap, ◌∙◌}
use Rattle.ad_load_objects.specs.Above.{behind}
use Rattle.ad_load_objects.proofs.Behind.{ends_here, goes_on, none_behind}
use Rattle.ad_load_objects.proofs.above.behind_first.Goals as goal

pub returns-then-is_end : goal.returns-then-is_end
returns-then-is_end c =
    c.after.ensures
    ∙ sym (ends_here c.args.key.now c.loop-place.place c.loop-place.marked c.loop-place-test.true
    (sym c.is_end.ensures ∙ c.if-is_end.true))
    ∙ c.loop-place.invariant

pub loop-place-preserved : goal.loop-place-preserved
loop-place-preserved c =
    ap (λ (m : Bool). behind m (drop (c.loop-place.place + 1) c.args.key.now)) c.is_mark-marked.ensures
    ∙ sym (goes_on c.args.key.now c.loop-place.place c.loop-place.marked c.loop-place-test.true
    (sym c.is_end.ensures ∙ c.if-is_end.false))
    ∙ c.loop-place.invariant

pub returns : goal.returns
returns c = sym (none_behind c.args.key.now c.loop-place.place c.loop-place.marked c.loop-place-test.false)
    ∙ c.loop-place.invariant
