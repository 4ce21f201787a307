use Rattle.std.proofs.Common.{◌≡◌, ◌++◌, ◌∷◌, [], ◌+◌, List, ℕ, take, sym, ◌∙◌, ap, subst, arith}
use Rattle.std.proofs.lemmas.List.{take_all}
use Rattle.site_io.specs.declared.call.Call.{Call}
use Rattle.site_io.specs.Calls.{held_by, held_after, MayLeave}
use Rattle.site_io.specs.TornBy.{TornBy}
use Rattle.site_io.proofs.Crashing.{Crashing, crashing_more, crashed}
use Rattle.site_io.proofs.Moments.{held_push, may_more, one_more}
use Rattle.site_io.proofs.crash.image_of.Goals as goal

pub loop-call-preserved : goal.loop-call-preserved
loop-call-preserved c =
    let slot = c.args.slot in
    let first = c.args.first.now in
    let call = c.call-item.result in
    let so_far = take c.loop-call.call-index c.args.calls.now in
    let longer : so_far ++ call ∷ [] ≡ take (c.loop-call.call-index + 1) c.args.calls.now = one_more c.args.calls.now
    c.loop-call.call-index call c.loop-call-test.true c.call-item.is in
    let torn = subst (λ (h : List ℕ). TornBy slot h call c.loop-call.image.items c.redo.new.image.items)
    c.loop-call.invariant.held c.in_ok-redo.ensures.torn in
    record {
      held = c.in_ok-redo.ensures.held ∙ ap (λ (h : List ℕ). held_after slot h call) c.loop-call.invariant.held
          ∙ sym (held_push slot first so_far call) ∙ ap (held_by slot first) longer;
      exact = subst (λ (cs : List Call). Crashing slot first cs c.args.kept c.redo.new.image.items c.redo.new.left)
          longer
          (crashing_more slot first so_far c.args.kept call c.loop-call.held.items c.loop-call.image.items
          c.redo.new.image.items c.loop-call.left c.redo.new.left c.loop-call.invariant.exact
          c.loop-call.invariant.held c.in_ok-redo.ensures.exact);
      may = subst (λ (cs : List Call). MayLeave slot first (λ old. old ≡ first) cs c.redo.new.image.items) longer
          (may_more slot first (λ old. old ≡ first) so_far call c.loop-call.image.items c.redo.new.image.items
          c.loop-call.invariant.may torn);
    }

pub returns-clause-exact : goal.returns-clause-exact
returns-clause-exact c =
    let all : take c.loop-call.call-index c.args.calls.now ≡ c.args.calls.now = take_all c.loop-call.call-index
    c.args.calls.now (omega (arith, c.loop-call-test.false)) in
    crashed c.args.slot c.args.first.now c.args.calls.now c.args.kept c.loop-call.image.items c.loop-call.left
    (subst (λ (cs : List Call). Crashing c.args.slot c.args.first.now cs c.args.kept c.loop-call.image.items
    c.loop-call.left) all c.loop-call.invariant.exact)
