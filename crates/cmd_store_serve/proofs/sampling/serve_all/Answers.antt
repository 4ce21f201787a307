use Rattle.std.proofs.Common.{ℕ, List, [], ◌∷◌, ◌++◌, take, sym, subst}
use Rattle.ad_frames.specs.declared.frame.Frame.{Frame}
use Rattle.cmd_call.proofs.Moments.{IsLawful}
use Rattle.cmd_store_serve.proofs.Served.{SoFar, none_yet, one_more, take_more}
use Rattle.cmd_store_serve.proofs.sampling.serve_all.Goals as goal

pub loop-frame-init : goal.loop-frame-init
loop-frame-init g c =
    let law : IsLawful g.S.Site = record { output = g.met.S.Site.left_output; until = g.met.S.Site.left_until } in
    subst (λ (l : List (List ℕ)). SoFar g.S.Site c.args.engine.now c.args.engine.now [] l c.args.site.now
    c.args.site.now) (sym c.new-answers.ensures.items)
    (none_yet g.S.Site law c.args.engine.now c.args.site.now c.requires.stands c.requires.unspent c.requires.tokens)

pub loop-frame-preserved : goal.loop-frame-preserved
loop-frame-preserved g c =
    let i = c.loop-frame.frame-index in
    let frames = c.args.frames.now in
    let first = c.args.engine.now in
    let behind = c.serve_one.new.engine in
    let more = one_more g.S.Site first c.loop-frame.engine behind (take i frames) c.loop-frame.answers.items
    c.frame-item.result c.in_ok-output.output
    c.args.site.now c.loop-frame.site c.serve_one.new.site c.loop-frame.invariant c.in_ok-output.ensures.served
    c.in_ok-output.ensures.outside in
    subst (λ (fs : List Frame). SoFar g.S.Site first behind fs c.push.new.answers.items c.args.site.now
    c.serve_one.new.site)
    (sym (take_more frames i c.frame-item.result c.loop-frame-test.true (sym c.frame-item.is)))
    (subst (λ (l : List (List ℕ)). SoFar g.S.Site first behind (take i frames ++ c.frame-item.result ∷ []) l
    c.args.site.now c.serve_one.new.site)
    (sym c.in_ok-push.ensures) more)
