use Rattle.std.proofs.Common.{◌≡◌, ◌∙◌, ℕ, List, refl, sym, ap, subst}
use Rattle.std.specs.Prelude.{IfOk}
use Rattle.std.proofs.lemmas.Result.{err_from_is_err_and}
use Rattle.ad_frames.specs.declared.frame.FrameBody.{FrameBody}
use Rattle.ad_engine.specs.Answer.{Answered, message_answered, body_answered}
use Rattle.ad_engine.proofs.Answering.{failed_before, kept_still, served_as}
use Rattle.ad_engine.proofs.serving.serve_body.Goals as goal

pub returns-in_err-serve_token-in-Token-clause-serves : goal.returns-in_err-serve_token-in-Token-clause-serves
returns-in_err-serve_token-in-Token-clause-serves g c =
    let p = err_from_is_err_and c.from_residual.result c.from_residual.ensures.1 in
    failed_before g.S.Site _ _ c.args.engine.now _ c.args.site.now c.from_residual.result p.0
    (λ t images out left. g.met.S.Site.left_until c.args.site.now t images out left) c.serve_token.ensures.unspent p.1
    p.2

pub returns-in_ok-serve_token-in-Token-clause-output : goal.returns-in_ok-serve_token-in-Token-clause-output
returns-in_ok-serve_token-in-Token-clause-output g c =
    c.in_ok-serve_token-in-Token.ensures.output
    ∙ ap (λ (b : FrameBody). (body_answered c.args.engine.now.dir c.args.engine.now.tokens c.args.connection b).output)
    (sym c.in-Token.is)

pub returns-in_ok-serve_token-in-Token-clause-serves : goal.returns-in_ok-serve_token-in-Token-clause-serves
returns-in_ok-serve_token-in-Token-clause-serves g c =
    let self = c.args.engine.now in
    let made = c.in_ok-serve_token-in-Token.ensures in
    served_as g.S.Site _ _ c.args.engine.now c.serve_token.new.engine c.args.site.now c.args.site.now _
    (ap (λ (b : FrameBody). body_answered self.dir self.tokens c.args.connection b) (sym c.in-Token.is))
    (kept_still g.S.Site _ _ c.args.engine.now c.serve_token.new.engine c.args.site.now _
    (λ t images out left. g.met.S.Site.left_until c.args.site.now t images out left) c.requires refl made.dir
    made.store made.unspent made.tokens)

pub returns-in-Message-clause-output : goal.returns-in-Message-clause-output
returns-in-Message-clause-output g c =
    let dir = c.args.engine.now.dir in
    let tokens = c.args.engine.now.tokens in
    subst (λ (a : Answered). IfOk c.serve_message.result (λ o. o.items ≡ a.output))
    (ap (λ (bytes : List ℕ). message_answered dir tokens c.args.connection bytes) c.as_slice.ensures
    ∙ ap (λ (b : FrameBody). body_answered dir tokens c.args.connection b) (sym c.in-Message.is))
    c.serve_message.ensures.output

pub returns-in-Message-clause-serves : goal.returns-in-Message-clause-serves
returns-in-Message-clause-serves g c =
    let dir = c.args.engine.now.dir in
    let tokens = c.args.engine.now.tokens in
    served_as g.S.Site _ _ c.args.engine.now c.serve_message.new.engine c.args.site.now c.serve_message.new.site
    c.serve_message.result
    (ap (λ (bytes : List ℕ). message_answered dir tokens c.args.connection bytes) c.as_slice.ensures
    ∙ ap (λ (b : FrameBody). body_answered dir tokens c.args.connection b) (sym c.in-Message.is))
    c.serve_message.ensures.serves

pub returns-in-Steps-clause-output : goal.returns-in-Steps-clause-output
returns-in-Steps-clause-output g c =
    let dir = c.args.engine.now.dir in
    let tokens = c.args.engine.now.tokens in
    subst (λ (a : Answered). IfOk c.serve_steps.result (λ o. o.items ≡ a.output))
    (ap (λ (b : FrameBody). body_answered dir tokens c.args.connection b) (sym c.in-Steps.is))
    c.serve_steps.ensures.output

pub returns-in-Steps-clause-serves : goal.returns-in-Steps-clause-serves
returns-in-Steps-clause-serves g c =
    let dir = c.args.engine.now.dir in
    let tokens = c.args.engine.now.tokens in
    served_as g.S.Site _ _ c.args.engine.now c.serve_steps.new.engine c.args.site.now c.serve_steps.new.site
    c.serve_steps.result
    (ap (λ (b : FrameBody). body_answered dir tokens c.args.connection b) (sym c.in-Steps.is))
    c.serve_steps.ensures.serves

pub returns-in-Run-clause-output : goal.returns-in-Run-clause-output
returns-in-Run-clause-output g c =
    let dir = c.args.engine.now.dir in
    let tokens = c.args.engine.now.tokens in
    subst (λ (a : Answered). IfOk c.serve_run.result (λ o. o.items ≡ a.output))
    (ap (λ (b : FrameBody). body_answered dir tokens c.args.connection b) (sym c.in-Run.is))
    c.serve_run.ensures.output

pub returns-in-Run-clause-serves : goal.returns-in-Run-clause-serves
returns-in-Run-clause-serves g c =
    let dir = c.args.engine.now.dir in
    let tokens = c.args.engine.now.tokens in
    served_as g.S.Site _ _ c.args.engine.now c.serve_run.new.engine c.args.site.now c.serve_run.new.site c.serve_run.result
    (ap (λ (b : FrameBody). body_answered dir tokens c.args.connection b) (sym c.in-Run.is))
    c.serve_run.ensures.serves
