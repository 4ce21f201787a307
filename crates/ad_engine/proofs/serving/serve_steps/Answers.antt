use Rattle.std.proofs.Common.{◌∙◌, ℕ, List, length, refl, sym, ap}
use Rattle.std.proofs.lemmas.Result.{err_from_is_err_and}
use Rattle.ad_dir_model.specs.Directory.{Directory}
use Rattle.ad_dir_model.specs.Steps.{steps}
use Rattle.ad_engine_store.specs.Settling.{steps_made}
use Rattle.ad_engine_answer.specs.Output.{output_frame, counts}
use Rattle.ad_engine_store.specs.declared.engine_fault.EngineFault.TheVariants.{Memory}
use Rattle.ad_engine.proofs.Answering.{failed_part, kept_part, bound_steps, lasts_steps}
use Rattle.ad_engine_store.proofs.Made.{none_made_of}
use Rattle.ad_engine.proofs.serving.serve_steps.Goals as goal

pub returns-in_err-made-clause-serves : goal.returns-in_err-made-clause-serves
returns-in_err-made-clause-serves g c =
    let dir = c.args.engine.now.dir in
    let p = err_from_is_err_and c.from_residual.result c.from_residual.ensures.1 in
    let part = c.in_err-made.ensures in
    failed_part g.S.Site (steps c.args.n dir) _ _ c.args.engine.now _ c.args.site.now c.settle_some.new.site
    c.in_err-made.field-0.0 p.0
    c.from_residual.result part.any_moment refl
    (λ none. part.untouched (none_made_of c.args.n dir c.requires.sound none))
    part.unspent part.faults part.outside part.cause p.1 p.2

pub returns-in_err-body-clause-serves : goal.returns-in_err-body-clause-serves
returns-in_err-body-clause-serves g c =
    let dir = c.args.engine.now.dir in
    let p = err_from_is_err_and c.from_residual-in_err-body.result c.from_residual-in_err-body.ensures.1 in
    let part = c.in_ok-made.ensures in
    failed_part {T = Unit {0}} g.S.Site (steps c.args.n dir) _ _ c.args.engine.now _ c.args.site.now
    c.settle_some.new.site Memory p.0
    c.from_residual-in_err-body.result part.any_moment refl
    (λ none. part.untouched (none_made_of c.args.n dir c.requires.sound none))
    part.unspent (λ no. absurd cc) part.outside (λ no. absurd cc) p.1 p.2

pub returns-in_err-output-clause-serves : goal.returns-in_err-output-clause-serves
returns-in_err-output-clause-serves g c =
    let dir = c.args.engine.now.dir in
    let p = err_from_is_err_and c.from_residual-in_err-output.result c.from_residual-in_err-output.ensures.1 in
    let part = c.in_ok-made.ensures in
    failed_part {T = Unit {0}} g.S.Site (steps c.args.n dir) _ _ c.args.engine.now _ c.args.site.now
    c.settle_some.new.site Memory p.0
    c.from_residual-in_err-output.result part.any_moment refl
    (λ none. part.untouched (none_made_of c.args.n dir c.requires.sound none))
    part.unspent (λ no. absurd cc) part.outside (λ no. absurd cc) p.1 p.2

pub returns-clause-output : goal.returns-clause-output
returns-clause-output g c =
    let dir = c.args.engine.now.dir in
    c.in_ok-output.ensures
    ∙ ap (λ (b : List ℕ). output_frame 0x83 c.args.connection b)
    (c.as_slice.ensures ∙ c.in_ok-body.ensures
    ∙ ap (λ (n : ℕ). counts n c.len.result) c.in_ok-made.ensures.made
    ∙ ap (λ (n : ℕ). counts (steps_made c.args.n dir) n)
    (c.len.ensures.len ∙ ap (λ (ps : _). length ps) c.queue.ensures ∙ ap (λ (d : Directory). length d.pending)
    c.in_ok-made.ensures.end))

pub returns-clause-serves : goal.returns-clause-serves
returns-clause-serves g c =
    let dir = c.args.engine.now.dir in
    let part = c.in_ok-made.ensures in
    kept_part g.S.Site (steps c.args.n dir) _ _ c.args.engine.now c.settle_some.new.self _ c.args.site.now
    c.settle_some.new.site _ part.end refl part.stands
    (lasts_steps g.S.Site c.in_ok-made.made dir c.settle_some.new.self.dir c.args.site.now c.settle_some.new.site
    part.steps.stepped
    (λ none. part.untouched (sym part.made ∙ none)) part.every_crash)
    part.any_moment
    (λ none. part.untouched (none_made_of c.args.n dir c.requires.sound none))
    part.unspent part.outside refl refl refl part.tokens
    (bound_steps c.in_ok-made.made dir c.settle_some.new.self.dir (steps c.args.n dir) _ part.steps.stepped part.end
    part.bound)
