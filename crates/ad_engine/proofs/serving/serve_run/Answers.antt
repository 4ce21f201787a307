use Rattle.std.proofs.Common.{◌∙◌, ℕ, List, refl, ap}
use Rattle.std.proofs.lemmas.Result.{err_from_is_err_and}
use Rattle.ad_engine_answer.specs.Output.{output_frame}
use Rattle.ad_engine_store.specs.Stepping.{made_by}
use Rattle.ad_engine.proofs.Answering.{failed_before, failed_part, kept_part, bound_kept, run_edits_are, may_run}
use Rattle.ad_engine.proofs.Answering.{run_changes_none}
use Rattle.ad_engine.proofs.serving.serve_run.Goals as goal

pub returns-in_err-decided-clause-serves : goal.returns-in_err-decided-clause-serves
returns-in_err-decided-clause-serves g c =
    let p = err_from_is_err_and c.from_residual.result c.from_residual.ensures.1 in
    failed_before g.S.Site _ _ c.args.engine.now _ c.args.site.now c.from_residual.result p.0
    (λ t images out left. g.met.S.Site.left_until c.args.site.now t images out left) refl p.1 p.2

pub returns-in_err-output-clause-serves : goal.returns-in_err-output-clause-serves
returns-in_err-output-clause-serves g c =
    let p = err_from_is_err_and c.from_residual-in_err-output.result c.from_residual-in_err-output.ensures.1 in
    failed_before g.S.Site _ _ c.args.engine.now _ c.args.site.now c.from_residual-in_err-output.result p.0
    (λ t images out left. g.met.S.Site.left_until c.args.site.now t images out left) refl p.1 p.2

pub commit-requires-clause-edits : goal.commit-requires-clause-edits
commit-requires-clause-edits g c = may_run c.args.engine.now.dir _ c.edits_of.result
    (run_edits_are c.args.engine.now.dir c.in_ok-decided.decided c.edits_of.result c.edits_of.ensures
    c.in_ok-decided.ensures)

pub returns-in_err-commit-clause-serves : goal.returns-in_err-commit-clause-serves
returns-in_err-commit-clause-serves g c =
    let dir = c.args.engine.now.dir in
    let p = err_from_is_err_and c.from_residual-in_err-commit.result c.from_residual-in_err-commit.ensures.1 in
    let part = c.in_err-commit.ensures in
    failed_part g.S.Site (made_by c.edits_of.result dir) _ _ c.args.engine.now _ c.args.site.now c.commit.new.site
    c.in_err-commit.field-0.0 p.0
    c.from_residual-in_err-commit.result part.any_moment
    (run_edits_are dir c.in_ok-decided.decided c.edits_of.result c.edits_of.ensures c.in_ok-decided.ensures).make
    (λ none. part.untouched (run_changes_none dir c.in_ok-decided.decided c.edits_of.result c.edits_of.ensures
    c.in_ok-decided.ensures none))
    part.unspent part.faults part.outside part.cause p.1 p.2

pub returns-clause-output : goal.returns-clause-output
returns-clause-output g c =
    c.in_ok-output.ensures ∙ ap (λ (b : List ℕ). output_frame 0x84 c.args.connection b)
    (c.as_slice.ensures ∙ c.in_ok-decided.ensures.reply)

pub returns-clause-serves : goal.returns-clause-serves
returns-clause-serves g c =
    let dir = c.args.engine.now.dir in
    let part = c.in_ok-commit.ensures in
    kept_part g.S.Site (made_by c.edits_of.result dir) _ _ c.args.engine.now c.commit.new.self _ c.args.site.now
    c.commit.new.site _ part.directory
    (run_edits_are dir c.in_ok-decided.decided c.edits_of.result c.edits_of.ensures c.in_ok-decided.ensures).make
    part.stands part.every_crash part.any_moment
    (λ none. part.untouched (run_changes_none dir c.in_ok-decided.decided c.edits_of.result c.edits_of.ensures
    c.in_ok-decided.ensures none))
    part.unspent part.outside refl refl refl part.tokens
    (bound_kept c.edits_of.result dir _ _
    (run_edits_are dir c.in_ok-decided.decided c.edits_of.result c.edits_of.ensures c.in_ok-decided.ensures).make
    part.bound)
