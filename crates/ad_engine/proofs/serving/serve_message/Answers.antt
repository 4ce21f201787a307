use Rattle.std.proofs.Common.{◌∙◌, ℕ, Bool, List, Option, refl, ap}
use Rattle.std.specs.Prelude.{if◌then◌else◌, unwrap_or}
use Rattle.std.proofs.lemmas.Result.{err_from_is_err_and}
use Rattle.ad_ids.specs.declared.token.Token.{Token}
use Rattle.ad_engine_answer.specs.Messages.{message_decided}
use Rattle.ad_engine_answer.specs.Output.{output_frame}
use Rattle.ad_engine_store.specs.Tokens.{without_token}
use Rattle.ad_engine_store.specs.Stepping.{made_by}
use Rattle.ad_engine.proofs.Answering.{failed_before, failed_part, kept_part, bound_kept, same_edits, may_keep}
use Rattle.ad_engine.proofs.Answering.{makes_change, changes_none}
use Rattle.ad_engine.proofs.serving.serve_message.Goals as goal

pub returns-in_err-decided-clause-serves : goal.returns-in_err-decided-clause-serves
returns-in_err-decided-clause-serves g c =
    let p = err_from_is_err_and c.from_residual.result c.from_residual.ensures.1 in
    failed_before g.S.Site _ _ c.args.engine.now _ c.args.site.now c.from_residual.result p.0
    (λ t images out left. g.met.S.Site.left_until c.args.site.now t images out left) refl p.1 p.2

pub returns-in_err-output-clause-serves : goal.returns-in_err-output-clause-serves
returns-in_err-output-clause-serves g c =
    let p = err_from_is_err_and c.from_residual-in_err-output.result c.from_residual-in_err-output.ensures.1 in
    failed_before g.S.Site _ _ c.args.engine.now _ c.args.site.now c.from_residual-in_err-output.result p.0
    (λ t images out left. g.met.S.Site.left_until c.args.site.now t images out left) refl p.1 p.2

pub commit-requires-clause-edits : goal.commit-requires-clause-edits
commit-requires-clause-edits g c =
    may_keep c.args.engine.now.dir (message_decided c.args.engine.now.dir c.token-token.result.now
    c.args.bytes.now).change c.edits_of.result c.requires.sound
    (same_edits c.args.engine.now.dir (message_decided c.args.engine.now.dir c.token-token.result.now
    c.args.bytes.now).change c.in_ok-decided.decided.edits c.edits_of.result c.edits_of.ensures
    c.in_ok-decided.ensures.edits)

pub returns-in_err-commit-clause-serves : goal.returns-in_err-commit-clause-serves
returns-in_err-commit-clause-serves g c =
    let dir = c.args.engine.now.dir in
    let change = (message_decided dir c.token-token.result.now c.args.bytes.now).change in
    let p = err_from_is_err_and c.from_residual-in_err-commit.result c.from_residual-in_err-commit.ensures.1 in
    let part = c.in_err-commit.ensures in
    failed_part g.S.Site (made_by c.edits_of.result dir) _ _ c.args.engine.now _ c.args.site.now c.commit.new.site
    c.in_err-commit.field-0.0 p.0
    c.from_residual-in_err-commit.result part.any_moment
    (makes_change dir change c.edits_of.result
    (same_edits c.args.engine.now.dir (message_decided c.args.engine.now.dir c.token-token.result.now
    c.args.bytes.now).change c.in_ok-decided.decided.edits c.edits_of.result c.edits_of.ensures
    c.in_ok-decided.ensures.edits)
    ∙ ap (λ (t : Token). unwrap_or (message_decided dir t c.args.bytes.now).change dir) c.token-token.ensures)
    (λ none. part.untouched (changes_none dir change c.edits_of.result
    (same_edits c.args.engine.now.dir (message_decided c.args.engine.now.dir c.token-token.result.now
    c.args.bytes.now).change c.in_ok-decided.decided.edits c.edits_of.result c.edits_of.ensures
    c.in_ok-decided.ensures.edits)
    (ap (λ (t : Token). unwrap_or (message_decided dir t c.args.bytes.now).change dir) c.token-token.ensures ∙ none)))
    part.unspent part.faults part.outside part.cause p.1 p.2

pub returns-clause-output : goal.returns-clause-output
returns-clause-output g c =
    let dir = c.args.engine.now.dir in
    c.in_ok-output.ensures
    ∙ ap (λ (b : List ℕ). output_frame 0x82 c.args.connection b)
    (c.as_slice.ensures ∙ c.in_ok-decided.ensures.reply
    ∙ ap (λ (t : Token). (message_decided dir t c.args.bytes.now).reply) c.token-token.ensures)

pub returns-clause-serves : goal.returns-clause-serves
returns-clause-serves g c =
    let dir = c.args.engine.now.dir in
    let change = (message_decided dir c.token-token.result.now c.args.bytes.now).change in
    let part = c.in_ok-commit.ensures in
    kept_part g.S.Site (made_by c.edits_of.result dir) _ _ c.args.engine.now c.commit.new.self _ c.args.site.now
    c.commit.new.site _ part.directory
    (makes_change dir change c.edits_of.result
    (same_edits c.args.engine.now.dir (message_decided c.args.engine.now.dir c.token-token.result.now
    c.args.bytes.now).change c.in_ok-decided.decided.edits c.edits_of.result c.edits_of.ensures
    c.in_ok-decided.ensures.edits)
    ∙ ap (λ (t : Token). unwrap_or (message_decided dir t c.args.bytes.now).change dir) c.token-token.ensures)
    part.stands part.every_crash part.any_moment
    (λ none. part.untouched (changes_none dir change c.edits_of.result
    (same_edits c.args.engine.now.dir (message_decided c.args.engine.now.dir c.token-token.result.now
    c.args.bytes.now).change c.in_ok-decided.decided.edits c.edits_of.result c.edits_of.ensures
    c.in_ok-decided.ensures.edits)
    (ap (λ (t : Token). unwrap_or (message_decided dir t c.args.bytes.now).change dir) c.token-token.ensures ∙ none)))
    part.unspent part.outside refl refl refl
    (c.clear_if.ensures
    ∙ ap (λ (ts : List (Option Token)). if c.in_ok-decided.decided.drops then without_token c.args.connection ts
    else ts) part.tokens
    ∙ ap (λ (b : Bool). if b then without_token c.args.connection c.args.engine.now.tokens else c.args.engine.now.tokens)
    (c.in_ok-decided.ensures.drops ∙ ap (λ (t : Token). (message_decided dir t c.args.bytes.now).drops)
    c.token-token.ensures))
    (bound_kept c.edits_of.result dir _ _
    (makes_change dir change c.edits_of.result
    (same_edits c.args.engine.now.dir (message_decided c.args.engine.now.dir c.token-token.result.now
    c.args.bytes.now).change c.in_ok-decided.decided.edits c.edits_of.result c.edits_of.ensures
    c.in_ok-decided.ensures.edits)
    ∙ ap (λ (t : Token). unwrap_or (message_decided dir t c.args.bytes.now).change dir) c.token-token.ensures)
    part.bound)
