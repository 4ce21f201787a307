use Rattle.std.proofs.Common.{List, ℕ, Some, ap, ◌++◌, ◌∙◌}
use Rattle.ad_questions.specs.Requirements.{requirements_seen}
use Rattle.ad_who.specs.Lines.{reason_text, identity_text}
use Rattle.ad_bytes.specs.Puts.{spaced}
use Rattle.ad_who.proofs.Putting.{where_ok, two_put, no_line, line_is}
use Rattle.ad_who.proofs.having.put_token_line.Goals as goal

pub returns-in-None : goal.returns-in-None
returns-in-None c =
    no_line c.args.into.now.items c.args.dir.now c.args.token.now c.args.number (requirements_seen c.args.needed.now)
    (identity_text c.args.dir.now c.args.identity.now) c.in-None.ensures

pub returns : goal.returns
returns c =
    let rest = identity_text c.args.dir.now c.args.identity.now in
    where_ok c.put_identity.result
    (λ last. two_put c.args.into.now.items c.put_reason.new.into.items c.put_identity.new.into.items
    (spaced (reason_text c.in-Some.reason)) rest c.in_ok-put_reason.ensures last
    ∙ ap (λ (line : List ℕ). c.args.into.now.items ++ line)
    (line_is c.args.dir.now c.args.token.now c.args.number (requirements_seen c.args.needed.now) rest
    (Some c.in-Some.reason) c.in-Some.ensures))
    c.put_identity.ensures
