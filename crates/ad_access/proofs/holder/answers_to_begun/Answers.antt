use Rattle.std.proofs.Common.{◌∙◌}
use Rattle.ad_ids.proofs.SidBegun.{one_begun}
use Rattle.ad_access.specs.Rank.{holder_of}
use Rattle.ad_access.proofs.holder.answers_to_begun.Goals as goal

pub returns-in-Allow : goal.returns-in-Allow
returns-in-Allow c = λ sid rest e.
    rw c.in-Allow.is (c.holds_begun.ensures ∙ one_begun c.args.bytes.now (holder_of c.args.token.now c.args.rank).held
    sid rest e)

pub returns-in-Deny : goal.returns-in-Deny
returns-in-Deny c = λ sid rest e.
    rw c.in-Deny.is (c.denies_by_begun.ensures ∙ one_begun c.args.bytes.now
    (holder_of c.args.token.now c.args.rank).denied_by sid rest e)

pub returns-in-Audit : goal.returns-in-Audit
returns-in-Audit c = λ sid rest e.
    rw c.in-Audit.is (c.denies_by_begun-in-Audit.ensures ∙ one_begun c.args.bytes.now
    (holder_of c.args.token.now c.args.rank).denied_by sid rest e)
