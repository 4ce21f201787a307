use Rattle.std.proofs.Common.{◌≡◌, IfOk, sym, subst}
use Rattle.ad_ldap.specs.declared.requests.Op.{Op}
use Rattle.ad_ldap.specs.MessageValue.{op_seen}
use Rattle.ad_needs_rules.specs.declared.outcome.Verdict.{Verdict}
use Rattle.ad_needs_rules.specs.Verdicts.{verdict_of}
use Rattle.ad_needs.proofs.judging.verdict.Goals as goal

pub returns-in-Rename : goal.returns-in-Rename
returns-in-Rename c = subst (λ (op : Op). IfOk c.rename_verdict.result (λ (v : Verdict). v
    ≡ verdict_of c.args.dir.now c.args.token.now (op_seen op) c.args.settings.now)) (sym c.in-Rename.is)
    (c.rename_verdict.ensures c.args.settings.now)
