use Rattle.ad_needs.proofs.AddLaws.{audits_not}
use Rattle.ad_needs.proofs.adding.unless_audits.Goals as goal

pub returns-else-sacl-clause-refusal : goal.returns-else-sacl-clause-refusal
returns-else-sacl-clause-refusal c =
    audits_not c.args.dir.now c.args.token.now c.args.parent c.args.sacl c.if-sacl.false
