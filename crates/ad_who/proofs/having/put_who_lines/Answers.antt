use Rattle.std.proofs.Common.{List, drop}
use Rattle.std.proofs.lemmas.List.{at_drop_all}
use Rattle.ad_identities.specs.declared.identity.Identity.{Identity}
use Rattle.ad_questions.specs.Requirements.{requirements_seen}
use Rattle.ad_who.proofs.WhoLines.{one_more, all_told}
use Rattle.ad_who.proofs.having.put_who_lines.Goals as goal

pub loop-identity-preserved : goal.loop-identity-preserved
loop-identity-preserved c =
    one_more c.args.dir.now c.args.number (requirements_seen c.args.needed.now) c.args.identities.now
    c.loop-identity.identity-index c.identity-item.result c.args.into.now.items c.loop-identity.into.items
    c.put_who_line.new.into.items
    c.loop-identity-test.true c.identity-item.is c.in_ok-put_who_line.ensures c.loop-identity.invariant

pub returns : goal.returns
returns c =
    let all = c.args.identities.now in
    let i = c.loop-identity.identity-index in
    all_told c.args.dir.now c.args.number (requirements_seen c.args.needed.now) all (drop i all)
    c.args.into.now.items c.loop-identity.into.items
    (at_drop_all (λ (l : List Identity). l) all i c.loop-identity-test.false) c.loop-identity.invariant
