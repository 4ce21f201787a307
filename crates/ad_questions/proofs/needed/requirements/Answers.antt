use Rattle.std.proofs.Common.{List, sym, subst}
use Rattle.ad_dir.proofs.NameLaws.{if_ok}
use Rattle.ad_needs_rules.specs.Needs.{Alternative}
use Rattle.ad_questions.specs.Requirements.{AreJudged}
use Rattle.ad_questions.proofs.JudgedLaws.{judged}
use Rattle.ad_questions.proofs.needed.requirements.Goals as goal

pub returns-clause-judged : goal.returns-clause-judged
returns-clause-judged c =
    let dir = c.args.dir.now in
    if_ok c.collected.result
    (λ found is. subst (λ (all : List (List Alternative)). AreJudged dir all) (sym is)
    (judged dir c.args.question c.args.number c.invariants.ensures c.requires.live c.requires.known))
    c.collected.ensures
