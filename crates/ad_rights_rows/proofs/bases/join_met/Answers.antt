use Rattle.std.proofs.lemmas.Result.{on_ok_weaker, IfOk-weaker}
use Rattle.std.proofs.Common.{◌≡◌, true, false, map}
use Rattle.ad_ids.specs.declared.token.Token.{Token}
use Rattle.ad_questions.specs.Requirements.{alternative_seen}
use Rattle.ad_sets.specs.Sets.{sets_of}
use Rattle.ad_rights_rows.specs.Rows.{is_met_apart}
use Rattle.ad_rights_rows.proofs.Sets.{joined_set}
use Rattle.ad_rights_rows.proofs.bases.join_met.Goals as goal

pub returns-clause-judged : goal.returns-clause-judged
returns-clause-judged c =
    on_ok_weaker c.join.result (λ judged. judged c.args.dir.now c.args.tokens.now.all.items c.in_ok-one.ensures.judged)
    c.join.ensures.judged

pub returns-clause-joined : goal.returns-clause-joined
returns-clause-joined c =
    let tokens = c.args.tokens.now.all.items in
    IfOk-weaker c.join.result _ _ (λ joined made test was.
    joined_set true (sets_of c.requirement_set.new.judged.sets) (sets_of c.join.new.self.sets) tokens test
    (λ (t : Token). is_met_apart c.args.dir.now t (map alternative_seen c.args.requirement.now)) c.args.place
    c.in_ok-one.one joined (c.in_ok-one.ensures.kept c.args.place (map test tokens) was) c.in_ok-one.ensures.place made)
    c.join.ensures.place
