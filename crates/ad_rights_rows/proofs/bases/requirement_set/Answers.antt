use Rattle.std.proofs.Common.{◌≡◌, true, false, map, take}
use Rattle.ad_ids.specs.declared.token.Token.{Token}
use Rattle.ad_questions.specs.Requirements.{alternative_seen}
use Rattle.ad_sets.specs.Sets.{sets_of}
use Rattle.ad_rights_rows.specs.Rows.{is_met_apart}
use Rattle.ad_rights_rows.proofs.Sets.{met_more}
use Rattle.ad_rights_rows.proofs.bases.requirement_set.Goals as goal

pub join_one-requires-clause-judged : goal.join_one-requires-clause-judged
join_one-requires-clause-judged c = c.loop-alternative.invariant.judged

pub join_one-requires-clause-place : goal.join_one-requires-clause-place
join_one-requires-clause-place c =
    let l = c.loop-alternative in (
      (λ (t : Token). is_met_apart c.args.dir.now t (map alternative_seen (take l.alternative-index c.args.requirement.now))),
      l.invariant.place,
    )

pub loop-alternative-preserved : goal.loop-alternative-preserved
loop-alternative-preserved c =
    let l = c.loop-alternative in
    record {
      judged = c.in_ok-next.ensures.judged;
      kept = λ place set at. c.in_ok-next.ensures.kept place set (l.invariant.kept place set at);
      place = met_more c.args.dir.now (sets_of c.join_one.new.judged.sets) c.args.tokens.now.all.items
          c.args.requirement.now l.alternative-index _ c.in_ok-next.next c.loop-alternative-test.true
          (c.in_ok-next.ensures.joined
          (λ (t : Token). is_met_apart c.args.dir.now t (map alternative_seen (take l.alternative-index
          c.args.requirement.now))) l.invariant.place);
    }
