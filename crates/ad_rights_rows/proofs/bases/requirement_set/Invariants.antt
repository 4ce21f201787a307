use Rattle.std.proofs.Common.{◌≡◌, take, map}
use Rattle.ad_questions.specs.Requirements.{alternative_seen}
use Rattle.ad_rights_judged.specs.Judged.{AreJudged}
use Rattle.ad_sets.specs.Sets.{sets_of, Keeps}
use Rattle.ad_rights_rows.specs.Rows.{is_met_apart}
use Rattle.ad_rights_rows.specs.Kept.{IsSetOf}
use Rattle.ad_rights_rows.proofs.bases.requirement_set.Given as goal

-- what those so far give
abbrev pub invariant-loop-alternative : goal.invariant-loop-alternative
invariant-loop-alternative l = record {
  judged : AreJudged l.dir l.tokens.all.items l.judged;
  kept : Keeps (sets_of l.fn.judged.sets) (sets_of l.judged.sets);
  place : IsSetOf (sets_of l.judged.sets) l.tokens.all.items
      (λ token. is_met_apart l.dir token (map alternative_seen (take l.alternative-index l.requirement))) l.place;
}
