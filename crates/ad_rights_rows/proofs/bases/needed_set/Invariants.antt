use Rattle.std.proofs.Common.{◌≡◌, take}
use Rattle.ad_questions.specs.Requirements.{requirements_seen}
use Rattle.ad_rights_judged.specs.Judged.{AreJudged}
use Rattle.ad_sets.specs.Sets.{sets_of, Keeps}
use Rattle.ad_rights_rows.specs.Rows.{are_met_apart}
use Rattle.ad_rights_rows.specs.Kept.{IsSetOf}
use Rattle.ad_rights_rows.proofs.bases.needed_set.Given as goal

-- what those so far leave
abbrev pub invariant-loop-requirement : goal.invariant-loop-requirement
invariant-loop-requirement l = record {
  judged : AreJudged l.dir l.tokens.all.items l.judged;
  kept : Keeps (sets_of l.fn.judged.sets) (sets_of l.judged.sets);
  place : IsSetOf (sets_of l.judged.sets) l.tokens.all.items
      (λ token. are_met_apart l.dir token (requirements_seen (take l.requirement-index l.needed))) l.place;
}
