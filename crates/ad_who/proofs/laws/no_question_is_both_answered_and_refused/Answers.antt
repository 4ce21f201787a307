use Rattle.ad_who.proofs.Refusals.{token_either, who_either, can_either}
use Rattle.ad_who.proofs.laws.no_question_is_both_answered_and_refused.Goals as goal

pub returns : goal.returns
returns c = record {
  token = λ dir name sids answer line is none. token_either dir name sids answer none.0 is none.1 none.2;
  who = λ dir right name answer line is none. who_either dir right name answer none.0 is none.1 none.2;
  can = λ dir name right base answer line is none. can_either dir name right base answer none.0 is none.1 none.2;
}
