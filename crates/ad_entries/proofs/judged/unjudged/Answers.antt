use Rattle.std.proofs.Common.{inl, inr, sym, subst, ◌∙◌}
use Rattle.ad_ldap.specs.MessageValue.{search_seen}
use Rattle.ad_entries.specs.Places.{is_readable_at}
use Rattle.ad_entries.specs.Verdicts.{AreTrue}
use Rattle.ad_entries.proofs.JudgedLaws.{cases_verdict, none_judged, changing_alike}
use Rattle.ad_entries.proofs.judged.unjudged.Goals as goal

pub returns-clause-judged : goal.returns-clause-judged
returns-clause-judged c =
    let dir = c.args.asking.now.dir.now in
    let token = c.args.asking.now.token.now in record {
      live = c.requires.sample;
      knows = λ m of_m. subst (AreTrue (is_readable_at dir token m))
          (sym (c.in_ok-verdicts.ensures.items_if_clones_equal
          (λ y same. elim (cases_verdict y) [
            | inl none ↦ none
            | inr some ↦ absurd (rw some.1 at same)
          ])))
          (none_judged (is_readable_at dir token m) _);
      changing = λ m of_m. c.in_ok-changing.ensures ∙ changing_alike dir token
          (search_seen c.args.asking.now.search.now) c.args.kind c.args.number m c.requires.kind of_m;
    }
