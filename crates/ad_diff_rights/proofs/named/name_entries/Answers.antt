use Rattle.std.proofs.Common.{◌≡◌, ◌∙◌, true, sym, ap, subst}
use Rattle.std.specs.Prelude.{All}
use Rattle.std.proofs.lemmas.List.Elements.{All-cons, All-nil}
use Rattle.ad_ids.specs.SidValue.{SidValue, contains_sid}
use Rattle.ad_acl.specs.EntrySeen.{entry_seen}
use Rattle.ad_sd.specs.Seen.{seen}
use Rattle.ad_sd.specs.View.{to_come}
use Rattle.ad_diff_rights.specs.Named.{IsForOne}
use Rattle.ad_diff_rights.proofs.named.name_entries.Goals as goal

pub loop-ace-init : goal.loop-ace-init
loop-ace-init c =
    let all : to_come c.into_iter-ace-iterator.result ≡ (seen c.args.view.now).dacl.entries
    = ap to_come c.into_iter-ace-iterator.ensures.into_iter_gives ∙ c.dacl_in-ace-items.ensures in
    record {
      grows = λ sid is. is;
      rest = λ more grows named. subst (All (IsForOne more)) all named;
    }

pub loop-ace-preserved : goal.loop-ace-preserved
loop-ace-preserved c =
    let l = c.loop-ace in
    let entry = entry_seen c.in-Some.ace in
    let there = subst (λ (sid : SidValue). contains_sid c.name.new.named.keys sid ≡ true) c.sid.ensures
    c.in_ok-name.ensures.there in
    record {
      grows = λ sid is. c.in_ok-name.ensures.grows sid (l.invariant.grows sid is);
      rest = λ more grows named. l.invariant.rest more (λ sid is. grows sid (c.in_ok-name.ensures.grows sid is))
          (subst (All (IsForOne more)) (sym c.in-Some.ensures.steps)
          (All-cons (IsForOne more) entry (to_come c.next.new.self) (grows entry.sid there) named));
    }

pub returns-clause-there : goal.returns-clause-there
returns-clause-there c =
    let l = c.loop-ace in
    l.invariant.rest l.named.keys (λ sid is. is)
    (subst (All (IsForOne l.named.keys)) (sym c.in-None.ensures.steps.0) (All-nil (IsForOne l.named.keys)))
