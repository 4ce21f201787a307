use Rattle.std.proofs.lemmas.Result.{on_ok_weaker, IfOk-weaker}
use Rattle.std.proofs.Common.{◌≡◌, ◌∙◌, List, map, sym, subst}
use Rattle.ad_questions.specs.Requirements.{requirements_seen}
use Rattle.ad_rights.specs.Holding.{listed}
use Rattle.ad_sets.specs.declared.row.Change.{Change}
use Rattle.ad_sets.specs.Rows.{IsChanged}
use Rattle.ad_rights_rows.specs.Rows.{base_of, whole_of}
use Rattle.ad_rights_rows.specs.Steps.{places_of, change_at}
use Rattle.ad_rights_rows.proofs.rows.told_needed.Goals as goal

pub returns-clause-judged : goal.returns-clause-judged
returns-clause-judged c =
    on_ok_weaker c.told_by.result
    (λ judged. judged c.args.dir.now c.args.parties.now.tokens.all.items c.in_ok-base.ensures.judged)
    c.told_by.ensures.judged

pub returns-clause-kept : goal.returns-clause-kept
returns-clause-kept c =
    on_ok_weaker c.told_by.result (λ kept place set at. kept place set (c.in_ok-base.ensures.kept place set at))
    c.told_by.ensures.kept

pub returns-clause-told : goal.returns-clause-told
returns-clause-told c =
    let dir = c.args.dir.now in
    let tokens = c.args.parties.now.tokens.all.items in
    let needed = requirements_seen c.args.needed.now in
    let made = map (change_at dir tokens needed) (places_of dir (listed c.args.parties.now.tokens.holding.holders) needed) in
    let changes_are : c.as_slice.result.now ≡ made = c.as_slice.ensures.value ∙ c.in_ok-changes.ensures in
    IfOk-weaker c.told_by.result _ _ (λ told is. is (base_of dir tokens needed) (whole_of dir tokens needed)
    c.in_ok-base.ensures.place
    (subst (λ (l : List Change). IsChanged (base_of dir tokens needed) l (whole_of dir tokens needed)) (sym changes_are)
    c.changes_make_the_whole.ensures)) c.told_by.ensures.told
