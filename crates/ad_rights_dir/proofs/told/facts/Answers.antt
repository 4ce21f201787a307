use Rattle.std.proofs.Common.{◌≡◌, ℕ, true, List, sym, subst}
use Rattle.std.specs.List.{All}
use Rattle.std.proofs.lemmas.Result.{IfOk-weaker}
use Rattle.ad_dir_model.specs.Objects.{is_live}
use Rattle.ad_sets.specs.declared.row.Row.{Row}
use Rattle.ad_sets.specs.declared.sets.Sets.{Sets}
use Rattle.ad_sets.specs.Told.{RowValue}
use Rattle.ad_sets.specs.Sets.{sets_of}
use Rattle.ad_sets.specs.Rows.{AreRows}
use Rattle.ad_rights_rows.specs.Rows.{rows_of}
use Rattle.ad_rights_dir.specs.Kept.{IsOfLive}
use Rattle.ad_rights_dir.proofs.Living.{facts_live, rows_live}
use Rattle.ad_rights_dir.proofs.told.facts.Goals as goal

pub put_ends-requires : goal.put_ends-requires
put_ends-requires c = record { judged = c.new-judged.ensures c.args.dir.now c.args.parties.now.tokens.all.items }

pub returns-clause-live : goal.returns-clause-live
returns-clause-live c =
    let dir = c.args.dir.now in
    let members = c.args.parties.now.members.items in
    let tokens = c.args.parties.now.tokens.all.items in
    let P : ℕ → Type 0 = λ number. is_live dir.objects number ≡ true in
    let rows : List RowValue = rows_of dir members tokens c.args.question c.as_slice-2.result.now in
    let are = subst (λ (s : Sets). AreRows (sets_of s) c.as_slice-3.result.now rows) (sym c.sets.ensures)
    (subst (λ (l : List Row). AreRows (sets_of c.told_rows.new.judged.sets) l rows) (sym c.as_slice-3.ensures.value)
    c.in_ok-rows.ensures) in
    let live = subst (All P) (sym c.as_slice-2.ensures.value) c.in_ok-all.ensures.live in
    IfOk-weaker c.facts_of.result _ _ (λ facts is.
    subst (All (IsOfLive dir)) (sym (is rows are))
    (facts_live dir rows (rows_live dir members tokens c.args.question c.as_slice-2.result.now live)))
    c.facts_of.ensures
