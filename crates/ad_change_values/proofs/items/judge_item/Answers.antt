use Rattle.std.proofs.Common.{◌≡◌, ℕ, List, [], ◌∷◌, map, sym, subst, ap, ◌∙◌}
use Rattle.std.specs.List.{list_all, AllByRecursion}
use Rattle.std.proofs.lemmas.Result.{err_from_is_err_and}
use Rattle.ad_bytes.specs.Reading.{IsBytes}
use Rattle.ad_schema.specs.declared.line.SchemaRecord.{SchemaRecord}
use Rattle.ad_dir_objects.specs.Seen.{stored_seen}
use Rattle.ad_dir_model.specs.Object.{Stored}
use Rattle.ad_needs_rules.specs.Checks.{or_code, first_failing}
use Rattle.ad_change_values.specs.Values.{leads, all_stored}
use Rattle.ad_change_values.specs.Judging.{reading_checks, kept_checks, checks_on}
use Rattle.ad_change_values.proofs.SentLaws.{stops}
use Rattle.ad_change_values.proofs.ItemLaws.{read_stops, lead_stops, kept_decide}
use Rattle.ad_change_values.proofs.items.judge_item.Goals as goal

pub returns-in_err-read : goal.returns-in_err-read
returns-in_err-read c =
    let p = err_from_is_err_and c.from_residual.result c.from_residual.ensures.1 in
    let dir = c.args.dir.now in
    let item = c.args.item.now in
    let same : reading_checks c.schema-schema.result.now item.attr.0 c.as_slice-sent.result.now
    ≡ reading_checks dir.schema item.attr.0 item.values =
    ap (λ (s : List SchemaRecord). reading_checks s item.attr.0 c.as_slice-sent.result.now) c.schema-schema.ensures
    ∙ ap (reading_checks dir.schema item.attr.0) c.as_slice-sent.ensures in
    rw (p.1, p.2) (stops (reading_checks c.schema-schema.result.now item.attr.0 c.as_slice-sent.result.now)
    (checks_on dir (map stored_seen c.args.stored.now) item) c.in_err-read.field-0.0
    (λ r is. read_stops dir (map stored_seen c.args.stored.now) item r (ap first_failing (sym same) ∙ is))
    c.in_err-read.ensures)

pub returns-in_err-new : goal.returns-in_err-new
returns-in_err-new c =
    let p = err_from_is_err_and c.from_residual-in_err-new.result c.from_residual-in_err-new.ensures.1 in
    let dir = c.args.dir.now in
    let item = c.args.item.now in
    let same : reading_checks c.schema-schema.result.now item.attr.0 c.as_slice-sent.result.now
    ≡ reading_checks dir.schema item.attr.0 item.values =
    ap (λ (s : List SchemaRecord). reading_checks s item.attr.0 c.as_slice-sent.result.now) c.schema-schema.ensures
    ∙ ap (reading_checks dir.schema item.attr.0) c.as_slice-sent.ensures in
    rw (p.1, p.2) (stops (or_code (list_all (leads dir item.attr.0) c.as_slice-sent.result.now) 19 ∷ [])
    (checks_on dir (map stored_seen c.args.stored.now) item) c.in_err-new.field-0.0
    (λ r is. lead_stops dir (map stored_seen c.args.stored.now) item r
    (ap first_failing (sym same) ∙ c.in_ok-read.ensures.0)
    (ap (λ (xs : List (List ℕ)). first_failing (or_code (list_all (leads dir item.attr.0) xs) 19 ∷ []))
    (sym c.as_slice-sent.ensures) ∙ is))
    c.in_err-new.ensures)

pub returns-in_err-judge_kept : goal.returns-in_err-judge_kept
returns-in_err-judge_kept c =
    let p = err_from_is_err_and c.from_residual-in_err-judge_kept.result c.from_residual-in_err-judge_kept.ensures.1 in
    let dir = c.args.dir.now in
    let item = c.args.item.now in
    let same : reading_checks c.schema-schema.result.now item.attr.0 c.as_slice-sent.result.now
    ≡ reading_checks dir.schema item.attr.0 item.values =
    ap (λ (s : List SchemaRecord). reading_checks s item.attr.0 c.as_slice-sent.result.now) c.schema-schema.ensures
    ∙ ap (reading_checks dir.schema item.attr.0) c.as_slice-sent.ensures in
    let new : List Stored = map stored_seen c.as_slice-2.result.now in
    let stored : List Stored = map stored_seen c.args.stored.now in
    let decided : first_failing (checks_on dir (map stored_seen c.args.stored.now) item)
    ≡ first_failing (kept_checks c.schema-schema.result.now item new stored) =
    kept_decide dir item new stored (ap first_failing (sym same) ∙ c.in_ok-read.ensures.0)
    (ap (λ (xs : List (List ℕ)). first_failing (or_code (list_all (leads dir item.attr.0) xs) 19 ∷ []))
    (sym c.as_slice-sent.ensures) ∙ c.in_ok-new.ensures.0)
    (ap (map stored_seen) c.as_slice-2.ensures ∙ c.in_ok-new.ensures.1 ∙ ap (all_stored dir item.attr.0)
    c.as_slice-sent.ensures)
    ∙ ap (λ (s : List SchemaRecord). first_failing (kept_checks s item new stored)) (sym c.schema-schema.ensures) in
    rw (p.1, p.2) (stops (kept_checks c.schema-schema.result.now item new stored)
    (checks_on dir (map stored_seen c.args.stored.now) item)
    c.in_err-judge_kept.field-0.0 (λ r is. decided ∙ is) c.in_err-judge_kept.ensures)

pub returns : goal.returns
returns c =
    let dir = c.args.dir.now in
    let item = c.args.item.now in
    let same : reading_checks c.schema-schema.result.now item.attr.0 c.as_slice-sent.result.now
    ≡ reading_checks dir.schema item.attr.0 item.values =
    ap (λ (s : List SchemaRecord). reading_checks s item.attr.0 c.as_slice-sent.result.now) c.schema-schema.ensures
    ∙ ap (reading_checks dir.schema item.attr.0) c.as_slice-sent.ensures in
    let new : List Stored = map stored_seen c.as_slice-2.result.now in
    let stored : List Stored = map stored_seen c.args.stored.now in
    let decided : first_failing (checks_on dir (map stored_seen c.args.stored.now) item)
    ≡ first_failing (kept_checks c.schema-schema.result.now item new stored) =
    kept_decide dir item new stored (ap first_failing (sym same) ∙ c.in_ok-read.ensures.0)
    (ap (λ (xs : List (List ℕ)). first_failing (or_code (list_all (leads dir item.attr.0) xs) 19 ∷ []))
    (sym c.as_slice-sent.ensures) ∙ c.in_ok-new.ensures.0)
    (ap (map stored_seen) c.as_slice-2.ensures ∙ c.in_ok-new.ensures.1 ∙ ap (all_stored dir item.attr.0)
    c.as_slice-sent.ensures)
    ∙ ap (λ (s : List SchemaRecord). first_failing (kept_checks s item new stored)) (sym c.schema-schema.ensures) in (
      decided ∙ c.in_ok-judge_kept.ensures.0,
      (
        c.in_ok-new.ensures.1 ∙ ap (all_stored dir item.attr.0) c.as_slice-sent.ensures,
        subst (AllByRecursion IsBytes) c.as_slice-sent.ensures c.in_ok-read.ensures.1.1,
      ),
    )
