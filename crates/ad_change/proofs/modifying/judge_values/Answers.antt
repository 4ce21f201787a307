use Rattle.std.proofs.Common.{◌≡◌, ◌<◌, List, length, map, sym, subst, ap, ◌∙◌}
use Rattle.std.specs.Prelude.{None, filter}
use Rattle.std.specs.List.{flat_map, AllByRecursion}
use Rattle.std.proofs.lemmas.Result.{err_from_is_err_and}
use Rattle.ad_sd.specs.declared.parts.Sd.{Sd}
use Rattle.ad_schema.specs.declared.line.SchemaRecord.{SchemaRecord}
use Rattle.ad_schema.specs.Attributes.{attrs_of}
use Rattle.ad_dir_objects.specs.declared.act.ActItem.{ActItem}
use Rattle.ad_dir_objects.specs.Seen.{held_seen, object_seen}
use Rattle.ad_dir_model.specs.Object.{Held}
use Rattle.ad_needs_rules.specs.Checks.{first_failing}
use Rattle.ad_needs_rules.proofs.FirstFailing.{all_pass, one_fails}
use Rattle.ad_change_values.specs.Values.{all_attrs}
use Rattle.ad_change_values.specs.Items.{after_items, all_item_checks, final_checks, is_item_named}
use Rattle.ad_change_values.specs.Judging.{value_checks}
use Rattle.ad_change_values.proofs.HeldLaws.{HeldIn}
use Rattle.ad_change_values.proofs.SentLaws.{stops}
use Rattle.ad_change.proofs.modifying.judge_values.Goals as goal

pub returns-in_err-held : goal.returns-in_err-held
returns-in_err-held c =
    let p = err_from_is_err_and c.from_residual.result c.from_residual.ensures.1 in
    let dir = c.args.dir.now in
    let items = c.args.items.now in
    let held : List Held = map held_seen c.args.object.values in
    rw (p.1, p.2) (stops (all_item_checks dir (map held_seen c.into_vec.result.items) items)
    (value_checks dir c.args.object.class.0 held items)
    c.in_err-held.field-0.0
    (λ r is. one_fails (all_item_checks dir held items)
    (flat_map (final_checks dir.schema c.args.object.class.0 (after_items dir held items))
    (filter (is_item_named items) (all_attrs dir.schema))) r
    (sym (ap (λ (xs : List HeldIn). first_failing (all_item_checks dir (map held_seen xs) items)) c.into_vec.ensures)
    ∙ is)) c.in_err-held.ensures)

pub judge_attrs-requires-clause-attrs : goal.judge_attrs-requires-clause-attrs
judge_attrs-requires-clause-attrs c =
    subst (λ (s : List SchemaRecord). AllByRecursion (λ (item : ActItem). item.attr.0 < length (attrs_of s))
    c.args.items.now) (sym c.schema.ensures) c.requires.attrs

pub returns-in_err-judge_attrs : goal.returns-in_err-judge_attrs
returns-in_err-judge_attrs c =
    let p = err_from_is_err_and c.from_residual-in_err-judge_attrs.result c.from_residual-in_err-judge_attrs.ensures.1
    in
    let dir = c.args.dir.now in
    let items = c.args.items.now in
    let class = c.args.object.class.0 in
    let held : List Held = map held_seen c.args.object.values in
    let after : map held_seen c.as_slice.result.now ≡ after_items dir held items =
    ap (map held_seen) c.as_slice.ensures.value ∙ c.in_ok-held.ensures.1.0
    ∙ ap (λ (xs : List HeldIn). after_items dir (map held_seen xs) items) c.into_vec.ensures in
    let none : first_failing (all_item_checks dir held items) ≡ None =
    sym (ap (λ (xs : List HeldIn). first_failing (all_item_checks dir (map held_seen xs) items)) c.into_vec.ensures)
    ∙ c.in_ok-held.ensures.0 in
    rw (p.1, p.2) (stops (flat_map (final_checks c.schema.result.now class (map held_seen c.as_slice.result.now))
    (filter (is_item_named items) (all_attrs c.schema.result.now))) (value_checks dir class held items)
    c.in_err-judge_attrs.field-0.0
    (λ r is. all_pass (all_item_checks dir held items)
    (flat_map (final_checks dir.schema class (after_items dir held items))
    (filter (is_item_named items) (all_attrs dir.schema))) none
    ∙ sym (ap (λ (s : List SchemaRecord). first_failing
    (flat_map (final_checks s class (map held_seen c.as_slice.result.now))
    (filter (is_item_named items) (all_attrs s)))) c.schema.ensures
    ∙ ap (λ (h : List Held). first_failing
    (flat_map (final_checks dir.schema class h) (filter (is_item_named items) (all_attrs dir.schema)))) after)
    ∙ is)
    c.in_err-judge_attrs.ensures)

pub returns : goal.returns
returns c =
    let dir = c.args.dir.now in
    let items = c.args.items.now in
    let class = c.args.object.class.0 in
    let held : List Held = map held_seen c.args.object.values in
    let made : map held_seen c.in_ok-held.held.items ≡ after_items dir held items =
    c.in_ok-held.ensures.1.0 ∙ ap (λ (xs : List HeldIn). after_items dir (map held_seen xs) items) c.into_vec.ensures in
    let after : map held_seen c.as_slice.result.now ≡ after_items dir held items
    = ap (map held_seen) c.as_slice.ensures.value ∙ made in
    let none : first_failing (all_item_checks dir held items) ≡ None =
    sym (ap (λ (xs : List HeldIn). first_failing (all_item_checks dir (map held_seen xs) items)) c.into_vec.ensures)
    ∙ c.in_ok-held.ensures.0 in (
      all_pass (all_item_checks dir held items)
          (flat_map (final_checks dir.schema class (after_items dir held items))
          (filter (is_item_named items) (all_attrs dir.schema))) none
          ∙ sym (ap (λ (s : List SchemaRecord). first_failing
          (flat_map (final_checks s class (map held_seen c.as_slice.result.now))
          (filter (is_item_named items) (all_attrs s)))) c.schema.ensures
          ∙ ap (λ (h : List Held). first_failing
          (flat_map (final_checks dir.schema class h) (filter (is_item_named items) (all_attrs dir.schema))))
          after)
          ∙ c.in_ok-judge_attrs.ensures.0,
      (
        λ (sd : Sd). ap (λ (vs : List Held). record (object_seen c.args.object sd) { values = vs })
            (ap (map held_seen) c.from_vec.ensures ∙ made),
        c.in_ok-held.ensures.1.1,
      ),
    )
