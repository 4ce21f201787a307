use Rattle.std.proofs.Common.{◌≡◌, List, [], ◌∷◌, false, sym, ap, ◌∙◌}
use Rattle.std.specs.Prelude.{None, nat_lt, ◌&&◌, length}
use Rattle.std.specs.List.{list_all}
use Rattle.std.proofs.lemmas.Result.{err_from_is_err_and}
use Rattle.ad_schema.specs.declared.line.SchemaRecord.{SchemaRecord}
use Rattle.ad_needs_rules.specs.Checks.{or_code, first_failing}
use Rattle.ad_change_values.specs.Values.{is_given_twice, are_repeated, leads, is_no_empty_password}
use Rattle.ad_dir_model.specs.Attributes.{is_single}
use Rattle.ad_change.specs.Adding.{attr_checks}
use Rattle.ad_change_values.specs.Judging.{reading_checks}
use Rattle.ad_change.proofs.AddChecks.{attr_read_stops, attr_twice, attr_many, attr_lead_stops, attr_empty, attr_fine}
use Rattle.ad_change_values.proofs.SentLaws.{stops}
use Rattle.ad_change.proofs.adding.judge_attr.Goals as goal

pub returns-in_err-read : goal.returns-in_err-read
returns-in_err-read c =
    let p = err_from_is_err_and c.from_residual.result c.from_residual.ensures.1 in
    let dir = c.args.dir.now in
    let attr = c.args.attr in
    let sent = c.args.sent.now in
    rw (p.1, p.2) (stops (reading_checks c.schema-schema.result.now attr.0 sent) (attr_checks dir (attr, sent))
    c.in_err-read.field-0.0
    (λ r is. attr_read_stops dir attr sent r
    (ap (λ (s : List SchemaRecord). first_failing (reading_checks s attr.0 sent)) (sym c.schema-schema.ensures) ∙ is))
    c.in_err-read.ensures)

pub returns-then-repeated : goal.returns-then-repeated
returns-then-repeated c =
    let dir = c.args.dir.now in
    let attr = c.args.attr in
    let sent = c.args.sent.now in
    let none : first_failing (reading_checks dir.schema attr.0 sent) ≡ None =
    ap (λ (s : List SchemaRecord). first_failing (reading_checks s attr.0 sent)) (sym c.schema-schema.ensures)
    ∙ c.in_ok-read.ensures.0 in
    attr_twice dir attr sent none
    (ap (λ (s : List SchemaRecord). is_given_twice s attr.0 sent) (sym c.schema-schema.ensures)
    ∙ ap are_repeated (sym (c.as_slice.ensures ∙ c.in_ok-read.ensures.1.0)) ∙ sym c.in_ok-repeated.ensures
    ∙ c.if-repeated.true)

pub returns-then-too_many : goal.returns-then-too_many
returns-then-too_many c =
    let dir = c.args.dir.now in
    let attr = c.args.attr in
    let sent = c.args.sent.now in
    let none : first_failing (reading_checks dir.schema attr.0 sent) ≡ None =
    ap (λ (s : List SchemaRecord). first_failing (reading_checks s attr.0 sent)) (sym c.schema-schema.ensures)
    ∙ c.in_ok-read.ensures.0 in
    let once : is_given_twice dir.schema attr.0 sent ≡ false =
    ap (λ (s : List SchemaRecord). is_given_twice s attr.0 sent) (sym c.schema-schema.ensures)
    ∙ ap are_repeated (sym (c.as_slice.ensures ∙ c.in_ok-read.ensures.1.0)) ∙ sym c.in_ok-repeated.ensures
    ∙ c.if-repeated.false in
    attr_many dir attr sent none once
    (ap (λ (s : List SchemaRecord). is_single s attr.0 && nat_lt 1 (length sent)) (sym c.schema-schema.ensures)
    ∙ sym c.too_many.ensures ∙ c.if-too_many.true)

pub returns-in_err-stored : goal.returns-in_err-stored
returns-in_err-stored c =
    let p = err_from_is_err_and c.from_residual-in_err-stored.result c.from_residual-in_err-stored.ensures.1 in
    let dir = c.args.dir.now in
    let attr = c.args.attr in
    let sent = c.args.sent.now in
    let none : first_failing (reading_checks dir.schema attr.0 sent) ≡ None =
    ap (λ (s : List SchemaRecord). first_failing (reading_checks s attr.0 sent)) (sym c.schema-schema.ensures)
    ∙ c.in_ok-read.ensures.0 in
    let once : is_given_twice dir.schema attr.0 sent ≡ false =
    ap (λ (s : List SchemaRecord). is_given_twice s attr.0 sent) (sym c.schema-schema.ensures)
    ∙ ap are_repeated (sym (c.as_slice.ensures ∙ c.in_ok-read.ensures.1.0)) ∙ sym c.in_ok-repeated.ensures
    ∙ c.if-repeated.false in
    let few : (is_single dir.schema attr.0 && nat_lt 1 (length sent)) ≡ false =
    ap (λ (s : List SchemaRecord). is_single s attr.0 && nat_lt 1 (length sent)) (sym c.schema-schema.ensures)
    ∙ sym c.too_many.ensures ∙ c.if-too_many.false in
    rw (p.1, p.2) (stops (or_code (list_all (leads dir attr.0) sent) 19 ∷ []) (attr_checks dir (attr, sent))
    c.in_err-stored.field-0.0
    (λ r is. attr_lead_stops dir attr sent none once few r is) c.in_err-stored.ensures)

pub returns-then-not-has_no_empty_password : goal.returns-then-not-has_no_empty_password
returns-then-not-has_no_empty_password c =
    let dir = c.args.dir.now in
    let attr = c.args.attr in
    let sent = c.args.sent.now in
    let none : first_failing (reading_checks dir.schema attr.0 sent) ≡ None =
    ap (λ (s : List SchemaRecord). first_failing (reading_checks s attr.0 sent)) (sym c.schema-schema.ensures)
    ∙ c.in_ok-read.ensures.0 in
    let once : is_given_twice dir.schema attr.0 sent ≡ false =
    ap (λ (s : List SchemaRecord). is_given_twice s attr.0 sent) (sym c.schema-schema.ensures)
    ∙ ap are_repeated (sym (c.as_slice.ensures ∙ c.in_ok-read.ensures.1.0)) ∙ sym c.in_ok-repeated.ensures
    ∙ c.if-repeated.false in
    let few : (is_single dir.schema attr.0 && nat_lt 1 (length sent)) ≡ false =
    ap (λ (s : List SchemaRecord). is_single s attr.0 && nat_lt 1 (length sent)) (sym c.schema-schema.ensures)
    ∙ sym c.too_many.ensures ∙ c.if-too_many.false in
    attr_empty dir attr sent none once few c.in_ok-stored.ensures.0
    (ap (λ (s : List SchemaRecord). list_all (is_no_empty_password s attr.0) sent) (sym c.schema-schema.ensures)
    ∙ sym c.has_no_empty_password.ensures ∙ c.if-not-has_no_empty_password.true)

pub returns : goal.returns
returns c =
    let dir = c.args.dir.now in
    let attr = c.args.attr in
    let sent = c.args.sent.now in
    let none : first_failing (reading_checks dir.schema attr.0 sent) ≡ None =
    ap (λ (s : List SchemaRecord). first_failing (reading_checks s attr.0 sent)) (sym c.schema-schema.ensures)
    ∙ c.in_ok-read.ensures.0 in
    let once : is_given_twice dir.schema attr.0 sent ≡ false =
    ap (λ (s : List SchemaRecord). is_given_twice s attr.0 sent) (sym c.schema-schema.ensures)
    ∙ ap are_repeated (sym (c.as_slice.ensures ∙ c.in_ok-read.ensures.1.0)) ∙ sym c.in_ok-repeated.ensures
    ∙ c.if-repeated.false in
    let few : (is_single dir.schema attr.0 && nat_lt 1 (length sent)) ≡ false =
    ap (λ (s : List SchemaRecord). is_single s attr.0 && nat_lt 1 (length sent)) (sym c.schema-schema.ensures)
    ∙ sym c.too_many.ensures ∙ c.if-too_many.false in (
      attr_fine dir attr sent none once few c.in_ok-stored.ensures.0
          (ap (λ (s : List SchemaRecord). list_all (is_no_empty_password s attr.0) sent) (sym c.schema-schema.ensures)
          ∙ sym c.has_no_empty_password.ensures ∙ c.if-not-has_no_empty_password.false),
      (c.in_ok-stored.ensures.1, c.in_ok-read.ensures.1.1),
    )
