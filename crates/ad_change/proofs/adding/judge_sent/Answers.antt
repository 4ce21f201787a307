use Rattle.std.proofs.Common.{List, [], ℕ, sym, ap, ◌∙◌}
use Rattle.std.specs.Prelude.{not}
use Rattle.std.specs.List.{list_all, flat_map}
use Rattle.std.proofs.lemmas.Result.{err_from_is_err_and}
use Rattle.ad_schema.specs.declared.info.AttrId.{AttrId}
use Rattle.ad_schema.specs.declared.line.SchemaRecord.{SchemaRecord}
use Rattle.ad_schema.specs.Classes.{is_allowed}
use Rattle.ad_dir_model.specs.Object.{Held}
use Rattle.ad_change_values.specs.Values.{all_attrs, is_lacking}
use Rattle.ad_change.specs.Adding.{attr_checks, is_given}
use Rattle.ad_change.specs.Creating.{all_before, sent_checks}
use Rattle.ad_change.proofs.AddLaws.{held_is}
use Rattle.ad_change.proofs.AddChecks.{sent_owner, sent_under, sent_values, sent_allowed, sent_musts, sent_fine}
use Rattle.ad_change_values.proofs.SentLaws.{stops}
use Rattle.ad_change.proofs.adding.judge_sent.Goals as goal

pub returns-then-not-is_owner_allowed : goal.returns-then-not-is_owner_allowed
returns-then-not-is_owner_allowed c =
    sent_owner c.args.dir.now c.args.token.now c.args.parent c.args.class.0 c.args.values.now c.args.sd.now
    (sym c.is_owner_allowed.ensures ∙ c.if-not-is_owner_allowed.true)

pub returns-then-not-may_stand : goal.returns-then-not-may_stand
returns-then-not-may_stand c =
    sent_under c.args.dir.now c.args.token.now c.args.parent c.args.class.0 c.args.values.now c.args.sd.now
    (sym c.is_owner_allowed.ensures ∙ c.if-not-is_owner_allowed.false)
    (sym c.may_stand.ensures ∙ c.if-not-may_stand.true)

pub returns-in_err-read : goal.returns-in_err-read
returns-in_err-read c =
    let p = err_from_is_err_and c.from_residual.result c.from_residual.ensures.1 in
    rw (p.1, p.2) (stops (flat_map (attr_checks c.args.dir.now) c.args.values.now)
    (sent_checks c.args.dir.now c.args.token.now c.args.parent c.args.class.0 c.args.values.now c.args.sd.now)
    c.in_err-read.field-0.0
    (λ r is. sent_values c.args.dir.now c.args.token.now c.args.parent c.args.class.0 c.args.values.now c.args.sd.now
    (sym c.is_owner_allowed.ensures ∙ c.if-not-is_owner_allowed.false)
    (sym c.may_stand.ensures ∙ c.if-not-may_stand.false) r is) c.in_err-read.ensures)

pub returns-then-not-are_allowed : goal.returns-then-not-are_allowed
returns-then-not-are_allowed c =
    sent_allowed c.args.dir.now c.args.token.now c.args.parent c.args.class.0 c.args.values.now c.args.sd.now
    (sym c.is_owner_allowed.ensures ∙ c.if-not-is_owner_allowed.false)
    (sym c.may_stand.ensures ∙ c.if-not-may_stand.false) c.in_ok-read.ensures.0
    (ap (λ (s : List SchemaRecord). list_all (λ (attr : AttrId × List (List ℕ)). is_allowed s c.args.class.0 attr.0.0)
    c.args.values.now) (sym c.schema-schema.ensures)
    ∙ sym c.are_allowed.ensures ∙ c.if-not-are_allowed.true)

pub returns-then-not-has : goal.returns-then-not-has
returns-then-not-has c =
    sent_musts c.args.dir.now c.args.token.now c.args.parent c.args.class.0 c.args.values.now c.args.sd.now
    (sym c.is_owner_allowed.ensures ∙ c.if-not-is_owner_allowed.false)
    (sym c.may_stand.ensures ∙ c.if-not-may_stand.false) c.in_ok-read.ensures.0
    (ap (λ (s : List SchemaRecord). list_all (λ (attr : AttrId × List (List ℕ)). is_allowed s c.args.class.0 attr.0.0)
    c.args.values.now) (sym c.schema-schema.ensures)
    ∙ sym c.are_allowed.ensures ∙ c.if-not-are_allowed.false)
    (ap (λ (s : List SchemaRecord). list_all
    (λ (attr : ℕ). not (is_lacking s c.args.class.0 attr (is_given c.args.values.now attr))) (all_attrs s))
    (sym c.schema-schema.ensures)
    ∙ sym c.in_ok-has.ensures ∙ c.if-not-has.true)

pub returns : goal.returns
returns c = (
  sent_fine c.args.dir.now c.args.token.now c.args.parent c.args.class.0 c.args.values.now c.args.sd.now
      (sym c.is_owner_allowed.ensures ∙ c.if-not-is_owner_allowed.false)
      (sym c.may_stand.ensures ∙ c.if-not-may_stand.false) c.in_ok-read.ensures.0
      (ap (λ (s : List SchemaRecord). list_all
      (λ (attr : AttrId × List (List ℕ)). is_allowed s c.args.class.0 attr.0.0) c.args.values.now)
      (sym c.schema-schema.ensures)
      ∙ sym c.are_allowed.ensures ∙ c.if-not-are_allowed.false)
      (ap (λ (s : List SchemaRecord). list_all
      (λ (attr : ℕ). not (is_lacking s c.args.class.0 attr (is_given c.args.values.now attr))) (all_attrs s))
      (sym c.schema-schema.ensures)
      ∙ sym c.in_ok-has.ensures ∙ c.if-not-has.false),
  (
    c.in_ok-held.ensures ∙ ap (λ (hs : List Held). all_before hs []) c.in_ok-read.ensures.1.0
        ∙ held_is c.args.dir.now c.args.values.now,
    c.in_ok-read.ensures.1.1,
  ),
)
