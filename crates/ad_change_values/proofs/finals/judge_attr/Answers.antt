use Rattle.std.proofs.Common.{ℕ, List, length, not, sym, ap, ◌≡◌, ◌∙◌}
use Rattle.ad_dir_model.specs.Object.{Held, stored_in}
use Rattle.ad_change_values.proofs.FinalLaws.{attr_many, attr_refused, attr_lacking, attr_fine}
use Rattle.ad_change_values.proofs.finals.judge_attr.Goals as goal

pub returns-then-are_too_many : goal.returns-then-are_too_many
returns-then-are_too_many c = λ (held : List Held) is.
    attr_many c.args.schema.now c.args.class.0 held c.args.attr.0 c.args.count is
    (sym c.are_too_many.ensures ∙ c.if-are_too_many.true)

pub returns-then-not-allowed : goal.returns-then-not-allowed
returns-then-not-allowed c = λ (held : List Held) is.
    attr_refused c.args.schema.now c.args.class.0 held c.args.attr.0 c.args.count is
    (sym c.are_too_many.ensures ∙ c.if-are_too_many.false)
    (sym c.allowed.ensures ∙ c.if-not-allowed.true)

pub returns-then-is_lacking : goal.returns-then-is_lacking
returns-then-is_lacking c = λ (held : List Held) is.
    attr_lacking c.args.schema.now c.args.class.0 held c.args.attr.0 c.args.count is
    (sym c.are_too_many.ensures ∙ c.if-are_too_many.false)
    (sym c.allowed.ensures ∙ c.if-not-allowed.false) (sym c.is_lacking.ensures ∙ c.if-is_lacking.true)

pub returns : goal.returns
returns c = λ (held : List Held) is. (
  attr_fine c.args.schema.now c.args.class.0 held c.args.attr.0 c.args.count is
      (sym c.are_too_many.ensures ∙ c.if-are_too_many.false)
      (sym c.allowed.ensures ∙ c.if-not-allowed.false) (sym c.is_lacking.ensures ∙ c.if-is_lacking.false),
  tt,
)
