use Rattle.std.proofs.Common.{◌≡◌, ◌∙◌, Bool, List, [], Some, sym, ap, subst}
use Rattle.std.specs.List.{list_any}
use Rattle.std.proofs.lemmas.Option.{get_or_from_slice_get}
use Rattle.ad_sets.specs.Sets.{sets_of}
use Rattle.ad_sets.specs.Rows.{is_elsewhere, own_sign, IsChanged}
use Rattle.ad_sets.proofs.Changing.{kept_is, changed_is}
use Rattle.ad_sets.proofs.row.told_by.Goals as goal

pub returns-then-is_elsewhere-clause-told : goal.returns-then-is_elsewhere-clause-told
returns-then-is_elsewhere-clause-told c = λ set whole at is.
    let base_is : c.at.result.now ≡ set = c.at.ensures ∙ get_or_from_slice_get (sets_of c.args.sets.now) c.args.base set [] at in
    let again : c.at-then-is_elsewhere.result.now ≡ set
    = c.at-then-is_elsewhere.ensures ∙ get_or_from_slice_get (sets_of c.args.sets.now) c.args.base set [] at in
    let any = ap (λ (l : List Bool). list_any (is_elsewhere l c.args.own) c.args.changes.now) (sym base_is)
    ∙ sym c.is_elsewhere.ensures ∙ c.if-is_elsewhere.true in
    let told = changed_is c.args.own set whole c.args.changes.now is any in
    let made = c.in_ok-whole.ensures whole (subst (λ (l : List Bool). IsChanged l c.args.changes.now whole) (sym again) is) in
    (c.in_ok-put.ensures.place ∙ ap (λ (l : List Bool). Some l) (made ∙ sym told.set_is), sym told.sign_is)

pub returns-clause-told : goal.returns-clause-told
returns-clause-told c = λ set whole at is.
    let base_is : c.at.result.now ≡ set = c.at.ensures ∙ get_or_from_slice_get (sets_of c.args.sets.now) c.args.base set [] at in
    let again : c.at-2.result.now ≡ set
    = c.at-2.ensures ∙ get_or_from_slice_get (sets_of c.args.sets.now) c.args.base set [] at in
    let none = ap (λ (l : List Bool). list_any (is_elsewhere l c.args.own) c.args.changes.now) (sym base_is)
    ∙ sym c.is_elsewhere.ensures ∙ c.if-is_elsewhere.false in
    let told = kept_is c.args.own set whole c.args.changes.now is none in
    let signed = c.own_sign.ensures whole (subst (λ (l : List Bool). IsChanged l c.args.changes.now whole) (sym again) is) in (
      at ∙ ap (λ (l : List Bool). Some l) (sym told.set_is),
      signed ∙ ap (λ (l : List Bool). own_sign c.args.own l whole) again ∙ sym told.sign_is,
    )
