use Rattle.std.proofs.Common.{◌≡◌, ◌<◌, ℕ, not, length, Some, refl, sym, subst, ap, ◌∙◌}
use Rattle.ad_ldap.specs.declared.items.Item.{Item}
use Rattle.ad_dir_model.specs.Attributes.{attr_place}
use Rattle.ad_dir_model.proofs.AdminCount.{place_within}
use Rattle.ad_needs.proofs.FirstLaws.{placed, is_named_first}
use Rattle.ad_needs.proofs.first_named.is_first.Goals as goal

pub is_first_mark-requires : goal.is_first_mark-requires
is_first_mark-requires c =
    subst (λ (n : ℕ). c.in-Some.attr.0 < n) (sym c.requires.named.len)
    (place_within c.args.schema.now c.args.item.now.attr c.in-Some.attr.0
    (placed c.args.schema.now c.args.item.now.attr c.args.item.now.attr c.in-Some.attr
    (sym c.in-Some.is ∙ c.requires.attr) refl))

pub returns-in-Some-clause-first : goal.returns-in-Some-clause-first
returns-in-Some-clause-first c =
    let at : attr_place c.args.schema.now c.args.item.now.attr ≡ Some c.in-Some.attr.0 =
    placed c.args.schema.now c.args.item.now.attr c.args.item.now.attr c.in-Some.attr
    (sym c.in-Some.is ∙ c.requires.attr) refl in
    let lt : c.in-Some.attr.0 < length c.args.named.now =
    subst (λ (n : ℕ). c.in-Some.attr.0 < n) (sym c.requires.named.len)
    (place_within c.args.schema.now c.args.item.now.attr c.in-Some.attr.0 at) in
    c.is_first_mark.ensures.first
    ∙ ap not (is_named_first (λ (item : Item). item.attr) c.args.schema.now c.args.named.now c.args.earlier.now
    c.args.item.now.attr c.in-Some.attr.0 c.requires.named at lt)
