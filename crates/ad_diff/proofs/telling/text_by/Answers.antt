use Rattle.std.proofs.Common.{◌∙◌, List, sym, ap, subst}
use Rattle.std.specs.List.{All}
use Rattle.ad_dir.proofs.NameLaws.{if_ok}
use Rattle.ad_both.specs.Both.{IsLiveBoth}
use Rattle.ad_diff.specs.declared.columns.Column.{Column}
use Rattle.ad_diff.specs.declared.numbering.Grouped.{Grouped}
use Rattle.ad_diff.specs.Text.{members}
use Rattle.ad_diff.specs.Frames.{HasBase, AreBases}
use Rattle.ad_diff.specs.Table.{AreRows}
use Rattle.ad_diff.proofs.Whole.{whole, members_live, placed_live}
use Rattle.ad_diff.proofs.Contexts.{all_based}
use Rattle.ad_diff.proofs.telling.text_by.Goals as goal

pub comparison_context-requires-clause-live : goal.comparison_context-requires-clause-live
comparison_context-requires-clause-live c =
    subst (All (IsLiveBoth c.args.sides.now.before.now c.args.sides.now.after.now)) (sym c.as_slice.ensures.value)
    c.in_ok-families.ensures.firsts

pub placed-requires-clause-live : goal.placed-requires-clause-live
placed-requires-clause-live c =
    let before = c.args.sides.now.before.now in
    let after = c.args.sides.now.after.now in
    subst (All (λ (g : Grouped). IsLiveBoth before after g.both)) (sym c.as_slice-2.ensures.value)
    (placed_live before after c.args.objects.now c.in_ok-families.families.objects.items c.requires.live
    c.in_ok-families.ensures.members)

pub placed-requires-clause-bases : goal.placed-requires-clause-bases
placed-requires-clause-bases c =
    let sides = c.args.sides.now in
    let frame = c.in_ok-context.context.frame in
    let firsts = c.in_ok-families.families.firsts.items in
    let bases : AreBases sides frame firsts = subst (AreBases sides frame) c.as_slice.ensures.value
    c.in_ok-context.ensures.bases in
    subst (All (λ (g : Grouped). HasBase sides frame g.group g.both)) (sym c.as_slice-2.ensures.value)
    (all_based sides firsts frame c.in_ok-families.families.objects.items bases c.in_ok-families.ensures.families)

pub text_of-requires-clause-principals : goal.text_of-requires-clause-principals
text_of-requires-clause-principals c =
    members_live c.args.sides.now.before.now c.args.sides.now.after.now c.args.objects.now c.args.principals.now
    c.in_ok-rows.rows.groups.items c.requires.objects c.requires.live c.requires.principals
    c.in_ok-rows.ensures.members

pub text_of-requires-clause-objects : goal.text_of-requires-clause-objects
text_of-requires-clause-objects c =
    placed_live c.args.sides.now.before.now c.args.sides.now.after.now c.args.objects.now
    c.in_ok-placing.placing.objects.items c.requires.live
    (c.in_ok-placing.ensures.members ∙ ap members c.as_slice-2.ensures.value ∙ c.in_ok-families.ensures.members)

pub returns : goal.returns
returns c =
    let placing = c.in_ok-placing.placing in
    let rows = c.in_ok-rows.rows in
    let frame = c.in_ok-context.context.frame in
    if_ok c.text_of.result
    (λ text is. whole c.args.sides.now frame placing.columns.items placing.objects.items rows.groups.items
    rows.leaders.items text.items (c.requires.both ∙ sym c.in_ok-rows.ensures.members) c.requires.parties
    c.in_ok-placing.ensures.placed
    (subst (λ (cs : List Column). AreRows frame cs rows.leaders.items rows.groups.items) c.as_slice-3.ensures.value
    c.in_ok-rows.ensures.rows)
    c.in_ok-placing.ensures.numbered c.in_ok-rows.ensures.numbered
    (c.in_ok-rows.ensures.members ∙ c.requires.principals)
    (c.in_ok-placing.ensures.members ∙ ap members c.as_slice-2.ensures.value ∙ c.in_ok-families.ensures.members
    ∙ c.requires.objects) is)
    c.text_of.ensures
