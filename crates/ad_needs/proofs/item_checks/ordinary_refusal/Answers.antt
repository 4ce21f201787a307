use Rattle.std.proofs.Common.{refl, sym, ◌∙◌}
use Rattle.ad_dir.proofs.NameLaws.{if_ok}
use Rattle.ad_dir_model.proofs.AdminCount.{place_within}
use Rattle.ad_needs.proofs.FirstLaws.{placed, unplaced}
use Rattle.ad_needs.proofs.ModifyLaws.{at_its_place, at_no_place}
use Rattle.ad_needs.proofs.item_checks.ordinary_refusal.Goals as goal

pub placed_refusal-requires-clause-attr : goal.placed_refusal-requires-clause-attr
placed_refusal-requires-clause-attr c =
    place_within c.args.dir.now.schema c.args.item.now.attr c.in-Some.attr.0
    (placed c.args.dir.now.schema c.args.item.now.attr c.args.item.now.attr c.in-Some.attr
    (sym c.in-Some.is ∙ c.requires.attr) refl)

pub returns-in-Some : goal.returns-in-Some
returns-in-Some c =
    let at = placed c.args.dir.now.schema c.args.item.now.attr c.args.item.now.attr c.in-Some.attr
    (sym c.in-Some.is ∙ c.requires.attr) refl in
    if_ok c.placed_refusal.result (λ refusal is. is ∙ at_its_place c.args.dir.now c.args.number c.args.items.now
    c.args.item.now c.in-Some.attr.0 at)
    (rw c.as_slice-name.ensures at c.placed_refusal.ensures)

pub returns-in-None : goal.returns-in-None
returns-in-None c =
    at_no_place c.args.dir.now c.args.number c.args.items.now c.args.item.now
    (unplaced c.args.dir.now.schema c.args.item.now.attr c.args.item.now.attr
    (sym c.in-None.is ∙ c.requires.attr) refl)
