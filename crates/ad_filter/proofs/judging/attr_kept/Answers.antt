use Rattle.std.proofs.Common.{Option, sym, subst, ap, ◌∙◌}
use Rattle.std.specs.Prelude.{option_and_then}
use Rattle.std.specs.Ordering.{nat_cmp}
use Rattle.std.specs.BTreeMap.{get}
use Rattle.ad_filter.specs.Filtering.{Readable}
use Rattle.ad_filter.specs.Keeping.{IsKept}
use Rattle.ad_filter.proofs.KeptLaws.{known_by}
use Rattle.ad_filter.proofs.judging.attr_kept.Goals as goal

pub returns-clause-kept : goal.returns-clause-kept
returns-clause-kept g c =
    let named = g.V.Readable.named c.args.view.now in
    let shown = g.V.Readable.shown c.args.view.now in
    subst (λ (r : Option Readable). IsKept (get nat_cmp c.keep.new.kept c.in-Some.attr.0) r)
    (sym (known_by named shown c.args.name.now ∙ ap (option_and_then shown) (sym c.in-Some.ensures)))
    c.in_ok-keep.ensures.kept

pub returns-in_default-clause-kept : goal.returns-in_default-clause-kept
returns-in_default-clause-kept g c =
    let named = g.V.Readable.named c.args.view.now in
    let shown = g.V.Readable.shown c.args.view.now in
    known_by named shown c.args.name.now ∙ ap (option_and_then shown) (sym c.in_default.ensures)
