use Rattle.std.proofs.Common.{List, [], map, Option, sym, ap, ◌∙◌}
use Rattle.std.specs.Prelude.{unwrap_or}
use Rattle.ad_dir_objects.specs.declared.object.Stored.{Stored as StoredIn}
use Rattle.ad_dir_objects.specs.Seen.{stored_seen}
use Rattle.ad_change_values.specs.ByAttr.{by_attr}
use Rattle.ad_change_values.proofs.RowLaws.{row_left, row_at}
use Rattle.ad_change_values.proofs.rows.take_pile.Goals as goal

pub returns-in-Some-clause-taken : goal.returns-in-Some-clause-taken
returns-in-Some-clause-taken c =
    ap (λ (o : Option (List StoredIn)). map stored_seen (unwrap_or o [])) (sym c.in-Some.is)
    ∙ row_at c.args.rows.now.entries c.args.attr.0 c.remove.result c.remove.ensures.value

pub returns-in-Some-clause-left : goal.returns-in-Some-clause-left
returns-in-Some-clause-left c = ap by_attr c.remove.ensures.entries ∙ row_left c.args.rows.now.entries c.args.attr.0 0
    c.requires

pub returns-in-None-clause-taken : goal.returns-in-None-clause-taken
returns-in-None-clause-taken c =
    ap (map stored_seen) (c.of.ensures ∙ c.new.ensures)
    ∙ ap (λ (o : Option (List StoredIn)). map stored_seen (unwrap_or o [])) (sym c.in-None.is)
    ∙ row_at c.args.rows.now.entries c.args.attr.0 c.remove.result c.remove.ensures.value

pub returns-in-None-clause-left : goal.returns-in-None-clause-left
returns-in-None-clause-left c = ap by_attr c.remove.ensures.entries ∙ row_left c.args.rows.now.entries c.args.attr.0 0
    c.requires
