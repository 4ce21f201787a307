use Rattle.std.proofs.Common.{List, length, map, sym, subst, ap, ◌∙◌}
use Rattle.std.proofs.lemmas.Bool.{eqb-false}
use Rattle.std.proofs.lemmas.Result.{on_ok_weaker}
use Rattle.ad_dir_objects.specs.Seen.{stored_seen, held_seen}
use Rattle.ad_dir_model.specs.Object.{Stored, Held}
use Rattle.ad_change_values.specs.Items.{with_these}
use Rattle.ad_change_values.specs.Judging.{HoldsNone}
use Rattle.ad_change.proofs.AddLaws.{these_before}
use Rattle.ad_change_values.proofs.HeldLaws.{none_without, these_again}
use Rattle.ad_change.proofs.new_object.put_before.Goals as goal

pub put_stored-requires : goal.put_stored-requires
put_stored-requires c =
    subst (HoldsNone c.args.attr.0) (sym c.take_stored.ensures.left)
    (none_without c.args.attr.0 (map held_seen c.args.held.now.items))

pub returns : goal.returns
returns c =
    let attr = c.args.attr.0 in
    let old : List Held = map held_seen c.args.held.now.items in
    let new : List Stored = map stored_seen c.args.stored in
    on_ok_weaker c.put_stored.result
    (λ e. e ∙ ap (λ (vs : List Held). with_these attr new vs) c.take_stored.ensures.left ∙ these_again attr new old
    c.requires
    ∙ these_before attr c.args.stored old
    (eqb-false (length c.args.stored) 0 (sym c.is_empty.ensures ∙ c.if-is_empty.false)))
    c.put_stored.ensures
