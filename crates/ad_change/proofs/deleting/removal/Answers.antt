use Rattle.std.proofs.Common.{◌≡◌, ℕ, List, [], ◌∷◌, ◌++◌, true, sym, subst, ap, ◌∙◌}
use Rattle.std.specs.List.{AllByRecursion}
use Rattle.ad_dir_objects.specs.declared.edit.Edit.{Edit}
use Rattle.ad_dir_objects.specs.declared.edit.Edit.TheVariants as edit
use Rattle.ad_dir_model.specs.Objects.{is_live}
use Rattle.ad_change.specs.Removing.{losing_among}
use Rattle.ad_change.proofs.EditLists.{removal_edits_are}
use Rattle.ad_change.proofs.deleting.removal.Goals as goal

pub push_all_unlinking-requires-clause-live : goal.push_all_unlinking-requires-clause-live
push_all_unlinking-requires-clause-live c =
    subst (AllByRecursion (λ (n : ℕ). is_live c.args.dir.now.objects n ≡ true)) (sym c.as_slice.ensures.value)
    c.in_ok-numbers.ensures.live

pub returns : goal.returns
returns c =
    removal_edits_are c.args.dir.now c.args.target c.args.going.now c.as_slice.result.now c.in_ok-staying.field-0
    c.push.new.self c.push_all_unlinking.new.edits
    c.push_removals.new.edits (ap (losing_among c.args.dir.now c.args.target) c.as_slice.ensures.value
    ∙ c.in_ok-numbers.ensures.all)
    (c.in_ok-push.ensures.ok ∙ ap (λ (es : List Edit). es ++ edit.PutQueue c.in_ok-staying.field-0 ∷ [])
    c.new-edits.ensures)
    c.in_ok-staying.ensures c.in_ok-push_all_unlinking.ensures c.in_ok-push_removals.ensures
