use Rattle.std.proofs.Common.{◌∙◌, ◌++◌, ◌∷◌, [], take, map, sym, ap, subst}
use Rattle.std.proofs.lemmas.List.{take_more, map-append}
use Rattle.ad_dir_objects.specs.Seen.{edit_seen}
use Rattle.ad_rows_write.specs.Batch.{AreRowsOfEdits}
use Rattle.ad_rows_write.proofs.edits.batch.Goals as goal

pub loop-edit-preserved : goal.loop-edit-preserved
loop-edit-preserved c =
    let xs = c.args.edits.now in
    let i = c.loop-edit.edit-index in
    let x = c.edit-item.result in
    let longer = sym (map-append edit_seen (take i xs) (x ∷ []))
    ∙ ap (map edit_seen) (ap (λ y. take i xs ++ y ∷ []) c.edit-item.is
    ∙ sym (take_more xs i x c.loop-edit-test.true)) in
    subst (λ l. AreRowsOfEdits l c.note.new.self) longer
    (c.in_ok-note.ensures.noted (map edit_seen (take i xs)) c.loop-edit.invariant)
