use Rattle.std.proofs.Common.{ℕ, List, [], ◌∷◌, ◌++◌, sym, ap, ◌∙◌}
use Rattle.std.specs.Prelude.{is_some}
use Rattle.ad_dir_objects.specs.declared.edit.Edit.{Edit}
use Rattle.ad_dir_objects.specs.declared.edit.Edit.TheVariants as edit
use Rattle.ad_dir_model.specs.Changes.{new_sid}
use Rattle.ad_change.proofs.AddMay.{new_made}
use Rattle.ad_change.proofs.new_object.new_edits.Goals as goal

pub counted_on-requires-clause-rid : goal.counted_on-requires-clause-rid
counted_on-requires-clause-rid c = λ e. c.requires.rid (sym c.gets_sid-gets.ensures ∙ e)

pub returns : goal.returns
returns c = λ o parent class own seen.
    new_made c.args.dir.now c.args.token.now o c.args.object c.push-2.new.self c.in_ok-bytes.bytes c.in_ok-meta.meta
    c.args.sd.now c.requires.sound
    (c.in_ok-push-2.ensures.ok ∙ ap (λ (es : List Edit). es ++ edit.PutMeta c.in_ok-meta.meta ∷ [])
    (c.in_ok-push.ensures.ok
    ∙ ap (λ (es : List Edit). es ++ edit.PutObject c.args.object c.in_ok-bytes.bytes ∷ []) c.new-edits.ensures))
    c.in_ok-bytes.ensures
    (c.in_ok-meta.ensures (new_sid c.args.dir.now o.class)
    (c.gets_sid-gets.ensures ∙ ap (λ (k : ℕ). is_some (new_sid c.args.dir.now k)) (sym class)))
    parent class own seen
