use Rattle.std.proofs.Common.{List, ◌++◌, ◌∷◌, [], ap, ◌∙◌}
use Rattle.ad_sd.specs.declared.parts.Sd.{Sd}
use Rattle.ad_dir_objects.specs.declared.edit.Edit.{Edit}
use Rattle.ad_dir_objects.specs.declared.edit.Edit.TheVariants as edit
use Rattle.ad_change.proofs.WriteLaws.{put_made}
use Rattle.ad_change.proofs.writing.put_of.Goals as goal

pub returns : goal.returns
returns c = λ (sd : Sd) spelled.
    put_made c.push.new.self c.args.object c.args.bytes sd
    (c.in_ok-push.ensures.ok ∙ ap (λ (es : List Edit). es ++ edit.PutObject c.args.object c.args.bytes ∷ [])
    c.new-edits.ensures) spelled
