use Rattle.std.proofs.Common.{◌≡◌, ℕ, ◌<◌, length, true, sym, subst, ap, ◌∙◌}
use Rattle.ad_schema.specs.Classes.{classes_of}
use Rattle.ad_dir_model.specs.Object.{Object}
use Rattle.ad_dir_model.specs.Objects.{is_live}
use Rattle.ad_dir_model.proofs.Finding.{at_number}
use Rattle.ad_dir_model.proofs.ScratchLaws.{sound_at}
use Rattle.ad_change.proofs.renaming.edits_of.Goals as goal

pub write_edits-requires-clause-live : goal.write_edits-requires-clause-live
write_edits-requires-clause-live c =
    subst (λ (n : ℕ). is_live c.args.dir.now.objects n ≡ true)
    (sym (ap (λ (o : Object). o.number) c.requires.renamed ∙ at_number c.args.dir.now.objects c.args.target
    c.requires.live)) c.requires.live

pub write_edits-requires-clause-class : goal.write_edits-requires-clause-class
write_edits-requires-clause-class c =
    subst (λ (k : ℕ). k < length (classes_of c.args.dir.now.schema))
    (sym (ap (λ (o : Object). o.class) c.requires.renamed))
    (sound_at c.args.dir.now c.requires.sound.each c.args.target c.requires.live).content.class_of_schema

pub put_edits-requires : goal.put_edits-requires
put_edits-requires c =
    subst (λ (n : ℕ). is_live c.args.dir.now.objects n ≡ true)
    (sym (ap (λ (o : Object). o.number) c.requires.renamed ∙ at_number c.args.dir.now.objects c.args.target
    c.requires.live)) c.requires.live
