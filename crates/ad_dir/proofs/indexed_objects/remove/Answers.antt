use Rattle.std.proofs.Common.{◌∙◌, sym, ap, subst}
use Rattle.std.specs.Option.{option_map, option_and_then, option_copied}
use Rattle.ad_dir_model.specs.Identity.{sid_in}
use Rattle.ad_dir_model.specs.Objects.{sd_at, removed}
use Rattle.ad_dir_objects.specs.Seen.{object_seen}
use Rattle.ad_dir_table.specs.Entry.{objects_in}
use Rattle.ad_dir_table.specs.declared.index.Index.{Index}
use Rattle.ad_dir_table.specs.Indexed.{IsIndexed}
use Rattle.ad_dir_table.proofs.IndexLaws.{removed_indexed, absent_indexed}
use Rattle.ad_dir.proofs.indexed_objects.remove.Goals as goal
use Rattle.ad_dir.proofs.indexed_objects.remove.Goals.{in-Some, in_default}

pub returns-clause-indexed : goal.returns-clause-indexed
returns-clause-indexed c = λ schema sids indexed.
    let os = objects_in c.args.objects.now.entries in
    let after : IsIndexed schema c.match-object.index (removed c.args.number os) = elim c.match-object.branch [
      | in-Some w ↦
          subst (λ (i : Index). IsIndexed schema i (removed c.args.number os)) (sym w.index-is)
          (removed_indexed schema c.args.index.now w.take_out.new.index c.args.number
          (object_seen w.in-Some.object.now (sd_at os c.args.number)) (option_copied w.sid.result) os
          c.requires.rise (sym w.in-Some.ensures)
          (w.sid.ensures schema sids ∙ ap (option_and_then (sid_in schema)) (sym w.in-Some.ensures))
          (w.take_out.ensures (sd_at os c.args.number)) indexed)
      | in_default w ↦
          subst (λ (i : Index). IsIndexed schema i (removed c.args.number os)) (sym w.index-is)
          (absent_indexed schema c.args.index.now c.args.number os
          (sym c.object.ensures ∙ ap (option_map (λ o. object_seen o.now (sd_at os c.args.number)))
          w.in_default.is) indexed)
    ] in
    subst (IsIndexed schema c.match-object.index) (sym c.remove.ensures.removed) after
