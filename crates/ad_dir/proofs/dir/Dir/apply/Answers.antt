use Rattle.std.proofs.Common.{◌∙◌, Bool, List, sym, ap, subst}
use Rattle.ad_dir_objects.specs.declared.edit.Edit.{Edit}
use Rattle.ad_dir_objects.specs.Seen.{edit_seen}
use Rattle.ad_dir_model.specs.Directory.{edited}
use Rattle.ad_dir_table.specs.Entry.{objects_in}
use Rattle.ad_dir_links.specs.Counted.{AreCounted}
use Rattle.ad_dir.specs.Kept.{dir_seen}
use Rattle.ad_dir.specs.Conditions.{May}
use Rattle.ad_dir.specs.Weighing.{Weighs}
use Rattle.ad_dir.proofs.Edits.{remove_edited, queue_edited, meta_edited}
use Rattle.ad_dir.proofs.Changes.{removed_standing}
use Rattle.ad_dir.proofs.StandingLaws.{are_named}
use Rattle.ad_dir_table.proofs.ChildLaws.{lists_rise}
use Rattle.ad_dir.proofs.dir.Dir.apply.Goals as goal

pub returns-in-RemoveObject-clause-ok : goal.returns-in-RemoveObject-clause-ok
returns-in-RemoveObject-clause-ok c =
    let i = c.self.inside in
    remove_edited i.schema i.objects.entries i.queue i.meta c.args.self.now c.self.view_is c.in-RemoveObject.number
    c.remove.new.objects.entries c.remove.ensures.removed
    ∙ ap (λ (e : Edit). edited (edit_seen e) c.args.self.now) (sym c.in-RemoveObject.is)

pub returns-in-PutQueue-clause-ok : goal.returns-in-PutQueue-clause-ok
returns-in-PutQueue-clause-ok c =
    let i = c.self-in-PutQueue.inside in
    ap (λ (queue : _). dir_seen i.schema i.objects.entries queue i.meta) c.of.ensures
    ∙ queue_edited i.schema i.objects.entries i.queue i.meta c.args.self.now c.self-in-PutQueue.view_is
    c.in-PutQueue.entries.items
    ∙ ap (λ (e : Edit). edited (edit_seen e) c.args.self.now) (sym c.in-PutQueue.is)

pub returns-in-PutMeta-clause-ok : goal.returns-in-PutMeta-clause-ok
returns-in-PutMeta-clause-ok c =
    let i = c.self-in-PutMeta.inside in
    meta_edited i.schema i.objects.entries i.queue i.meta c.args.self.now c.self-in-PutMeta.view_is c.in-PutMeta.meta
    ∙ ap (λ (e : Edit). edited (edit_seen e) c.args.self.now) (sym c.in-PutMeta.is)

pub remove-requires : goal.remove-requires
remove-requires c = record {
  named = are_named c.self.inside.schema (objects_in c.self.inside.objects.entries) c.self.invariant.standing;
  rise = c.self.invariant.standing.rise;
  lists = lists_rise (objects_in c.self.inside.objects.entries) c.self.inside.index.children.entries
      c.self.invariant.standing.rise c.self.invariant.indexed.children;
}

pub invariant_of-self : goal.invariant_of-self
invariant_of-self c = record {
  sids = c.remove.ensures.sids c.self.inside.schema c.self.invariant.sids;
  standing = removed_standing c.self.inside.schema c.self.inside.objects.entries c.self.inside.queue
      c.self.inside.meta c.args.self.now c.self.view_is c.in-RemoveObject.number c.remove.new.objects.entries
      c.remove.ensures.removed c.self.invariant.standing
      (subst (λ (e : Edit). May c.args.self.now (edit_seen e)) c.in-RemoveObject.is c.requires.may);
  indexed = c.remove.ensures.indexed c.self.inside.schema c.self.invariant.sids c.self.invariant.indexed;
  linked = subst (λ (flags : List Bool). AreCounted flags c.remove.new.links.entries
      (objects_in c.remove.new.objects.entries)) c.as_slice.ensures.value
      (c.remove.ensures.linked (subst (λ (flags : List Bool). AreCounted flags c.self.inside.links.entries
      (objects_in c.self.inside.objects.entries)) (sym c.as_slice.ensures.value) c.self.invariant.linked));
  weighs = subst (Weighs c.self.inside.schema c.weight_without-weight.result) (sym c.remove.ensures.removed)
      (c.weight_without-weight.ensures c.self.invariant.standing.rise c.self.invariant.weighs);
}
