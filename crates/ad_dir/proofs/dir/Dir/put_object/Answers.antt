use Rattle.std.proofs.Common.{◌∙◌, ℕ, Bool, List, sym, ap, subst}
use Rattle.ad_sd.specs.SdIn.{sd_in}
use Rattle.ad_sd.specs.Normal.{SpellsNormal}
use Rattle.ad_dir_model.specs.Objects.{put}
use Rattle.ad_dir_objects.specs.Seen.{object_seen}
use Rattle.ad_dir_table.specs.Entry.{objects_in}
use Rattle.ad_dir_links.specs.Counted.{AreCounted}
use Rattle.ad_dir_table.specs.Indexed.{HasOwnKeys}
use Rattle.ad_dir.proofs.Edits.{where_ok, put_edited}
use Rattle.ad_dir.proofs.Few.{few_entries}
use Rattle.ad_dir.proofs.StandingLaws.{are_named}
use Rattle.ad_dir.proofs.WeighingLaws.{either_weighs}
use Rattle.ad_dir.proofs.Changes.{put_standing, own_keys, either_stands}
use Rattle.ad_dir.proofs.dir.Dir.put_object.Goals as goal

pub put-put-requires : goal.put-put-requires
put-put-requires c = record {
  few = few_entries c.self.inside.schema c.self.inside.objects.entries c.self.invariant.standing;
  above = c.requires.may.some;
  sids = c.self.invariant.sids;
  rise = c.self.invariant.standing.rise;
  own = subst (λ (b : List ℕ). HasOwnKeys c.self.inside.schema (objects_in c.self.inside.objects.entries)
      (object_seen c.args.object (sd_in b))) (sym c.as_slice-2.ensures.value)
      (own_keys c.self.inside.schema c.self.inside.objects.entries c.self.inside.queue c.self.inside.meta
      c.args.self.now c.self.view_is (object_seen c.args.object (sd_in c.args.bytes.items)) c.requires.may);
  indexed = c.self.invariant.indexed;
  linked = subst (λ (flags : List Bool). AreCounted flags c.self.inside.links.entries
      (objects_in c.self.inside.objects.entries)) (sym c.as_slice.ensures.value) c.self.invariant.linked;
  normal = subst (λ (b : List ℕ). SpellsNormal (sd_in b) b) (sym c.as_slice-2.ensures.value) c.requires.normal;
  named = are_named c.self.inside.schema (objects_in c.self.inside.objects.entries) c.self.invariant.standing;
  named_too = c.requires.may.fits.content.name.utf8;
}

pub invariant_of-self : goal.invariant_of-self
invariant_of-self c =
    let i = c.self.inside in
    let o = object_seen c.args.object (sd_in c.args.bytes.items) in
    let ok = where_ok c.put-put.result (λ e. e
    ∙ ap (λ (b : List ℕ). put (object_seen c.args.object (sd_in b)) (objects_in i.objects.entries))
    c.as_slice-2.ensures.value) c.put-put.ensures.ok in
    record {
      sids = c.put-put.ensures.sids;
      standing = either_stands c.put-put.result i.schema i.objects.entries c.put-put.new.objects.entries o ok
          c.put-put.ensures.err c.self.invariant.standing
          (put_standing i.schema i.objects.entries i.queue i.meta c.args.self.now c.self.view_is o
          c.self.invariant.standing c.requires.may);
      indexed = c.put-put.ensures.indexed;
      linked = subst (λ (flags : List Bool). AreCounted flags c.put-put.new.links.entries
          (objects_in c.put-put.new.objects.entries)) c.as_slice.ensures.value c.put-put.ensures.linked;
      weighs = either_weighs c.put-put.result i.schema i.objects.entries c.put-put.new.objects.entries o
          c.if_put-self-inside.result c.weight_with-weight.result i.weight ok c.put-put.ensures.err
          c.if_put-self-inside.ensures.ok c.if_put-self-inside.ensures.err c.self.invariant.weighs
          (c.weight_with-weight.ensures (sd_in c.args.bytes.items) c.self.invariant.standing.rise
          c.self.invariant.weighs);
    }

pub returns-clause-ok : goal.returns-clause-ok
returns-clause-ok c =
    let i = c.self.inside in
    where_ok c.put-put.result
    (λ e. put_edited i.schema i.objects.entries i.queue i.meta c.args.self.now c.self.view_is
    (object_seen c.args.object (sd_in c.args.bytes.items)) c.put-put.new.objects.entries
    (e ∙ ap (λ (b : List ℕ). put (object_seen c.args.object (sd_in b)) (objects_in i.objects.entries))
    c.as_slice-2.ensures.value))
    c.put-put.ensures.ok
