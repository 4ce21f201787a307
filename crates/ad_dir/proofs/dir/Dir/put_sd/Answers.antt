use Rattle.std.proofs.Common.{◌≡◌, ◌∙◌, true, sym, ap, subst}
use Rattle.ad_sd.specs.declared.parts.Sd.{Sd}
use Rattle.ad_sd.specs.Normal.{SpellsNormal}
use Rattle.ad_sd.proofs.NormalReader.{spelled_in}
use Rattle.ad_dir_model.specs.Object.{Object}
use Rattle.ad_dir_model.specs.Objects.{object_at, is_live, put}
use Rattle.ad_dir_model.specs.Directory.{Directory, put_object, edited}
use Rattle.ad_dir_table.specs.Entry.{objects_in}
use Rattle.ad_dir_table.specs.Indexed.{IsIndexed}
use Rattle.ad_dir_links.specs.Counted.{AreCounted}
use Rattle.ad_dir.specs.Conditions.{MayPut, with_sd}
use Rattle.ad_dir.specs.Standing.{AreStanding}
use Rattle.ad_dir.specs.Weighing.{Weighs}
use Rattle.ad_dir.proofs.Changes.{put_standing, own_keys}
use Rattle.ad_dir.proofs.Describing.{either_holds, described_indexed, described_counted, described_weighs}
use Rattle.ad_dir.proofs.Edits.{where_ok, put_edited}
use Rattle.ad_dir.proofs.Few.{few_entries}
use Rattle.ad_dir.proofs.dir.Dir.put_sd.Goals as goal

pub put_sd-requires : goal.put_sd-requires
put_sd-requires c = record {
  live = ap (λ (d : Directory). is_live d.objects c.args.number) c.self.view_is ∙ c.requires.live;
  few = few_entries c.self.inside.schema c.self.inside.objects.entries c.self.invariant.standing;
  normal = subst (λ (sd : Sd). SpellsNormal sd c.as_bytes.result.now)
      (sym (spelled_in c.as_bytes.result.now c.args.sd.now c.as_bytes.ensures)) c.as_bytes.ensures;
}

pub invariant_of-self : goal.invariant_of-self
invariant_of-self c =
    let i = c.self.inside in
    let os = objects_in i.objects.entries in
    let o : Object = with_sd c.args.sd.now (object_at os c.args.number) in
    let live : is_live os c.args.number ≡ true
    = ap (λ (d : Directory). is_live d.objects c.args.number) c.self.view_is ∙ c.requires.live in
    let may : MayPut c.args.self.now o
    = subst (λ (d : Directory). MayPut c.args.self.now (with_sd c.args.sd.now (object_at d.objects c.args.number)))
    (sym c.self.view_is) c.requires.may in
    let ok = where_ok c.put_sd.result (λ e. e
    ∙ ap (λ (sd : Sd). put (with_sd sd (object_at os c.args.number)) os)
    (spelled_in c.as_bytes.result.now c.args.sd.now c.as_bytes.ensures)) c.put_sd.ensures.ok in
    record {
      sids = c.put_sd.ensures.sids i.schema c.self.invariant.sids;
      standing = either_holds c.put_sd.result (AreStanding i.schema) i.objects.entries c.put_sd.new.self.entries o ok
          c.put_sd.ensures.err c.self.invariant.standing
          (put_standing i.schema i.objects.entries i.queue i.meta c.args.self.now c.self.view_is o
          c.self.invariant.standing may);
      indexed = either_holds c.put_sd.result (IsIndexed i.schema i.index) i.objects.entries c.put_sd.new.self.entries o
          ok c.put_sd.ensures.err c.self.invariant.indexed
          (described_indexed i.schema os c.args.number c.args.sd.now live i.index c.self.invariant.standing.rise
          (own_keys i.schema i.objects.entries i.queue i.meta c.args.self.now c.self.view_is o may)
          c.self.invariant.indexed);
      linked = either_holds c.put_sd.result (AreCounted i.indexed.items i.links.entries) i.objects.entries
          c.put_sd.new.self.entries o ok c.put_sd.ensures.err c.self.invariant.linked
          (described_counted i.schema os c.args.number c.args.sd.now live i.indexed.items i.links.entries
          c.self.invariant.linked);
      weighs = either_holds c.put_sd.result (Weighs i.schema i.weight) i.objects.entries c.put_sd.new.self.entries o ok
          c.put_sd.ensures.err c.self.invariant.weighs
          (described_weighs i.schema os c.args.number c.args.sd.now live i.weight c.self.invariant.standing.rise
          c.self.invariant.weighs);
    }

pub returns-clause-ok : goal.returns-clause-ok
returns-clause-ok c =
    let i = c.self.inside in
    let os = objects_in i.objects.entries in
    let o : Object = with_sd c.args.sd.now (object_at os c.args.number) in
    where_ok c.put_sd.result
    (λ e. put_edited i.schema i.objects.entries i.queue i.meta c.args.self.now c.self.view_is o
    c.put_sd.new.self.entries
    (e ∙ ap (λ (sd : Sd). put (with_sd sd (object_at os c.args.number)) os)
    (spelled_in c.as_bytes.result.now c.args.sd.now c.as_bytes.ensures))
    ∙ ap (λ (d : Directory). edited (put_object (with_sd c.args.sd.now (object_at d.objects c.args.number)))
    c.args.self.now) c.self.view_is)
    c.put_sd.ensures.ok
