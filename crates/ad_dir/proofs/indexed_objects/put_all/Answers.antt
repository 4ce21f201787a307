use Rattle.std.proofs.Common.{◌∙◌, ◌++◌, List, sym, ap, subst}
use Rattle.ad_sd.specs.declared.parts.Sd.{Sd}
use Rattle.ad_sd.specs.Normal.{SpellsNormal}
use Rattle.ad_sd.proofs.NormalReader.{spelled_in}
use Rattle.ad_dir_objects.specs.Seen.{object_seen, objects_of}
use Rattle.ad_dir_table.specs.Entry.{Entry, objects_in, HaveTheirSids}
use Rattle.ad_dir_table.specs.Indexed.{IsIndexed, HasOwnKeys}
use Rattle.ad_dir.proofs.Loading.{one_more, all_in, few_so_far, rise_so_far, named_so_far, next_above, next_utf8}
use Rattle.ad_dir.proofs.Loading.{next_own}
use Rattle.ad_dir.proofs.indexed_objects.put_all.Goals as goal

pub loop-object-init : goal.loop-object-init
loop-object-init c = (
  tt,
  tt,
  ap (λ (entries : List Entry). objects_in entries ++ objects_of c.into_iter-object-iterator.result.rest.items)
      c.requires.none ∙ ap objects_of c.into_iter-object-iterator.ensures.into_iter_gives.0,
  subst (HaveTheirSids c.args.schema.now) (sym c.requires.none) tt,
  subst (λ (entries : List Entry). IsIndexed c.args.schema.now c.args.index.now (objects_in entries))
      (sym c.requires.none) c.requires.indexed,
)

pub put-requires : goal.put-requires
put-requires c =
    let schema = c.args.schema.now in
    let left = c.loop-object.object-iterator.rest.items in
    let rest = c.next.new.self.rest.items in
    let entries = c.loop-object.all.entries in
    let step = c.in-Some.ensures.steps.0 in
    let so_far = c.loop-object.invariant.2 in
    record {
      few = few_so_far schema c.args.objects.items left entries c.requires.standing so_far;
      above = next_above schema c.args.objects.items left rest c.in-Some.object c.in-Some.sd entries
          c.requires.standing step so_far;
      normal = subst (λ (sd : Sd). SpellsNormal sd c.as_bytes.result.now)
          (sym (spelled_in c.as_bytes.result.now c.in-Some.sd c.as_bytes.ensures)) c.as_bytes.ensures;
      sids = c.loop-object.invariant.3;
      rise = rise_so_far schema c.args.objects.items left rest c.in-Some.object c.in-Some.sd entries
          c.requires.standing step so_far;
      named = named_so_far schema c.args.objects.items left rest c.in-Some.object c.in-Some.sd entries
          c.requires.standing step so_far;
      named_too = next_utf8 schema c.args.objects.items left rest c.in-Some.object c.in-Some.sd entries
          c.requires.standing step so_far;
      own = subst (λ (sd : Sd). HasOwnKeys schema (objects_in entries) (object_seen c.in-Some.object sd))
          (sym (spelled_in c.as_bytes.result.now c.in-Some.sd c.as_bytes.ensures))
          (next_own schema c.args.objects.items left rest c.in-Some.object c.in-Some.sd entries c.requires.standing
          step so_far);
      indexed = c.loop-object.invariant.4;
    }

pub loop-object-preserved : goal.loop-object-preserved
loop-object-preserved c = (
  tt,
  tt,
  one_more c.args.schema.now c.args.objects.items c.loop-object.object-iterator.rest.items c.next.new.self.rest.items
      c.in-Some.object c.in-Some.sd c.as_bytes.result.now c.loop-object.all.entries c.put.new.objects.entries
      c.requires.standing
      c.as_bytes.ensures c.in-Some.ensures.steps.0 c.in_ok-put.ensures.ok c.loop-object.invariant.2,
  c.in_ok-put.ensures.sids,
  c.in_ok-put.ensures.indexed,
)

pub returns-clause-seen : goal.returns-clause-seen
returns-clause-seen c = all_in c.loop-object.object-iterator.rest.items c.loop-object.all.entries
    (objects_of c.args.objects.items) (sym c.loop-object.object-iterator.rest.ok.0 ∙ c.in-None.ensures.steps.0)
    c.loop-object.invariant.2
