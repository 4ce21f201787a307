use Rattle.std.proofs.Common.{◌∙◌, ℕ, List, Option, sym, ap, subst}
use Rattle.std.specs.BTreeMap.{insert_entry}
use Rattle.std.specs.Ordering.{nat_cmp}
use Rattle.sd_pool.specs.declared.id.SdId.{SdId}
use Rattle.ad_dir_table.specs.declared.stored_object.StoredObject.{StoredObject}
use Rattle.ad_dir_table.specs.Entry.{HaveTheirSids}
use Rattle.ad_dir_table.specs.Fields.{AllKept, AreKeyed, HasNormal, entries_kept}
use Rattle.ad_dir_table.proofs.Keeping.{Shares, SharesBut, but_live, normal_same, seen_same}
use Rattle.ad_dir_table.proofs.Done.{put_done, undone, shares_but, length_seen}
use Rattle.ad_dir_table.proofs.PoolLaws.{few_sharers, few_live}
use Rattle.ad_dir_table.proofs.parts.put.Goals as goal

pub put-requires-clause-few : goal.put-requires-clause-few
put-requires-clause-few c =
    let parts = c.args.parts.now in
    few_sharers parts.pool c.is_one.ensures parts.kept.entries c.requires.kept.shared c.requires.kept.normal
    c.args.bytes.now (length_seen parts.pool.live parts.kept.entries _ c.requires.few)

pub put-requires-clause-free : goal.put-requires-clause-free
put-requires-clause-free c =
    let parts = c.args.parts.now in
    few_live parts.pool c.is_one.ensures parts.kept.entries c.requires.kept.shared c.requires.kept.normal
    (length_seen parts.pool.live parts.kept.entries _ c.requires.few)

pub give_back_if-requires : goal.give_back_if-requires
give_back_if-requires c =
    let parts = c.args.parts.now in
    let live = c.put.new.pool.live in
    let new : List (ℕ × StoredObject) = insert_entry nat_cmp parts.kept.entries c.of.result.object.number c.of.result in
    but_live live new c.in-Ok.was
    (subst (λ (was : Option SdId). SharesBut live new was) (sym c.in-Ok.ensures.was)
    (shares_but parts.pool.live parts.kept.entries c.requires.kept.keyed c.requires.kept.ordered
    c.requires.kept.normal c.requires.kept.shared c.in_ok-id.id c.args.bytes.now c.args.object c.of.result
    c.put.new.pool c.requires.normal c.in_ok-id.ensures.ok
    c.of.ensures.object c.of.ensures.id))

pub returns-in-Ok-clause-kept : goal.returns-in-Ok-clause-kept
returns-in-Ok-clause-kept c =
    let parts = c.args.parts.now in
    let done = (put_done parts.pool.live parts.kept.entries c.requires.kept.keyed c.requires.kept.ordered
    c.requires.kept.normal c.requires.kept.shared c.in_ok-id.id c.args.bytes.now c.args.object c.of.result
    c.put.new.pool c.requires.normal c.in_ok-id.ensures.ok
    c.of.ensures.object c.of.ensures.id c.give_back_if.new.pool c.in-Ok.was c.put-2.new.objects.entries
    c.in-Ok.ensures.entries c.in-Ok.ensures.was c.give_back_if.ensures.taken c.give_back_if.ensures.none) in
    record {
      keyed = done.keyed;
      ordered = c.in-Ok.ensures.ordered c.requires.kept.ordered;
      normal
          = done.normal;
      shared = done.shares;
    }

pub returns-in-Ok-clause-ok : goal.returns-in-Ok-clause-ok
returns-in-Ok-clause-ok c =
    let parts = c.args.parts.now in
    (put_done parts.pool.live parts.kept.entries c.requires.kept.keyed c.requires.kept.ordered c.requires.kept.normal
    c.requires.kept.shared c.in_ok-id.id c.args.bytes.now c.args.object c.of.result c.put.new.pool
    c.requires.normal c.in_ok-id.ensures.ok
    c.of.ensures.object c.of.ensures.id c.give_back_if.new.pool c.in-Ok.was c.put-2.new.objects.entries
    c.in-Ok.ensures.entries c.in-Ok.ensures.was c.give_back_if.ensures.taken c.give_back_if.ensures.none).seen

pub returns-in-Ok-clause-sids : goal.returns-in-Ok-clause-sids
returns-in-Ok-clause-sids c =
    let parts = c.args.parts.now in
    (put_done parts.pool.live parts.kept.entries c.requires.kept.keyed c.requires.kept.ordered c.requires.kept.normal
    c.requires.kept.shared c.in_ok-id.id c.args.bytes.now c.args.object c.of.result c.put.new.pool
    c.requires.normal c.in_ok-id.ensures.ok
    c.of.ensures.object c.of.ensures.id c.give_back_if.new.pool c.in-Ok.was c.put-2.new.objects.entries
    c.in-Ok.ensures.entries c.in-Ok.ensures.was c.give_back_if.ensures.taken c.give_back_if.ensures.none).sids
    c.args.schema.now c.of.ensures.sid

pub returns-in-Err-clause-kept : goal.returns-in-Err-clause-kept
returns-in-Err-clause-kept c =
    let parts = c.args.parts.now in
    let back = undone parts.pool.live parts.kept.entries c.requires.kept.keyed c.requires.kept.ordered
    c.requires.kept.normal c.requires.kept.shared c.in_ok-id.id c.args.bytes.now c.args.object c.of.result
    c.put.new.pool c.requires.normal c.in_ok-id.ensures.ok
    c.of.ensures.object c.of.ensures.id c.give_back.new.pool.live c.give_back.ensures in
    record {
      keyed = subst AreKeyed (sym c.in-Err.ensures.err) c.requires.kept.keyed;
      ordered = c.in-Err.ensures.ordered c.requires.kept.ordered;
      normal = subst (AllKept (HasNormal c.give_back.new.pool.live)) (sym c.in-Err.ensures.err)
          (normal_same parts.pool.live c.give_back.new.pool.live parts.kept.entries back.same c.requires.kept.normal);
      shared = subst (Shares c.give_back.new.pool.live) (sym c.in-Err.ensures.err) back.shares;
    }

pub returns-in-Err-clause-err : goal.returns-in-Err-clause-err
returns-in-Err-clause-err c =
    let parts = c.args.parts.now in
    let back = undone parts.pool.live parts.kept.entries c.requires.kept.keyed c.requires.kept.ordered
    c.requires.kept.normal c.requires.kept.shared c.in_ok-id.id c.args.bytes.now c.args.object c.of.result
    c.put.new.pool c.requires.normal c.in_ok-id.ensures.ok
    c.of.ensures.object c.of.ensures.id c.give_back.new.pool.live c.give_back.ensures in
    ap (entries_kept c.give_back.new.pool.live) c.in-Err.ensures.err ∙ seen_same parts.pool.live
    c.give_back.new.pool.live parts.kept.entries back.same

pub returns-in-Err-clause-sids : goal.returns-in-Err-clause-sids
returns-in-Err-clause-sids c = λ all.
    let parts = c.args.parts.now in
    let back = undone parts.pool.live parts.kept.entries c.requires.kept.keyed c.requires.kept.ordered
    c.requires.kept.normal c.requires.kept.shared c.in_ok-id.id c.args.bytes.now c.args.object c.of.result
    c.put.new.pool c.requires.normal c.in_ok-id.ensures.ok
    c.of.ensures.object c.of.ensures.id c.give_back.new.pool.live c.give_back.ensures in
    subst (HaveTheirSids c.args.schema.now)
    (sym (ap (entries_kept c.give_back.new.pool.live) c.in-Err.ensures.err ∙ seen_same parts.pool.live
    c.give_back.new.pool.live parts.kept.entries back.same)) all
