use Rattle.ad_dir_table.proofs.Describing.{described, given_up}
use Rattle.ad_dir_table.proofs.Done.{length_seen}
use Rattle.ad_dir_table.proofs.PoolLaws.{few_sharers, few_live}
use Rattle.ad_dir_table.proofs.parts.put_sd.Goals as goal

pub put-requires-clause-few : goal.put-requires-clause-few
put-requires-clause-few c =
    let parts = c.args.parts.now in
    few_sharers parts.pool c.is_one.ensures parts.kept.entries c.requires.kept.shared c.requires.kept.normal
    c.args.bytes.now (length_seen parts.pool.live parts.kept.entries _ c.requires.few)

pub put-requires-clause-free : goal.put-requires-clause-free
put-requires-clause-free c =
    let parts = c.args.parts.now in
    few_live parts.pool c.is_one.ensures parts.kept.entries c.requires.kept.shared c.requires.kept.normal
    (length_seen parts.pool.live parts.kept.entries _ c.requires.few)

pub give_back_if-requires : goal.give_back_if-requires
give_back_if-requires c =
    let parts = c.args.parts.now in
    given_up parts.pool.live parts.kept.entries c.requires.kept.keyed c.requires.kept.ordered c.requires.kept.normal
    c.requires.kept.shared c.args.number c.requires.live c.in_ok-id.id c.args.bytes.now c.put.new.pool
    c.requires.normal c.in_ok-id.ensures.ok
    c.set_id-was.result c.set_id-was.new.objects.entries c.set_id-was.ensures.entries c.set_id-was.ensures.was

pub returns-clause-kept : goal.returns-clause-kept
returns-clause-kept c =
    let parts = c.args.parts.now in
    let done = described parts.pool.live parts.kept.entries c.requires.kept.keyed c.requires.kept.ordered
    c.requires.kept.normal c.requires.kept.shared c.args.number c.requires.live c.in_ok-id.id c.args.bytes.now
    c.put.new.pool c.requires.normal c.in_ok-id.ensures.ok c.give_back_if.new.pool
    c.set_id-was.result c.set_id-was.new.objects.entries c.set_id-was.ensures.entries c.set_id-was.ensures.was
    c.give_back_if.ensures.taken c.give_back_if.ensures.none in
    record {
      keyed = done.keyed;
      ordered = c.set_id-was.ensures.ordered;
      normal = done.normal;
      shared = done.shares;
    }

pub returns-clause-ok : goal.returns-clause-ok
returns-clause-ok c =
    let parts = c.args.parts.now in
    (described parts.pool.live parts.kept.entries c.requires.kept.keyed c.requires.kept.ordered
    c.requires.kept.normal c.requires.kept.shared c.args.number c.requires.live c.in_ok-id.id c.args.bytes.now
    c.put.new.pool c.requires.normal c.in_ok-id.ensures.ok c.give_back_if.new.pool
    c.set_id-was.result c.set_id-was.new.objects.entries c.set_id-was.ensures.entries c.set_id-was.ensures.was
    c.give_back_if.ensures.taken c.give_back_if.ensures.none).seen

pub returns-clause-sids : goal.returns-clause-sids
returns-clause-sids c =
    let parts = c.args.parts.now in
    (described parts.pool.live parts.kept.entries c.requires.kept.keyed c.requires.kept.ordered
    c.requires.kept.normal c.requires.kept.shared c.args.number c.requires.live c.in_ok-id.id c.args.bytes.now
    c.put.new.pool c.requires.normal c.in_ok-id.ensures.ok c.give_back_if.new.pool
    c.set_id-was.result c.set_id-was.new.objects.entries c.set_id-was.ensures.entries c.set_id-was.ensures.was
    c.give_back_if.ensures.taken c.give_back_if.ensures.none).sids
