use Rattle.ad_sd.specs.SdIn.{sd_in}
use Rattle.ad_dir_table.specs.Entry.{objects_in}
use Rattle.ad_dir.proofs.HolderLaws.{either_counted, same_on_err}
use Rattle.ad_dir.proofs.linking.put.Goals as goal

pub returns-clause-linked : goal.returns-clause-linked
returns-clause-linked c =
    either_counted c.put-put.result c.args.indexed.now c.args.links.now.entries c.count_more.new.links.entries
    c.count_less.new.links.entries c.args.object (sd_in c.args.bytes.now)
    (objects_in c.args.objects.now.entries) (objects_in c.put-put.new.objects.entries)
    c.in_ok-change.change.more.items c.in_ok-change.change.less.items
    c.requires.linked c.in_ok-change.ensures.adds c.in_ok-change.ensures.balanced c.count_less.ensures.ok
    c.count_less.ensures.err c.put-put.ensures.ok
    (same_on_err c.put-put.result _ _ c.put-put.ensures.err)
