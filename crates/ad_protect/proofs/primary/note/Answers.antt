use Rattle.std.specs.Prelude.{nat_eq}
use Rattle.indexmap.specs.IndexMap.{get}
use Rattle.ad_protect.proofs.Tables.{put_back}
use Rattle.ad_protect.proofs.primary.note.Goals as goal

pub returns : goal.returns
returns c = λ other.
    put_back c.args.rid other c.args.number (get nat_eq c.args.table.now) (get nat_eq c.take_out-numbers.new.table)
    (get nat_eq c.insert.new.self)
    c.take_out-numbers.result c.push.new.self c.take_out-numbers.ensures.items c.in_ok-push.ensures.items
    (c.take_out-numbers.ensures.others other) (c.in_ok-insert.ensures.updates.0 other)
