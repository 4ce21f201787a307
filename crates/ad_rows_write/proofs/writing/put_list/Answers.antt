use Rattle.std.proofs.Common.{length}
use Rattle.std.proofs.lemmas.Result.{on_ok_weaker}
use Rattle.ad_bytes.specs.Numbers.{SpellsBe}
use Rattle.ad_bytes.specs.Reading.{SpellsEach}
use Rattle.ad_rows_write.proofs.Putting.{puts_then}
use Rattle.ad_rows_write.proofs.writing.put_list.Goals as goal

pub returns : goal.returns
returns g c =
    let items = c.args.items.now in
    on_ok_weaker c.put_each.result (puts_then (SpellsBe 8) (length items) (SpellsEach g.T.Part.Spells items)
    c.args.into.now.items c.put8.new.into.items c.put_each.new.into.items c.in_ok-put8.ensures) c.put_each.ensures
