use Rattle.std.proofs.Common.{map}
use Rattle.std.proofs.lemmas.Result.{on_ok_weaker}
use Rattle.ad_bytes.specs.Numbers.{SpellsBe}
use Rattle.ad_dir_objects.specs.Seen.{stored_seen}
use Rattle.ad_rows_write.specs.Body.{SpellsList, SpellsStored}
use Rattle.ad_rows_write.proofs.Putting.{puts_mapped, puts_then}
use Rattle.ad_rows_write.proofs.writing.Tuple2AttrIdOneOrManyStoredPart.put.Goals as goal

pub returns : goal.returns
returns c =
    let held = c.args.self.now in
    let old = c.args.into.now.items in
    let mid = c.put4.new.into.items in
    let new = c.put_list.new.into.items in
    on_ok_weaker c.put_list.result (λ values. puts_then (SpellsBe 4) held.0.0
    (SpellsList SpellsStored (map stored_seen held.1)) old mid new c.in_ok-put4.ensures
    (puts_mapped SpellsStored stored_seen c.as_slice.result.now held.1 mid new c.as_slice.ensures values))
    c.put_list.ensures
