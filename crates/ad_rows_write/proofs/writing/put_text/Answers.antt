use Rattle.std.proofs.Common.{◌≡◌, ℕ, List, length}
use Rattle.std.proofs.lemmas.Result.{on_ok_weaker}
use Rattle.ad_bytes.specs.Numbers.{SpellsBe}
use Rattle.ad_rows_write.proofs.Putting.{puts_then}
use Rattle.ad_rows_write.proofs.writing.put_text.Goals as goal

pub returns : goal.returns
returns c =
    on_ok_weaker c.put_bytes.result (λ second. puts_then (SpellsBe 8) (length c.args.bytes.now)
    (λ (text : List ℕ). text ≡ c.args.bytes.now) c.args.into.now.items c.put8.new.into.items
    c.put_bytes.new.into.items (c.in_ok-put8.ensures) second) c.put_bytes.ensures
