use Rattle.std.proofs.Common.{◌∙◌}
use Rattle.ad_bytes.specs.Numbers.{be_bytes}
use Rattle.row_store.proofs.AsMade.{eight_over}
use Rattle.row_store.proofs.written.put_count.Goals as goal

pub returns : goal.returns
returns c = eight_over c.args.into.now c.copy_from_slice.new.self (be_bytes 8 c.args.count)
    (c.copy_from_slice.ensures.after ∙ c.number_bytes.ensures)
