use Rattle.std.proofs.Common.{bytes_eq}
use Rattle.ad_causes.proofs.CountLemmas.{is_noted}
use Rattle.ad_causes.proofs.counting.note.Goals as goal

pub returns : goal.returns
returns c = λ other.
    is_noted (bytes_eq c.args.text.now other) c.args.count _ _
    (c.in_ok-insert.ensures.updates.0 (record { ref_ptr = (0, 0); now = other }))
