use Rattle.std.proofs.Common.{[], length, sym, ◌∙◌}
use Rattle.std.proofs.lemmas.List.{append-nil}
use Rattle.ad_value.proofs.FormLaws.{same_second}
use Rattle.ad_value.proofs.forms.sid_in_bytes.Goals as goal

pub returns-in-Err : goal.returns-in-Err
returns-in-Err c = λ sid spelled.
    let read = c.in-Err.ensures.only sid c.args.bytes.now [] spelled (sym (append-nil c.args.bytes.now)) in
    absurd cc

pub returns-else-found-bytes : goal.returns-else-found-bytes
returns-else-found-bytes c = λ sid spelled.
    let read = c.in-Ok.ensures.only sid c.args.bytes.now [] spelled (sym (append-nil c.args.bytes.now)) in
    c.if-found-bytes.false (same_second c.from_bytes.result c.in-Ok.found (sid, length c.args.bytes.now) c.in-Ok.is
    (c.in-Ok.is ∙ read))
