use Rattle.std.proofs.Common.{inl, inr, refl}
use Rattle.cmd_grants.proofs.giving.give_frames.Goals as goal

pub returns-in-Ok : goal.returns-in-Ok
returns-in-Ok g c =
    let sent = c.in-Ok.ensures in
    (sent.0, sent.1, record { ended = inl (refl, sent.2.whole); emits = sent.2.emits })

pub returns-in-Err : goal.returns-in-Err
returns-in-Err g c =
    let sent = c.in-Err.ensures in
    (sent.0, sent.1, record { ended = inr (sent.2.part, sent.2.cut); emits = sent.2.emits })
