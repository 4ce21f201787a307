use Rattle.gate_log.proofs.Outside.{emit_stands}
use Rattle.gate_log.proofs.laws.emit_keeps.Goals as goal

pub returns : goal.returns
returns g c = λ log old new bytes stands told goes emits.
    let s = g.S.Site in
    emit_stands log (s.reads old) (s.reads new) (s.now old) (s.now new) (s.left old) (s.left new) bytes stands told
    goes.later emits
