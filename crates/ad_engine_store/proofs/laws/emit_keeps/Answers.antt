use Rattle.ad_engine_store.proofs.Keeping.{emit_stands_still}
use Rattle.ad_engine_store.proofs.laws.emit_keeps.Goals as goal

pub returns : goal.returns
returns g c = λ engine old new bytes stands told goes emits.
    let s = g.S.Site in
    emit_stands_still engine (s.reads old) (s.reads new) (s.now old) (s.now new) (s.left old) (s.left new) bytes
    stands told goes.later emits
