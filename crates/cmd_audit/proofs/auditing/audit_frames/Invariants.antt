use Rattle.std.proofs.Common.{◌-◌}
use Rattle.std.specs.Option.{IfSome}
use Rattle.site_io.specs.Outside.{OnlyLooks}
use Rattle.ad_rows_write.specs.Rows.{IsStoreOf}
use Rattle.cmd_audit.proofs.Loop.{IsAuditing}
use Rattle.cmd_audit.proofs.auditing.audit_frames.Given as goal

-- the frames that were run so far, since any earlier moment, and how many more may come
abbrev pub invariant-loop-done : goal.invariant-loop-done
invariant-loop-done g l =
    let s = g.S.Site in
    record {
      since : (old : _) → OnlyLooks s old l.fn.site
          → IfSome (s.reads old) (λ held. IsStoreOf held l.fn.replay.directory)
          → IsAuditing g.I.Source s l.fn.replay.directory l.replay l.fn.source l.source old l.site (1000000 - l.done);
    }
