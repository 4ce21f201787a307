use Rattle.std.proofs.Common.{take}
use Rattle.std.specs.Prelude.{◌==◌, ◌&&◌}
use Rattle.ad_ids.specs.SidValue.{contains_sid}
use Rattle.ad_rights.specs.Holding.{listed, Gains}
use Rattle.ad_rights.proofs.holding.note_all.Given as goal

-- those so far are noted
abbrev pub invariant-loop-sid : goal.invariant-loop-sid
invariant-loop-sid l =
    Gains (λ s p. contains_sid (take l.sid-index l.sids) s && (l.place == p)) (listed l.initial.table) (listed l.table)
