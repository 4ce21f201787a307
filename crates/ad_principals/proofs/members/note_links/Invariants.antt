use Rattle.std.proofs.Common.{take, map}
use Rattle.std.specs.Prelude.{◌==◌, ◌&&◌}
use Rattle.ad_dir_objects.specs.Seen.{stored_seen}
use Rattle.ad_dir_model.specs.Object.{names}
use Rattle.ad_principals.specs.Membership.{listed, Gains}
use Rattle.ad_principals.proofs.members.note_links.Given as goal

-- those that the values so far name
abbrev pub invariant-loop-value : goal.invariant-loop-value
invariant-loop-value l =
    Gains (λ m g. names m (map stored_seen (take l.value-index l.values)) && l.group == g) (listed l.initial.table)
    (listed l.table)
