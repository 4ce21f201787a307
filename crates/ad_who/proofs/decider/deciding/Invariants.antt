use Rattle.std.proofs.Common.{◌≡◌, ◌+◌, length}
use Rattle.std.specs.Option.{option_copied}
use Rattle.ad_sd.specs.Seen.{seen}
use Rattle.ad_sd.specs.View.{to_come}
use Rattle.ad_access.specs.Holder.{first_holder}
use Rattle.ad_who.specs.Decider.{deciding_from}
use Rattle.ad_who.proofs.decider.deciding.Given as goal

-- none so far decides, and so many they are
abbrev pub invariant-loop-ace : goal.invariant-loop-ace
invariant-loop-ace l =
    (deciding_from 1 (seen l.view).dacl.entries (first_holder l.token) (option_copied l.self_sid) l.owner l.path l.bit
    ≡ deciding_from (l.place + 1) (to_come l.ace-iterator) (first_holder l.token) (option_copied l.self_sid) l.owner
    l.path l.bit)
    × (l.place + length (to_come l.ace-iterator) ≡ length (seen l.view).dacl.entries)
