use Rattle.ad_sd.specs.Seen.{seen}
use Rattle.ad_sd.specs.View.{to_come}
use Rattle.ad_identities.specs.Identities.{is_for}
use Rattle.ad_identities.proofs.Adding.{Together}
use Rattle.ad_identities.proofs.told.take_entries.Given as goal

-- what was taken and what those to come have, is what was there and what all have
abbrev pub invariant-loop-ace : goal.invariant-loop-ace
invariant-loop-ace l = Together is_for l.taken.keys (to_come l.ace-iterator) l.fn.taken.keys
    (seen l.fn.view).dacl.entries
