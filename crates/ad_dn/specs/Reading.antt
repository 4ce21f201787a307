-- The name that a text encodes, read off the text: what `SpellsDn` says, as a function.
use Rattle.std.specs.Prelude.{ℕ, List, Option, Some, option_map, option_and_then}
use Rattle.ad_bytes.specs.Machine.{run}
use Rattle.ad_dn.specs.declared.rdn.Rdn.{Rdn}
use Rattle.ad_dn.specs.declared.rdn.Dn.{Dn}
use Rattle.ad_dn.specs.declared.steps.State.{State}
use Rattle.ad_dn.specs.Steps.{step, start, finished}

abbrev pub name : List Rdn → Dn
name rdns = record { rdns = rdns }

-- the name that was read, where its text may end here
abbrev pub finished_name : State → Option Dn
finished_name s = option_map name (finished s)

unfoldable pub dn_of : List ℕ → Option Dn
dn_of text = option_and_then finished_name (run step (Some start) text)
