-- How a command ends at each fault of opening or making a store.
use Rattle.std.specs.Prelude.{◌≡◌, ℕ, List, [], ◌++◌}
use Rattle.site_io.specs.declared.site.Site.{Ghosts as SiteGhosts}
use Rattle.ad_engine_store.specs.declared.fault.OpenFault.{OpenFault}
use Rattle.ad_engine_store.specs.declared.fault.OpenFault.TheVariants.{Taken, Empty, Broken, Row, Unsound, Site, Memory}
use Rattle.cmd_call.specs.declared.outcome.Outcome.{Outcome}
use Rattle.cmd_call.specs.declared.outcome.Outcome.TheVariants.{NoStore, SiteFailed, NoMemory}
use Rattle.cmd_call.specs.Store.{SaysUnless}
use Rattle.cmd_store_open.specs.Lines.{store_line}

module _ {S : Type 0} (site : SiteGhosts S) where
  -- A word and the line of the fault were emitted, or nothing where memory ran out; and nothing for a fault from
  -- outside.
  abbrev pub RefusedAs : List ℕ → S → S → OpenFault → Outcome → Type 0
  RefusedAs which old new Taken outcome = SaysUnless site old new (which ++ store_line Taken) NoStore outcome
  RefusedAs which old new Empty outcome = SaysUnless site old new (which ++ store_line Empty) NoStore outcome
  RefusedAs which old new Broken outcome = SaysUnless site old new (which ++ store_line Broken) NoStore outcome
  RefusedAs which old new (Row kind number) outcome = SaysUnless site old new (which ++ store_line (Row kind number))
      NoStore outcome
  RefusedAs which old new (Unsound number) outcome = SaysUnless site old new (which ++ store_line (Unsound number))
      NoStore outcome
  RefusedAs which old new Site outcome = (outcome ≡ SiteFailed) × (new ≡ old)
  RefusedAs which old new Memory outcome = (outcome ≡ NoMemory) × (new ≡ old)

  -- the same without a word
  abbrev pub Refused : S → S → OpenFault → Outcome → Type 0
  Refused old new fault outcome = RefusedAs [] old new fault outcome
