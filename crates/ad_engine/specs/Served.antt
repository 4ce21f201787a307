-- What the parts of serving a frame make of an engine and of its store.
use Rattle.std.specs.Prelude.{◌≡◌, List, Option, Result, OnOk, IsErrOf}
use Rattle.site_io.specs.Counts.{HasRisen}
use Rattle.site_io.specs.Outside.{TouchesSlots}
use Rattle.site_io.specs.declared.site.Site.{Ghosts}
use Rattle.ad_ids.specs.declared.token.Token.{Token}
use Rattle.ad_dir_model.specs.Directory.{Directory}
use Rattle.ad_engine.specs.Answer.{Answered}
use Rattle.ad_engine_store.specs.Standing.{Stands}
use Rattle.ad_engine_store.specs.Bound.{IsBounded}
use Rattle.ad_engine_store.specs.Serving.{LeavesOldOrNew, LastsOn}
use Rattle.ad_engine_store.specs.declared.dir_store.DirStore.{DirStore}
use Rattle.ad_engine_store.specs.declared.engine_fault.EngineFault.{EngineFault}
use Rattle.ad_engine_store.specs.declared.engine_fault.EngineFault.TheVariants.{Spent, Site}

-- A call on an engine that is to make this directory and to leave these tokens, in one commit at most, and in none
-- where the directory is the one from before.
pub record Keeps {S T : Type 0} (site : Ghosts S) (dir : Directory) (tokens : List (Option Token))
    (engine changed : DirStore) (old new : S) (outcome : Result T EngineFault) : Type 0 where
  pub directory : OnOk outcome (changed.dir ≡ dir)
  pub tokens_are : OnOk outcome (changed.tokens ≡ tokens)
  pub stands : OnOk outcome (Stands changed (site.reads new) (site.now new) (site.left new))
  pub every_crash : OnOk outcome (LastsOn site engine.dir changed.dir old new)
  pub any_moment : LeavesOldOrNew engine.dir dir (site.reads old) (site.now old) (site.now new) (site.left old)
      (site.left new)
  pub untouched : dir ≡ engine.dir → new ≡ old
  pub bound : OnOk outcome ((dir ≡ engine.dir → ⊥) → IsBounded changed.store (site.reads new))
  pub unspent : changed.spent ≡ engine.spent
  pub faults : IsErrOf outcome Spent → ⊥
  pub outside : TouchesSlots site old new
  pub cause : IsErrOf outcome Site → HasRisen (site.slot_faults old) (site.slot_faults new)

-- the same of an answer
abbrev pub Serves : {S T : Type 0} → Ghosts S → Answered → DirStore → DirStore → S → S → Result T EngineFault → Type 0
Serves site a engine changed old new outcome = Keeps site a.directory a.tokens engine changed old new outcome
