-- What `adsd list` does.
use Rattle.std.specs.Prelude.{◌≡◌, ◌⊎◌, ℕ, List, Option, Some, None, codes, IfSome}
use Rattle.site_io.specs.Disk.{Images}
use Rattle.site_io.specs.Told.{StaysTold}
use Rattle.site_io.specs.declared.site.Site.{Ghosts as SiteGhosts}
use Rattle.ad_dn.specs.Value.{AreRdns}
use Rattle.ad_dir_model.specs.Directory.{Directory}
use Rattle.ad_needs_rules.specs.Requests.{number_of_name}
use Rattle.ad_rows_write.specs.Rows.{IsStoreOf}
use Rattle.ad_dsacls.specs.Listing.{listing}
use Rattle.ad_engine_store.specs.Opening.{Refuses}
use Rattle.ad_engine_store.specs.declared.fault.OpenFault.{OpenFault}
use Rattle.cmd_call.specs.declared.outcome.Outcome.{Outcome}
use Rattle.cmd_call.specs.declared.outcome.Outcome.TheVariants.{Done, NoStore, NoObject, SiteFailed, NoMemory}
use Rattle.cmd_call.specs.Call.{IsTold}
use Rattle.cmd_call.specs.Outcome.{IsOfList}
use Rattle.cmd_call.specs.Store.{Emits, EmitsPart, KeepsSlots, IsSiteHealthy}
use Rattle.cmd_store_open.specs.Opened.{NoDirStore, IsNoStore}
use Rattle.cmd_store_open.specs.Lines.{store_line}

-- the number of the object that has the name of the text; none where no object has it, and where the text is no
-- name's
abbrev pub number_named : Directory → List ℕ → Option ℕ
number_named dir text = number_of_name dir text

abbrev pub no_object_line : List ℕ
no_object_line = codes "no object\n"

-- what is emitted for an object, or for none
abbrev pub text_for : Directory → Option ℕ → List ℕ
text_for dir (Some number) = listing dir number
text_for dir None = no_object_line

abbrev pub list_text : Directory → List ℕ → List ℕ
list_text dir name = text_for dir (number_named dir name)

-- The slots are those of a store of the directory. Since what stands above its root is a name, they are those of no
-- other one.
pub record IsStoreNamed (held : Images) (dir : Directory) : Type 0 where
  pub store : IsStoreOf held dir
  pub suffix : AreRdns dir.meta.suffix

-- the slots are those of a directory with an object of the name, or of one without
abbrev pub HasObject : List ℕ → Images → Type 0
HasObject name held = (dir : Directory) × (number : ℕ) × IsStoreNamed held dir × (number_named dir name ≡ Some number)

abbrev pub HasNoObject : List ℕ → Images → Type 0
HasNoObject name held = (dir : Directory) × IsStoreNamed held dir × (number_named dir name ≡ None)

-- what may be emitted for the slots: what stands in the directory, or why they represent none
abbrev pub IsListText : List ℕ → Images → List ℕ → Type 0
IsListText name held text = ((dir : Directory) × IsStoreNamed held dir × (text ≡ list_text dir name)) ⊎
    ((fault : OpenFault) × Refuses held fault × (text ≡ store_line fault))

module _ {S : Type 0} (site : SiteGhosts S) where
  -- The store represents a directory, an object of it has the name, and its listing was emitted.
  pub record IsListed (name : List ℕ) (old new : S) : Type 0 where
    pub dir : Directory
    pub store : IfSome (site.reads old) (λ held. IsStoreNamed held dir)
    pub number : ℕ
    pub named : number_named dir name ≡ Some number
    pub text : Emits (site.emitted old) (site.emitted new) (listing dir number)

  -- The store represents a directory, no object of it has the name, and the line that says so was emitted.
  pub record IsNoObject (name : List ℕ) (old new : S) : Type 0 where
    pub dir : Directory
    pub store : IfSome (site.reads old) (λ held. IsStoreNamed held dir)
    pub none : number_named dir name ≡ None
    pub line : Emits (site.emitted old) (site.emitted new) no_object_line

  -- The site failed: nothing was emitted, or a prefix of the text for the slots.
  abbrev pub IsPartlyListed : List ℕ → S → S → Type 0
  IsPartlyListed name old new = StaysTold (site.emitted old) (site.emitted new)
      ⊎ ((text : List ℕ) × IfSome (site.reads old) (λ held. IsListText name held text) × EmitsPart (site.emitted old)
      (site.emitted new) text)

  pub record ListDoes (name : List ℕ) (old new : S) (outcome : Outcome) : Type 0 where
    pub done : outcome ≡ Done → IsListed name old new
    pub no_store : outcome ≡ NoStore → IsNoStore site old new
    pub no_object : outcome ≡ NoObject → IsNoObject name old new
    -- an object that is there is never said to be none, and one that isn't is never listed
    pub complete : IsTold (HasObject name) (site.reads old) → outcome ≡ NoObject → ⊥
    pub misses : IsTold (HasNoObject name) (site.reads old) → outcome ≡ Done → ⊥
    -- and it is listed, unless the site fails or memory runs out
    pub lists : IsTold (HasObject name) (site.reads old) → IsSiteHealthy site old new → (outcome ≡ Done)
        ⊎ (outcome ≡ NoMemory)
    -- slots that represent no directory are refused, unless the site fails or memory runs out
    pub refuses : IsTold NoDirStore (site.reads old) → IsSiteHealthy site old new → (outcome ≡ NoStore)
        ⊎ (outcome ≡ NoMemory)
    pub partly : outcome ≡ SiteFailed → IsPartlyListed name old new
    pub quiet : outcome ≡ NoMemory → StaysTold (site.emitted old) (site.emitted new)
    -- no slot is written, whatever comes
    pub slots : KeepsSlots site old new
    pub only : IsOfList outcome

-- ---- steps of the command

abbrev pub outcome_for : Option ℕ → Outcome
outcome_for (Some number) = Done
outcome_for None = NoObject

abbrev pub list_outcome : Directory → List ℕ → Outcome
list_outcome dir name = outcome_for (number_named dir name)
