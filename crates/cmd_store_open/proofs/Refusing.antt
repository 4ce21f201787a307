-- Slots that were not opened: from why, and from what was emitted.
use Rattle.std.proofs.Common.{◌≡◌, ◌⊎◌, inl, inr, ℕ, List, [], ◌++◌, Option, Some, None, Err, false, refl, sym, subst}
use Rattle.std.specs.Option.{IfSome}
use Rattle.site_io.specs.Counts.{HasRisen}
use Rattle.site_io.specs.Told.{StaysTold}
use Rattle.site_io.specs.Disk.{Images}
use Rattle.site_io.specs.Outside.{OnlyLooks}
use Rattle.site_io.specs.declared.site.Site.{Ghosts as SiteGhosts}
use Rattle.gate_log.proofs.Single.{none_empty}
use Rattle.row_store.specs.Rows.{HasTable}
use Rattle.row_store.specs.Table.{Table}
use Rattle.ad_rows.specs.Refusal.{StandsForNone}
use Rattle.ad_dir_model.specs.Directory.{Directory}
use Rattle.ad_rows_write.specs.Rows.{AreRowsOf, IsStoreOf}
use Rattle.ad_rows.proofs.Once.{one_table, one_store}
use Rattle.ad_engine_store.specs.Opening.{Refuses, is_outside, IsOpenedAs}
use Rattle.ad_engine_store.specs.declared.fault.OpenFault.{OpenFault}
use Rattle.ad_engine_store.specs.declared.fault.OpenFault.TheVariants as fault
use Rattle.cmd_call.specs.declared.outcome.Outcome.{Outcome}
use Rattle.cmd_call.specs.declared.outcome.Outcome.TheVariants.{NoStore, SiteFailed, NoMemory}
use Rattle.cmd_call.specs.Call.{IsTold}
use Rattle.cmd_call.specs.Store.{HasFailed, SaysUnless, EmitsPart, KeepsSlots}
use Rattle.cmd_call.proofs.Moments.{told_clash, told_map, told_meets, looks_keep}
use Rattle.cmd_call.proofs.Telling.{Tells, whole, part, nothing, telling_by}
use Rattle.cmd_store_open.specs.Opened.{IsDirStore, NoDirStore, IsNoStore}
use Rattle.cmd_store_open.specs.Refused.{Refused, RefusedAs}
use Rattle.cmd_store_open.specs.Lines.{store_line}

-- why slots were not opened, where it isn't for a reason outside
pub inside : (r : Option Images) (why : OpenFault) → is_outside why ≡ false
    → IfSome r (λ held. IsOpenedAs held (Err why)) → IfSome r (λ held. Refuses held why)
inside r why is opened = told_map (λ held. IsOpenedAs held (Err why)) (λ held. Refuses held why) r (λ held by. by is)
    opened

-- rows that are refused are those of no directory
no_dir : (held : Images) (table : Table) → HasTable held table → StandsForNone table → IsDirStore held → ⊥
no_dir held table has none is = none is.0
    (subst (AreRowsOf is.0) (one_table held table is.1.table has is.1.has) is.1.rows) is.1.sound

-- slots of a directory are refused for no reason
stored_not : (held : Images) (why : OpenFault) → Refuses held why → IsDirStore held → ⊥
stored_not held fault.Taken refuses is = absurd refuses
stored_not held fault.Empty refuses is = absurd (none_empty held is.1.has.bodies refuses is.1.has.has)
stored_not held fault.Broken refuses is = absurd (refuses.none is.1.table is.1.has)
stored_not held (fault.Row kind number) refuses is = no_dir held refuses.0 refuses.1 refuses.2.0 is
stored_not held (fault.Unsound number) refuses is = no_dir held refuses.0 refuses.1 refuses.2.0 is
stored_not held fault.Site refuses is = absurd refuses
stored_not held fault.Memory refuses is = absurd refuses

pub never_refused : (why : OpenFault) (r : Option Images) → IsTold IsDirStore r → IfSome r (λ held. Refuses held why)
    → ⊥
never_refused why None told refuses = absurd told
never_refused why (Some held) told refuses = stored_not held why refuses told

-- the same where more is known of the directory
pub never_with : (Holds : Images → Type 0) → ((held : Images) → Holds held → IsDirStore held)
    → (why : OpenFault) (r : Option Images) → IsTold Holds r → IfSome r (λ held. Refuses held why) → ⊥
never_with Holds is why None told refuses = absurd told
never_with Holds is why (Some held) told refuses = stored_not held why refuses (is held told)

-- ---- one directory

-- slots that represent a directory are no others
pub stands_clash : (dir : Directory) (r : Option Images) → IfSome r (λ held. IsStoreOf held dir)
    → IsTold NoDirStore r → ⊥
stands_clash dir r stands none = told_clash NoDirStore (λ held. IsStoreOf held dir) r (λ held no is. no (dir, is))
    none stands

-- the one directory
pub same_dir : (r : Option Images) (a b : Directory) → IsTold (λ held. IsStoreOf held a) r
    → IfSome r (λ held. IsStoreOf held b) → a ≡ b
same_dir r a b told stands = told_meets (λ held. IsStoreOf held a) (λ held. IsStoreOf held b) r
    (λ held of_a of_b. one_store held a b of_a of_b) told stands

-- ---- the line of a fault, after a word

-- The line was emitted, or a part of it, or nothing where the site failed before or memory ran out.
pub data LineEnds {S : Type 0} (site : SiteGhosts S) (x y z : S) (line : List ℕ) (why : OpenFault)
    (outcome : Outcome) : Type 0 where
  line_said : is_outside why ≡ false → Tells site x z line NoStore outcome → LineEnds site x y z line why outcome
  site_lost : why ≡ fault.Site → outcome ≡ SiteFailed → z ≡ y → StaysTold (site.emitted x) (site.emitted z)
      → LineEnds site x y z line why outcome
  short : outcome ≡ NoMemory → StaysTold (site.emitted x) (site.emitted z) → LineEnds site x y z line why outcome

pub record LineRefusal {S : Type 0} (site : SiteGhosts S) (x y z : S) (line : List ℕ) (why : OpenFault)
    (outcome : Outcome) : Type 0 where
  pub ends : LineEnds site x y z line why outcome
  pub keeps : KeepsSlots site x z

module _ {S : Type 0} (site : SiteGhosts S) (which : List ℕ) where
  line_by : (x y z : S) (why : OpenFault) (outcome : Outcome) → OnlyLooks site x y → is_outside why ≡ false
      → SaysUnless site y z (which ++ store_line why) NoStore outcome
      → LineRefusal site x y z (which ++ store_line why) why outcome
  line_by x y z why outcome looks within says =
      let telling = telling_by site x y z (which ++ store_line why) NoStore outcome looks says in
      record { ends = line_said within telling.ends; keeps = telling.slots }

  -- for whatever reason
  pub line_refusal : (x y z : S) (why : OpenFault) (outcome : Outcome) → OnlyLooks site x y
      → RefusedAs site which y z why outcome → LineRefusal site x y z (which ++ store_line why) why outcome
  line_refusal x y z fault.Taken outcome looks refused = line_by x y z fault.Taken outcome looks refl refused
  line_refusal x y z fault.Empty outcome looks refused = line_by x y z fault.Empty outcome looks refl refused
  line_refusal x y z fault.Broken outcome looks refused = line_by x y z fault.Broken outcome looks refl refused
  line_refusal x y z (fault.Row kind number) outcome looks refused = line_by x y z (fault.Row kind number) outcome looks
      refl refused
  line_refusal x y z (fault.Unsound number) outcome looks refused = line_by x y z (fault.Unsound number) outcome looks
      refl refused
  line_refusal x y z fault.Site outcome looks refused = record {
    ends = site_lost refl refused.0 refused.1
        (subst (λ (s : S). StaysTold (site.emitted x) (site.emitted s)) (sym refused.1) looks.output);
    keeps = subst (KeepsSlots site x) (sym refused.1) (looks_keep site x y looks);
  }
  line_refusal x y z fault.Memory outcome looks refused = record {
    ends = short refused.0
        (subst (λ (s : S). StaysTold (site.emitted x) (site.emitted s)) (sym refused.1) looks.output);
    keeps = subst (KeepsSlots site x) (sym refused.1) (looks_keep site x y looks);
  }

-- ---- a command over one store

-- a prefix of the line for slots that represent no directory was emitted
abbrev pub SaysPart : {S : Type 0} → SiteGhosts S → S → S → Type 0
SaysPart site x z = (why : OpenFault) × IfSome (site.reads x) (λ held. Refuses held why) × EmitsPart (site.emitted x)
    (site.emitted z) (store_line why)

-- How a command ends that opens no store. No slot is written.
pub data Ends {S : Type 0} (site : SiteGhosts S) (x z : S) (outcome : Outcome) : Type 0 where
  refused : outcome ≡ NoStore → IsNoStore site x z → Ends site x z outcome
  failed : outcome ≡ SiteFailed → HasFailed site x z → StaysTold (site.emitted x) (site.emitted z) ⊎ SaysPart site x z
      → Ends site x z outcome
  stopped : outcome ≡ NoMemory → StaysTold (site.emitted x) (site.emitted z) → Ends site x z outcome

module _ {S : Type 0} (site : SiteGhosts S) where
  pub record Refusal (x z : S) (outcome : Outcome) : Type 0 where
    pub ends : Ends site x z outcome
    pub slots : KeepsSlots site x z

  refusal_ends : (x z : S) (why : OpenFault) (outcome : Outcome) → is_outside why ≡ false
      → IfSome (site.reads x) (λ held. Refuses held why)
      → Tells site x z (store_line why) NoStore outcome → Ends site x z outcome
  refusal_ends x z why outcome within none (whole is line)
      = refused is (record { fault = why; inside = within; store = none; line = line })
  refusal_ends x z why outcome within none (part is risen line) = failed is (inr risen) (inr (why, none, line))
  refusal_ends x z why outcome within none (nothing is quiet) = stopped is quiet

  refusal_as : (x y z : S) (why : OpenFault) (outcome : Outcome)
      → (is_outside why ≡ false → IfSome (site.reads x) (λ held. Refuses held why))
      → (why ≡ fault.Site → HasRisen (site.slot_faults x) (site.slot_faults y))
      → LineEnds site x y z (store_line why) why outcome → Ends site x z outcome
  refusal_as x y z why outcome none risen (line_said within tells) =
      refusal_ends x z why outcome within (none within) tells
  refusal_as x y z why outcome none risen (site_lost is over same quiet) = failed over
      (inl (subst (λ (s : S). HasRisen (site.slot_faults x) (site.slot_faults s)) (sym same) (risen is))) (inl quiet)
  refusal_as x y z why outcome none risen (short is quiet) = stopped is quiet

  pub refusal_by : (x y z : S) (why : OpenFault) (outcome : Outcome) → OnlyLooks site x y
      → IfSome (site.reads x) (λ held. IsOpenedAs held (Err why))
      → (why ≡ fault.Site → HasRisen (site.slot_faults x) (site.slot_faults y)) → Refused site y z why outcome
      → Refusal x z outcome
  refusal_by x y z why outcome looks opened risen said =
      let line = line_refusal site [] x y z why outcome looks said in
      record {
        ends = refusal_as x y z why outcome (λ within. inside (site.reads x) why within opened) risen line.ends;
        slots = line.keeps;
      }

  -- What was emitted of the line is a part of a text that may be emitted for the slots.
  pub partly_said : (IsText : Images → List ℕ → Type 0) (x z : S)
      → ((held : Images) (why : OpenFault) → Refuses held why → IsText held (store_line why))
      → StaysTold (site.emitted x) (site.emitted z) ⊎ SaysPart site x z
      → StaysTold (site.emitted x) (site.emitted z)
      ⊎ ((text : List ℕ) × IfSome (site.reads x) (λ held. IsText held text) × EmitsPart (site.emitted x)
      (site.emitted z) text)
  partly_said IsText x z by (inl quiet) = inl quiet
  partly_said IsText x z by (inr said) = inr (
    store_line said.0,
    told_map (λ held. Refuses held said.0) (λ held. IsText held (store_line said.0)) (site.reads x)
        (λ held is. by held said.0 is) said.1,
    said.2,
  )
