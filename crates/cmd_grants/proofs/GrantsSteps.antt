-- `adsd grants`, from what the slots are opened as, from what the input gave and from what was emitted.
use Rattle.std.proofs.Common.{◌≡◌, ◌⊎◌, inl, inr, ℕ, List, [], Option, Some, None, Result, Ok, Err, refl, sym, subst}
use Rattle.std.proofs.Common.{ap, ◌∙◌}
use Rattle.std.specs.Option.{IfSome}
use Rattle.std.proofs.lemmas.Option.{none-some, same_Some}
use Rattle.site_io.specs.Counts.{HasRisen}
use Rattle.site_io.specs.Disk.{Images}
use Rattle.site_io.specs.Told.{BothTold}
use Rattle.site_io.specs.Outside.{OnlyLooks}
use Rattle.site_io.specs.declared.source.Source.{Ghosts as SourceGhosts}
use Rattle.site_io.specs.declared.site.Site.{Ghosts as SiteGhosts}
use Rattle.ad_ldap.specs.declared.requests.Message.{Message}
use Rattle.ad_dir_model.specs.Directory.{Directory}
use Rattle.ad_rows_write.specs.Rows.{IsStoreOf}
use Rattle.ad_rows.proofs.Once.{one_store}
use Rattle.cmd_store_open.specs.EngineWords.{IsOpenedAs}
use Rattle.cmd_store_open.specs.EngineWords.{OpenFault}
use Rattle.cmd_store_open.specs.OpenFaults as slots
use Rattle.ad_ldifmod.specs.declared.fault.GrantFault.{GrantFault}
use Rattle.ad_ldifmod.specs.declared.fault.GrantFault.TheVariants.{Bad, Memory}
use Rattle.cmd_call.specs.Call.{IsTold}
use Rattle.cmd_call.specs.Store.{HasFailed, KeepsSlots, Emits, EmitsPart}
use Rattle.cmd_call.specs.declared.outcome.Outcome.{Outcome}
use Rattle.cmd_call.specs.declared.outcome.Outcome.TheVariants.{Done, NotOfForm, NoCommand, NoStore, NoObject}
use Rattle.cmd_call.specs.declared.outcome.Outcome.TheVariants.{TooMany, SourceFailed, SiteFailed, NoMemory}
use Rattle.cmd_call.proofs.Moments.{told_map, told_meets, told_clash, looks_keep, keeps_on, emits_on, part_on}
use Rattle.cmd_call.proofs.Telling.{unhealthy}
use Rattle.cmd_store_open.specs.Opened.{NoDirStore}
use Rattle.cmd_store_open.specs.Refused.{Refused}
use Rattle.cmd_store_open.proofs.Refusing.{never_with, Ends, refused, failed, stopped, refusal_by, partly_said}
use Rattle.cmd_grants.specs.Lines.{given_by, text_for, outcome_for}
use Rattle.cmd_grants.specs.Given.{Gave, IsTextOf}
use Rattle.cmd_grants.specs.Grants.{GrantsDoes, IsTextFor, IsPartlyGiven}
use Rattle.cmd_grants.specs.Sending.{IsCut}
use Rattle.cmd_grants.specs.Answering.{IsUnread, AnswersIn}

-- ---- the one directory, and the one input

same_dir : (r : Option Images) (a b : Directory) → IsTold (λ held. IsStoreOf held a) r
    → IfSome r (λ held. IsStoreOf held b) → a ≡ b
same_dir r a b told stands = told_meets (λ held. IsStoreOf held a) (λ held. IsStoreOf held b) r
    (λ held of_a of_b. one_store held a b of_a of_b) told stands

stands_clash : (dir : Directory) (r : Option Images) → IfSome r (λ held. IsStoreOf held dir) → IsTold NoDirStore r → ⊥
stands_clash dir r stands none = told_clash NoDirStore (λ held. IsStoreOf held dir) r (λ held no is. no (dir, is))
    none stands

both_map : {A : Type 0} (P Q : A → A → Type 0) (r s : Option A) → ((a b : A) → P a b → Q a b) → BothTold r s P
    → BothTold r s Q
both_map P Q None None by told = tt
both_map P Q (Some a) (Some b) by told = by a b told
both_map P Q None (Some b) by told = absurd told
both_map P Q (Some a) None by told = absurd told

-- what was given is what the input gives
abbrev IsOfInput : Directory → Option (List ℕ) → Option (List ℕ) → Result (List Message) GrantFault → Type 0
IsOfInput dir rest left given = BothTold rest left (λ input behind. given_by dir input ≡ given)

of_input : (dir : Directory) (rest left : Option (List ℕ)) (given : Result (List Message) GrantFault)
    → Gave dir rest left given → IsOfInput dir rest left given
of_input dir rest left (Ok messages) gave =
    both_map (λ input behind. (behind ≡ []) × (given_by dir input ≡ Ok messages))
    (λ input behind. given_by dir input ≡ Ok messages) rest left (λ input behind p. p.1) gave
of_input dir rest left (Err (Bad line kind)) gave = gave
of_input dir rest left (Err Memory) gave = absurd gave

told_as : (dir : Directory) (rest left : Option (List ℕ)) (given : Result (List Message) GrantFault) (input : List ℕ)
    → rest ≡ Some input
    → IsOfInput dir rest left given → given_by dir input ≡ given
told_as dir (Some i) (Some b) given input is told = subst (λ (x : List ℕ). given_by dir x ≡ given)
    (same_Some i input is) told
told_as dir (Some i) None given input is told = absurd told
told_as dir None left given input is told = absurd (none-some input is)

told_text : (dir : Directory) (rest left : Option (List ℕ)) (given : Result (List Message) GrantFault) (text : List ℕ)
    → text ≡ text_for given
    → IsOfInput dir rest left given → IfSome rest (λ input. text ≡ text_for (given_by dir input))
told_text dir None left given text is told = tt
told_text dir (Some i) (Some b) given text is told = is ∙ ap text_for (sym told)
told_text dir (Some i) None given text is told = absurd told

-- an outcome at which a text is emitted to its end or not at all
abbrev IsCutShort : Outcome → Type 0
IsCutShort outcome = (outcome ≡ SiteFailed) ⊎ (outcome ≡ NoMemory)

done_whole : IsCutShort Done → ⊥
done_whole (inl e) = cc
done_whole (inr e) = cc

refused_whole : IsCutShort NotOfForm → ⊥
refused_whole (inl e) = cc
refused_whole (inr e) = cc

store_whole : IsCutShort NoStore → ⊥
store_whole (inl e) = cc
store_whole (inr e) = cc

source_whole : IsCutShort SourceFailed → ⊥
source_whole (inl e) = cc
source_whole (inr e) = cc

-- an outcome that judges no input
not_memory : (NoMemory ≡ Done) ⊎ (NoMemory ≡ NotOfForm) → ⊥
not_memory (inl e) = cc
not_memory (inr e) = cc

not_failed : (SiteFailed ≡ Done) ⊎ (SiteFailed ≡ NotOfForm) → ⊥
not_failed (inl e) = cc
not_failed (inr e) = cc

not_source : (SourceFailed ≡ Done) ⊎ (SourceFailed ≡ NotOfForm) → ⊥
not_source (inl e) = cc
not_source (inr e) = cc

not_store : (NoStore ≡ Done) ⊎ (NoStore ≡ NotOfForm) → ⊥
not_store (inl e) = cc
not_store (inr e) = cc

module _ {I S : Type 0} (source : SourceGhosts I) (site : SiteGhosts S) where
  -- what the command did, and that a failure has its cause
  abbrev pub Answers : I → I → S → S → Outcome → Type 0
  Answers from to old new outcome = GrantsDoes source site from to old new outcome
      × (outcome ≡ SourceFailed → HasRisen (source.faults from) (source.faults to))
      × (outcome ≡ SiteFailed → HasFailed site old new)

  -- memory ran out
  answered_memory : (from to : I) (x z : S) → KeepsSlots site x z → IsPartlyGiven source site from x z
      → Answers from to x z NoMemory
  answered_memory from to x z keeps partly = (
    record {
      done = λ no. absurd cc;
      refused = λ no. absurd cc;
      no_store = λ no. absurd cc;
      exact = λ _ _ _ _ which. absurd (not_memory which);
      complete = λ _ _ _ _ _. inr refl;
      stands = λ _ _. inr refl;
      partly = λ _. partly;
      quiet = λ no. absurd cc;
      slots = keeps;
      only = tt;
    },
    λ no. absurd cc,
    λ no. absurd cc,
  )

  -- the site failed
  answered_failed : (from to : I) (x z : S) → KeepsSlots site x z → HasFailed site x z → IsPartlyGiven source site
      from x z → Answers from to x z SiteFailed
  answered_failed from to x z keeps cause partly = (
    record {
      done = λ no. absurd cc;
      refused = λ no. absurd cc;
      no_store = λ no. absurd cc;
      exact = λ _ _ _ _ which. absurd (not_failed which);
      complete = λ _ _ _ _ healthy. absurd (unhealthy site x z cause healthy.keeps_well);
      stands = λ _ healthy. absurd (unhealthy site x z cause healthy);
      partly = λ _. partly;
      quiet = λ no. absurd cc;
      slots = keeps;
      only = tt;
    },
    λ no. absurd cc,
    λ _. cause,
  )

  -- ---- the store represents a directory

  -- how the command ends is told by any directory of the slots and by the input
  judged : (from to : I) (x : S) (dir : Directory) (given : Result (List Message) GrantFault)
      → IfSome (site.reads x) (λ held. IsStoreOf held dir)
      → Gave dir (source.rest from) (source.rest to) given → (other : Directory) (input : List ℕ)
      → IsTold (λ held. IsStoreOf held other) (site.reads x)
      → source.rest from ≡ Some input → outcome_for given ≡ outcome_for (given_by other input)
  judged from to x dir given stands gave other input told is =
      ap outcome_for (sym (ap (λ (d : Directory). given_by d input) (same_dir (site.reads x) other dir told stands)
      ∙ told_as dir (source.rest from) (source.rest to) given input is
      (of_input dir (source.rest from) (source.rest to) given gave)))

  -- the text was emitted
  given_whole : (from to : I) (x z : S) (dir : Directory) (given : Result (List Message) GrantFault)
      → IfSome (site.reads x) (λ held. IsStoreOf held dir)
      → Gave dir (source.rest from) (source.rest to) given → KeepsSlots site x z
      → Emits (site.emitted x) (site.emitted z) (text_for given)
      → Answers from to x z (outcome_for given)
  given_whole from to x z dir (Ok messages) stands gave keeps text = (
    record {
      done = λ _. record { dir = dir; store = stands; messages = messages; input = gave; frames = text };
      refused = λ no. absurd cc;
      no_store = λ no. absurd cc;
      exact = λ other input told is _. judged from to x dir (Ok messages) stands gave other input told is;
      complete = λ other input told is _. inl (judged from to x dir (Ok messages) stands gave other input told is);
      stands = λ none _. absurd (stands_clash dir (site.reads x) stands none);
      partly = λ cut. absurd (done_whole cut);
      quiet = λ no. absurd cc;
      slots = keeps;
      only = tt;
    },
    λ no. absurd cc,
    λ no. absurd cc,
  )
  given_whole from to x z dir (Err (Bad line kind)) stands gave keeps text = (
    record {
      done = λ no. absurd cc;
      refused = λ _. record { dir = dir; store = stands; line = line; kind = kind; input = gave; text = text };
      no_store = λ no. absurd cc;
      exact = λ other input told is _. judged from to x dir (Err (Bad line kind)) stands gave other input told is;
      complete = λ other input told is _.
          inl (judged from to x dir (Err (Bad line kind)) stands gave other input told is);
      stands = λ none _. absurd (stands_clash dir (site.reads x) stands none);
      partly = λ cut. absurd (refused_whole cut);
      quiet = λ no. absurd cc;
      slots = keeps;
      only = tt;
    },
    λ no. absurd cc,
    λ no. absurd cc,
  )
  given_whole from to x z dir (Err Memory) stands gave keeps text = absurd gave

  -- the text for the input, for slots that represent the directory
  text_stands : (from to : I) (x : S) (dir : Directory) (text : List ℕ) (next : Outcome)
      → IfSome (site.reads x) (λ held. IsStoreOf held dir)
      → IsTextOf dir (source.rest from) (source.rest to) text next
      → IfSome (site.reads x) (λ held. IsTextFor (source.rest from) held text)
  text_stands from to x dir text next stands is =
      told_map (λ held. IsStoreOf held dir) (λ held. IsTextFor (source.rest from) held text) (site.reads x)
      (λ held store. inl (
        dir,
        store,
        told_text dir (source.rest from) (source.rest to) is.given text is.text_is
            (of_input dir (source.rest from) (source.rest to) is.given is.gave),
      )) stands

  -- a part of a text was emitted
  given_part : (from to : I) (x z : S) (outcome : Outcome) → KeepsSlots site x z → IsPartlyGiven source site from x z
      → IsCut site x z outcome → Answers from to x z outcome
  given_part from to x z outcome keeps partly (inl gone) = subst (Answers from to x z) (sym gone.0)
      (answered_failed from to x z keeps (inr gone.1) partly)
  given_part from to x z outcome keeps partly (inr memory) = subst (Answers from to x z) (sym memory)
      (answered_memory from to x z keeps partly)

  given_so : (from to : I) (x z : S) (dir : Directory) (text : List ℕ) (next outcome : Outcome)
      → IfSome (site.reads x) (λ held. IsStoreOf held dir)
      → IsTextOf dir (source.rest from) (source.rest to) text next → KeepsSlots site x z
      → ((outcome ≡ next) × Emits (site.emitted x) (site.emitted z) text)
      ⊎ (EmitsPart (site.emitted x) (site.emitted z) text × IsCut site x z outcome)
      → Answers from to x z outcome
  given_so from to x z dir text next outcome stands is keeps (inl done) = subst (Answers from to x z)
      (sym (done.0 ∙ is.next_is))
      (given_whole from to x z dir is.given stands is.gave keeps
      (subst (Emits (site.emitted x) (site.emitted z)) is.text_is done.1))
  given_so from to x z dir text next outcome stands is keeps (inr cut) =
      given_part from to x z outcome keeps
      (inr (text, text_stands from to x dir text next stands is, cut.0)) cut.1

  -- the input wasn't read to its end, or memory ran out
  unread : (from to : I) (x y : S) (dir : Directory) (outcome : Outcome) → OnlyLooks site x y
      → IfSome (site.reads x) (λ held. IsStoreOf held dir)
      → IsUnread source site from to outcome → Answers from to x y outcome
  unread from to x y dir SourceFailed looks stands gave = (
    record {
      done = λ no. absurd cc;
      refused = λ no. absurd cc;
      no_store = λ no. absurd cc;
      exact = λ _ _ _ _ which. absurd (not_source which);
      complete = λ _ _ _ _ healthy. absurd (healthy.reads_well (gave.source_failed refl));
      stands = λ none _. absurd (stands_clash dir (site.reads x) stands none);
      partly = λ cut. absurd (source_whole cut);
      quiet = λ _. looks.output;
      slots = looks_keep site x y looks;
      only = tt;
    },
    λ _. gave.source_failed refl,
    λ no. absurd cc,
  )
  unread from to x y dir NoMemory looks stands gave = answered_memory from to x y (looks_keep site x y looks)
      (inl looks.output)
  unread from to x y dir Done looks stands gave = absurd gave.only
  unread from to x y dir NotOfForm looks stands gave = absurd gave.only
  unread from to x y dir NoCommand looks stands gave = absurd gave.only
  unread from to x y dir NoStore looks stands gave = absurd gave.only
  unread from to x y dir NoObject looks stands gave = absurd gave.only
  unread from to x y dir TooMany looks stands gave = absurd gave.only
  unread from to x y dir SiteFailed looks stands gave = absurd gave.only

  -- what was emitted since an earlier moment from which on nothing was
  cut_since : (x y z : S) (outcome : Outcome) → OnlyLooks site x y → IsCut site y z outcome → IsCut site x z outcome
  cut_since x y z outcome looks (inl gone) = inl
      (gone.0, subst (λ (k : ℕ). HasRisen k (site.out_faults z)) looks.out_faults gone.1)
  cut_since x y z outcome looks (inr memory) = inr memory

  ended_since : (x y z : S) (text : List ℕ) (next outcome : Outcome) → OnlyLooks site x y
      → ((outcome ≡ next) × Emits (site.emitted y) (site.emitted z) text)
      ⊎ (EmitsPart (site.emitted y) (site.emitted z) text × IsCut site y z outcome)
      → ((outcome ≡ next) × Emits (site.emitted x) (site.emitted z) text)
      ⊎ (EmitsPart (site.emitted x) (site.emitted z) text × IsCut site x z outcome)
  ended_since x y z text next outcome looks (inl done) = inl
      (done.0, emits_on (site.emitted x) (site.emitted y) (site.emitted z) text looks.output done.1)
  ended_since x y z text next outcome looks (inr cut) = inr (
    part_on (site.emitted x) (site.emitted y) (site.emitted z) text looks.output cut.0,
    cut_since x y z outcome looks cut.1,
  )

  pub answered_told : (from to : I) (x y z : S) (dir : Directory) (outcome : Outcome) → OnlyLooks site x y
      → IfSome (site.reads x) (λ held. IsStoreOf held dir)
      → AnswersIn source site dir from to y z outcome → Answers from to x z outcome
  answered_told from to x y z dir outcome looks stands (inl (text, next, is, gave)) =
      given_so from to x z dir text next outcome stands is
      (keeps_on site x y z looks gave.emits.moments gave.emits.slots)
      (ended_since x y z text next outcome looks gave.ended)
  answered_told from to x y z dir outcome looks stands (inr gave) =
      subst (λ (s : S). Answers from to x s outcome) (sym gave.1) (unread from to x y dir outcome looks stands gave.0)

  -- ---- the slots represent no directory

  answered_not : (from : I) (x z : S) (outcome : Outcome) → KeepsSlots site x z → Ends site x z outcome
      → Answers from from x z outcome
  answered_not from x z outcome keeps (refused is none) = subst (Answers from from x z) (sym is) (
    record {
      done = λ no. absurd cc;
      refused = λ no. absurd cc;
      no_store = λ _. (none, refl);
      exact = λ _ _ _ _ which. absurd (not_store which);
      complete = λ dir _ told _ _. absurd
          (never_with (λ held. IsStoreOf held dir) (λ held store. (dir, store)) none.fault (site.reads x) told
          none.store);
      stands = λ _ _. inl refl;
      partly = λ cut. absurd (store_whole cut);
      quiet = λ no. absurd cc;
      slots = keeps;
      only = tt;
    },
    λ no. absurd cc,
    λ no. absurd cc,
  )
  answered_not from x z outcome keeps (failed is risen said) = subst (Answers from from x z) (sym is)
      (answered_failed from from x z keeps risen
      (partly_said site (IsTextFor (source.rest from)) x z (λ held why none. inr (why, none, refl)) said))
  answered_not from x z outcome keeps (stopped is quiet) = subst (Answers from from x z) (sym is)
      (answered_memory from from x z keeps (inl quiet))

  -- no store was opened, for whatever reason
  pub answered_by : (from : I) (x y z : S) (why : OpenFault) (outcome : Outcome) → OnlyLooks site x y
      → IfSome (site.reads x) (λ held. IsOpenedAs held (Err why))
      → (why ≡ slots.Site → HasRisen (site.slot_faults x) (site.slot_faults y)) → Refused site y z why outcome
      → Answers from from x z outcome
  answered_by from x y z why outcome looks opened risen said =
      let refusal = refusal_by site x y z why outcome looks opened risen said in
      answered_not from x z outcome refusal.slots refusal.ends
