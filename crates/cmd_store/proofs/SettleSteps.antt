-- `adsd settle`, from what the slots are opened as, what the steps made of them, and what was emitted.
use Rattle.std.proofs.Common.{◌≡◌, ◌∙◌, ◌⊎◌, inl, inr, ⊎_elim, ℕ, zero, suc, ◌^◌, ◌<◌, ◌≤◌, List, [], Option, Some}
use Rattle.std.proofs.Common.{None, Err, false, refl, sym, ap, subst, arith}
use Rattle.std.specs.Option.{IfSome}
use Rattle.std.proofs.lemmas.Bool.{cases_lt}
use Rattle.site_io.specs.Counts.{HasRisen}
use Rattle.site_io.specs.Disk.{Images}
use Rattle.site_io.specs.Outside.{OnlyLooks, StaysKnown, TouchesSlots}
use Rattle.site_io.specs.declared.site.Site.{Ghosts as SiteGhosts}
use Rattle.gate_log.proofs.Outside.{touches_on}
use Rattle.ad_dir_model.specs.Directory.{Directory}
use Rattle.ad_dir_model.specs.Soundness.{IsSound}
use Rattle.ad_dir_model.specs.Steps.{steps, EmptiesAfter}
use Rattle.ad_dir_model.proofs.ScratchLaws.{settled_scratch}
use Rattle.ad_dir_model.proofs.WorkLaws.{empties as steps_found, empties_once, work_bounded}
use Rattle.ad_rows_write.specs.Rows.{IsStoreOf}
use Rattle.ad_rows.proofs.Once.{one_store}
use Rattle.ad_engine_store.specs.Opening.{IsOpenedAs, is_outside}
use Rattle.ad_engine_store.specs.Settling.{StandsAfterSteps, LastsAs, LeavesSteps}
use Rattle.ad_engine_store.specs.declared.fault.OpenFault.{OpenFault}
use Rattle.ad_engine_store.specs.declared.fault.OpenFault.TheVariants as fault
use Rattle.cmd_call.specs.declared.outcome.Outcome.{Outcome}
use Rattle.cmd_call.specs.declared.outcome.Outcome.TheVariants.{Done, SiteFailed, NoMemory}
use Rattle.cmd_call.specs.Call.{IsTold}
use Rattle.cmd_call.specs.Store.{SaysUnless, Emits, EmitsPart, KeepsSlots, Says}
use Rattle.cmd_call.proofs.Moments.{told_clash, told_map, told_on, stays_on, emits_on, part_on, IsLawful, says_nothing}
use Rattle.cmd_call.proofs.Telling.{unhealthy}
use Rattle.cmd_store_open.specs.Opened.{NoDirStore, EachStandsFor, LeavesSynced, AllBegun}
use Rattle.cmd_store_open.specs.Ready.{IsNotOne, IsOpening, IsReady, IsUnready}
use Rattle.cmd_store_open.specs.Refused.{Refused}
use Rattle.cmd_store_open.proofs.Refusing.{never_refused, never_with, inside, Ends, refused, failed, stopped}
use Rattle.cmd_store_open.proofs.Refusing.{refusal_by}
use Rattle.cmd_store_open.proofs.Refusing.{partly_said}
use Rattle.cmd_store_open.proofs.Readying.{each_ready}
use Rattle.cmd_store_open.proofs.Begun.{begun_on, never_synced}
use Rattle.cmd_store.specs.Settle.{IsRecomputed}
use Rattle.cmd_store.specs.Settle.{Settles, IsSettledFrom, IsIdleStore, IsSettleText, steps_line}

module _ {S : Type 0} (site : SiteGhosts S) where
  -- what crashes leave during the call, and from a moment of it on
  abbrev Leave : Directory → S → S → Type 0
  Leave dir x y = LeavesSynced site (λ images out. StandsAfterSteps dir images) x y

  abbrev Behind : Directory → ℕ → S → Type 0
  Behind dir synced y = (t : ℕ) (images : Images) (out : List ℕ) → synced ≤ t → site.left y t images out
      → StandsAfterSteps dir images

  -- The slots were opened as those of the directory, they are synced from a moment on, and so far nothing was
  -- emitted.
  pub record IsOpen (dir : Directory) (synced : ℕ) (x y : S) : Type 0 where
    pub store : IfSome (site.reads x) (λ held. IsStoreOf held dir)
    pub touches : TouchesSlots site x y
    pub begun : AllBegun site synced x y
    pub leave : IfSome (site.reads x) (λ held. Behind dir synced y)
    pub idle : dir.pending ≡ [] → IsTold IsNotOne (site.reads x) → KeepsSlots site x y

  -- Nothing is pending any more after so many steps.
  pub record IsMade (dir : Directory) (n : ℕ) (x y : S) : Type 0 where
    pub synced : ℕ
    pub so_far : IsOpen dir synced x y
    pub come : synced ≤ site.now y
    pub empties : EmptiesAfter n dir
    pub sound : IsSound dir
    pub sound_then : IsSound (steps n dir)
    pub settled : IfSome (site.reads y) (λ held. IsStoreOf held (steps n dir))
    pub lasts : IfSome (site.reads x) (λ held. EachStandsFor site (steps n dir) y)

  -- ---- the slots as they are opened, and the steps

  no_step : (dir : Directory) (images : Images) → IsStoreOf images dir → StandsAfterSteps dir images
  unfolding steps
  no_step dir images is = (0, is)

  -- the slots were opened, and no step was made
  pub open_none : (dir : Directory) (synced : ℕ) (x y : S) → IsOpening site dir synced x y → IsOpen dir synced x y
  open_none dir synced x y opening = record {
    store = opening.store;
    touches = opening.touches;
    begun = opening.begun;
    leave = told_map _ _ (site.reads x) (λ held by t images out ge left. no_step dir images (by t images out ge left))
        opening.lasts;
    idle = λ _. opening.kept;
  }

  known_both : (P Q R : Type 0) (r0 r1 : Option Images) → StaysKnown r0 r1 → (P → Q → R) → IfSome r0 (λ held. P)
      → IfSome r1 (λ held. Q) → IfSome r0 (λ held. R)
  known_both P Q R None None known f p q = tt
  known_both P Q R (Some a) (Some b) known f p q = f p q
  known_both P Q R None (Some b) known f p q = absurd known
  known_both P Q R (Some a) None known f p q = absurd known

  -- steps were made, of which something is said
  pub open_on : (dir : Directory) (x y z : S) → (ready : IsReady site dir x y) → (dir.pending ≡ [] → ⊥)
      → TouchesSlots site y z
      → LeavesSteps dir (site.reads y) (site.now y) (site.now z) (site.left y) (site.left z) → IsOpen dir ready.synced
      x z
  open_on dir x y z ready some touches leaves = record {
    store = ready.opening.store;
    touches = touches_on site x y z ready.opening.touches touches;
    begun = begun_on site x y z ready.synced ready.come touches.moments ready.opening.begun;
    leave = known_both _ _ _ (site.reads x) (site.reads y) ready.opening.touches.known
        (λ all by t images out ge left. ⊎_elim
        (λ lt. no_step dir images (all t images out ge ((touches.moments.earlier t images out lt).0 left)))
        (λ later. ⊎_elim (λ began. no_step dir images (all (site.now y) images began.0 ready.come began.1))
        (λ stands. stands) (by.each t images out later left))
        (cases_lt t (site.now y)))
        ready.opening.lasts leaves;
    idle = λ none. absurd (some none);
  }

  no_more : (dir : Directory) → dir.pending ≡ [] → EmptiesAfter 0 dir
  unfolding steps
  no_more dir none = record { empty = none; not_before = λ m less _. absurd (omega (arith, less)) }

  -- no step was needed
  pub made_none : (dir : Directory) (x y : S) → IsReady site dir x y → IsSound dir
      → IfSome (site.reads y) (λ held. IsStoreOf held dir) → dir.pending ≡ [] → IsMade dir 0 x y
  unfolding steps
  made_none dir x y ready sound stands none = record {
    synced = ready.synced;
    so_far = open_none dir ready.synced x y ready.opening;
    come = ready.come;
    empties = no_more dir none;
    sound = sound;
    sound_then = sound;
    settled = stands;
    lasts = each_ready site dir x y ready;
  }

  not_none : (dir : Directory) (n : ℕ) → EmptiesAfter n dir → (dir.pending ≡ [] → ⊥) → 0 < n
  unfolding steps
  not_none dir zero empties some = absurd (some empties.empty)
  not_none dir (suc n) empties some = omega arith

  known_back : (P : Type 0) (r0 r1 : Option Images) → StaysKnown r0 r1 → IfSome r1 (λ held. P) → IfSome r0 (λ held. P)
  known_back P None None known p = tt
  known_back P (Some a) (Some b) known p = p
  known_back P None (Some b) known p = absurd known
  known_back P (Some a) None known p = absurd known

  -- steps were made
  pub made_some : (dir new : Directory) (n : ℕ) (x y z : S) → IsReady site dir x y → IsSound dir → IsSound new
      → (dir.pending ≡ [] → ⊥)
      → EmptiesAfter n dir → new ≡ steps n dir → IfSome (site.reads z) (λ held. IsStoreOf held new)
      → (0 < n → LastsAs site new y z) → TouchesSlots site y z
      → LeavesSteps dir (site.reads y) (site.now y) (site.now z) (site.left y) (site.left z) → IsMade dir n x z
  made_some dir new n x y z ready sound sound_then some empties stepped stands lasts touches leaves = record {
    synced = ready.synced;
    so_far = open_on dir x y z ready some touches leaves;
    come = omega (arith, ready.come, touches.moments.later);
    empties = empties;
    sound = sound;
    sound_then = subst IsSound stepped sound_then;
    settled = subst (λ (d : Directory). IfSome (site.reads z) (λ held. IsStoreOf held d)) stepped stands;
    lasts = subst (λ (d : Directory). IfSome (site.reads x) (λ held. EachStandsFor site d z)) stepped
        (known_back (EachStandsFor site new z) (site.reads x) (site.reads y) ready.opening.touches.known
        (lasts (not_none dir n empties some)));
  }

  -- ---- what holds then

  few_steps : (dir : Directory) (n : ℕ) → IsSound dir → EmptiesAfter n dir → n < 2 ^ 24
  few_steps dir n sound empties_then =
      let found = steps_found dir sound in
      let same : n ≡ found.after = empties_once dir n found.after empties_then found.empties in
      omega (arith, same, found.within, work_bounded dir sound)

  recomputed_then : (dir : Directory) (n : ℕ) → IsSound (steps n dir) → EmptiesAfter n dir → IsRecomputed (steps n dir)
  recomputed_then dir n sound empties_then = λ none number live. settled_scratch (steps n dir) sound none number live

  -- ---- one directory

  idle_is : (dir : Directory) (r : Option Images) → IfSome r (λ held. IsStoreOf held dir) → IsTold IsIdleStore r
      → dir.pending ≡ []
  idle_is dir None store told = absurd told
  idle_is dir (Some held) store told = ap (λ (d : Directory). d.pending) (one_store held dir told.0 store told.1)
      ∙ told.2

  new_is : (r : Option Images) → IsTold IsIdleStore r → IsTold IsNotOne r
  new_is None told = absurd told
  new_is (Some held) told = told.3

  same_leave : (y : S) (synced : ℕ) (dir other : Directory) (r : Option Images) → IfSome r (λ held. IsStoreOf held dir)
      → IsTold (λ held. IsStoreOf held other) r → IfSome r (λ held. Behind dir synced y) → Behind other synced y
  same_leave y synced dir other None store told leave = absurd told
  same_leave y synced dir other (Some held) store told leave = subst (λ (d : Directory). Behind d synced y)
      (one_store held dir other store told) leave

  leaves_of : (x y : S) (synced : ℕ) (dir : Directory) → AllBegun site synced x y
      → IfSome (site.reads x) (λ held. IsStoreOf held dir)
      → IfSome (site.reads x) (λ held. Behind dir synced y) → (other : Directory)
      → IsTold (λ held. IsStoreOf held other) (site.reads x) → Leave other x y
  leaves_of x y synced dir begun store leave other told = record {
    synced = synced;
    before = begun;
    behind = same_leave y synced dir other (site.reads x) store told leave;
  }

  -- ---- nothing was emitted

  no_dir : (dir : Directory) (x : S) → IfSome (site.reads x) (λ held. IsStoreOf held dir)
      → IsTold NoDirStore (site.reads x) → ⊥
  no_dir dir x store none = told_clash NoDirStore (λ held. IsStoreOf held dir) (site.reads x)
      (λ held no is. no (dir, is)) none store

  pub settled_failed : (dir : Directory) (synced : ℕ) (x y : S) → IsOpen dir synced x y
      → HasRisen (site.slot_faults x) (site.slot_faults y)
      → Settles site x y SiteFailed
  settled_failed dir synced x y opens risen = (
    record {
      done = λ no. absurd cc;
      no_store = λ no. absurd cc;
      complete = λ _ healthy. absurd (healthy.slots risen);
      refuses = λ none _. absurd (no_dir dir x opens.store none);
      partly = λ _. inl opens.touches.output;
      quiet = λ no. absurd cc;
      unwritten = λ no. absurd cc;
      none = λ none. absurd (no_dir dir x opens.store none);
      idle = λ is. opens.idle (idle_is dir (site.reads x) opens.store is) (new_is (site.reads x) is);
      any_moment = leaves_of x y synced dir opens.begun opens.store opens.leave;
      only = tt;
    },
    λ _. inl risen,
  )

  pub settled_memory : (dir : Directory) (synced : ℕ) (x y : S) → IsOpen dir synced x y → Settles site x y NoMemory
  settled_memory dir synced x y opens = (
    record {
      done = λ no. absurd cc;
      no_store = λ no. absurd cc;
      complete = λ _ _. inr refl;
      refuses = λ none _. absurd (no_dir dir x opens.store none);
      partly = λ no. absurd cc;
      quiet = λ _. opens.touches.output;
      unwritten = λ no. absurd cc;
      none = λ none. absurd (no_dir dir x opens.store none);
      idle = λ is. opens.idle (idle_is dir (site.reads x) opens.store is) (new_is (site.reads x) is);
      any_moment = leaves_of x y synced dir opens.begun opens.store opens.leave;
      only = tt;
    },
    λ no. absurd cc,
  )

  -- the store wasn't made ready
  pub settled_unready : (dir : Directory) (x y : S) (outcome : Outcome) → IsUnready site dir x y outcome
      → Settles site x y outcome
  settled_unready dir x y outcome unready =
      let opens = open_none dir unready.synced x y unready.opening in
      ⊎_elim
      (λ is. subst (Settles site x y) (sym is) (settled_failed dir unready.synced x y opens (unready.cause is)))
      (λ is. subst (Settles site x y) (sym is) (settled_memory dir unready.synced x y opens))
      unready.only

  -- ---- their number was emitted

  -- what crashes leave after the emit is what they left before it
  leave_said : (dir : Directory) (n synced : ℕ) (y z : S) (then outcome : Outcome) → Says site y z (steps_line n)
      then outcome
      → EachStandsFor site (steps n dir) y → Behind dir synced y → Behind dir synced z
  leave_said dir n synced y z then outcome says each leave t images out ge left = ⊎_elim
      (λ lt. leave t images out ge ((says.moments.earlier t images out lt).0 left))
      (λ later. let so_far = says.images t images out later left in (n, each images so_far.0 so_far.2))
      (cases_lt t (site.now y))

  two_told : (P Q R : Images → Type 0) (r : Option Images) → ((held : Images) → P held → Q held → R held) → IfSome r P
      → IfSome r Q → IfSome r R
  two_told P Q R None f p q = tt
  two_told P Q R (Some held) f p q = f held p q

  -- the slots are kept by the steps, and so by the emit
  keeps_behind : (n : ℕ) (x y z : S) (then outcome : Outcome) → site.now x ≤ site.now y → Says site y z (steps_line n)
      then outcome → KeepsSlots site x y → KeepsSlots site x z
  keeps_behind n x y z then outcome later says keeps = record {
    held = stays_on (site.reads x) (site.reads y) (site.reads z) keeps.held says.held;
    images = λ t images out le left. ⊎_elim
        (λ lt. keeps.images t images out le ((says.moments.earlier t images out lt).0 left))
        (λ ge. let so_far = says.images t images out ge left in keeps.images (site.now y) images so_far.0 later
        so_far.2)
        (cases_lt t (site.now y));
  }

  open_said : (dir : Directory) (n : ℕ) (x y z : S) (then outcome : Outcome) → IsMade dir n x y
      → Says site y z (steps_line n) then outcome
      → ((other : Directory) → IsTold (λ held. IsStoreOf held other) (site.reads x) → Leave other x z)
      × (dir.pending ≡ [] → IsTold IsNotOne (site.reads x) → KeepsSlots site x z)
  open_said dir n x y z then outcome made says =
      let later = made.so_far.touches.moments.later in (
        leaves_of x z made.synced dir (begun_on site x y z made.synced made.come says.moments made.so_far.begun)
            made.so_far.store
            (two_told _ _ _ (site.reads x) (λ held each leave. leave_said dir n made.synced y z
            then outcome says each leave) made.lasts made.so_far.leave),
        λ none kept. keeps_behind n x y z then outcome later says (made.so_far.idle none kept),
      )

  crash_said : IsLawful site → (dir : Directory) (n : ℕ) (x y z : S) (then outcome : Outcome) → IsMade dir n x y
      → Says site y z (steps_line n) then outcome
      → EachStandsFor site (steps n dir) y → (r : Option (List ℕ)) → site.emitted x ≡ r
      → IfSome r (λ said. (t : ℕ) (images : Images) (out : List ℕ) → site.now x ≤ t → site.left z t images out
      → (out ≡ said) ⊎ IsStoreOf images (steps n dir))
  crash_said law dir n x y z then outcome made says each None is = tt
  crash_said law dir n x y z then outcome made says each (Some said) is = λ t images out le left. ⊎_elim
      (λ lt. inl (says_nothing site law x y said made.so_far.touches.quiet is t images out le
      ((says.moments.earlier t images out lt).0 left)))
      (λ ge. let so_far = says.images t images out ge left in inr (each images so_far.0 so_far.2))
      (cases_lt t (site.now y))

  settled_from : IsLawful site → (dir : Directory) (n : ℕ) (x y z : S) (then outcome : Outcome) → IsMade dir n x y
      → Says site y z (steps_line n) then outcome
      → Emits (site.emitted y) (site.emitted z) (steps_line n) → IsSettledFrom site dir x z
  settled_from law dir n x y z then outcome made says line = record {
    n = n;
    empties = made.empties;
    few = few_steps dir n made.sound made.empties;
    recomputed = recomputed_then dir n made.sound_then made.empties;
    line = emits_on (site.emitted x) (site.emitted y) (site.emitted z) (steps_line n) made.so_far.touches.output line;
    settled = told_on (λ held. IsStoreOf held (steps n dir)) (site.reads y) (site.reads z) says.held made.settled;
    lasts = told_map _ _ (site.reads x) (λ held each images out left. let so_far = says.images (site.now z) images out
        says.moments.later left in
        each images so_far.0 so_far.2) made.lasts;
    every_crash = told_map _ _ (site.reads x)
        (λ held each. crash_said law dir n x y z then outcome made says each (site.emitted x) refl) made.lasts;
  }

  said_done : IsLawful site → (dir : Directory) (n : ℕ) (x y z : S) (then outcome : Outcome) → IsMade dir n x y
      → Says site y z (steps_line n) then outcome
      → Emits (site.emitted y) (site.emitted z) (steps_line n) → Settles site x z Done
  said_done law dir n x y z then outcome made says line =
      let store = made.so_far.store in
      let behind = open_said dir n x y z then outcome made says in (
        record {
          done = λ _. (dir, store, settled_from law dir n x y z then outcome made says line);
          no_store = λ no. absurd cc;
          complete = λ _ _. inl refl;
          refuses = λ none _. absurd (no_dir dir x store none);
          partly = λ no. absurd cc;
          quiet = λ no. absurd cc;
          unwritten = λ no. absurd cc;
          none = λ none. absurd (no_dir dir x store none);
          idle = λ is. behind.1 (idle_is dir (site.reads x) store is) (new_is (site.reads x) is);
          any_moment = behind.0;
          only = tt;
        },
        λ no. absurd cc,
      )

  said_in_part : (dir : Directory) (n : ℕ) (x y z : S) (then outcome : Outcome) → IsMade dir n x y
      → Says site y z (steps_line n) then outcome
      → EmitsPart (site.emitted y) (site.emitted z) (steps_line n) → HasRisen (site.out_faults y) (site.out_faults z)
      → Settles site x z SiteFailed
  said_in_part dir n x y z then outcome made says part risen =
      let store = made.so_far.store in
      let behind = open_said dir n x y z then outcome made says in
      let here : HasRisen (site.out_faults x) (site.out_faults z) = subst (λ k. HasRisen k (site.out_faults z))
      made.so_far.touches.out_faults risen in (
        record {
          done = λ no. absurd cc;
          no_store = λ no. absurd cc;
          complete = λ _ healthy. absurd (healthy.output here);
          refuses = λ none _. absurd (no_dir dir x store none);
          partly = λ _. inr (
            steps_line n,
            told_map _ _ (site.reads x) (λ held is. inl (dir, n, is, made.empties, refl)) store,
            part_on (site.emitted x) (site.emitted y) (site.emitted z) (steps_line n) made.so_far.touches.output part,
          );
          quiet = λ no. absurd cc;
          unwritten = λ no. absurd cc;
          none = λ none. absurd (no_dir dir x store none);
          idle = λ is. behind.1 (idle_is dir (site.reads x) store is) (new_is (site.reads x) is);
          any_moment = behind.0;
          only = tt;
        },
        λ _. inr here,
      )

  pub settled_told : IsLawful site → (dir : Directory) (n : ℕ) (x y z : S) (outcome : Outcome) → IsMade dir n x y
      → SaysUnless site y z (steps_line n) Done outcome
      → Settles site x z outcome
  settled_told law dir n x y z outcome made (inl memory) =
      subst (Settles site x z) (sym memory.0)
      (subst (λ (s : S). Settles site x s NoMemory) (sym memory.1)
      (settled_memory dir made.synced x y made.so_far))
  settled_told law dir n x y z outcome made (inr says) = ⊎_elim
      (λ done. subst (Settles site x z) (sym done.0) (said_done law dir n x y z Done outcome made says done.1))
      (λ cut. subst (Settles site x z) (sym cut.0) (said_in_part dir n x y z Done outcome made says cut.1 cut.2))
      says.ended

  -- ---- no store was opened

  -- slots of a directory are refused for a reason outside alone, and then nothing is emitted
  begun_none : (x z : S) (why : OpenFault) → is_outside why ≡ false
      → IfSome (site.reads x) (λ held. IsOpenedAs held (Err why))
      → (dir : Directory) → IsTold (λ held. IsStoreOf held dir) (site.reads x) → Leave dir x z
  begun_none x z why within opened dir told =
      absurd (never_with (λ held. IsStoreOf held dir) (λ held is. (dir, is)) why (site.reads x) told
      (inside (site.reads x) why within opened))

  begun_outside : IsLawful site → (x y z : S) → OnlyLooks site x y → z ≡ y → (dir : Directory) → Leave dir x z
  begun_outside law x y z looks same dir =
      subst (Leave dir x) (sym same) (never_synced site law (λ images out. StandsAfterSteps dir images) x y looks)

  begun_by : IsLawful site → (x y z : S) (why : OpenFault) (outcome : Outcome) → OnlyLooks site x y
      → IfSome (site.reads x) (λ held. IsOpenedAs held (Err why))
      → Refused site y z why outcome → (dir : Directory) → IsTold (λ held. IsStoreOf held dir) (site.reads x)
      → Leave dir x z
  begun_by law x y z fault.Taken outcome looks opened said dir told = begun_none x z fault.Taken refl opened dir told
  begun_by law x y z fault.Empty outcome looks opened said dir told = begun_none x z fault.Empty refl opened dir told
  begun_by law x y z fault.Broken outcome looks opened said dir told = begun_none x z fault.Broken refl opened dir told
  begun_by law x y z (fault.Row kind number) outcome looks opened said dir told
      = begun_none x z (fault.Row kind number) refl opened dir told
  begun_by law x y z (fault.Unsound number) outcome looks opened said dir told = begun_none x z (fault.Unsound number)
      refl opened dir told
  begun_by law x y z fault.Site outcome looks opened said dir told = begun_outside law x y z looks said.1 dir
  begun_by law x y z fault.Memory outcome looks opened said dir told = begun_outside law x y z looks said.1 dir

  ended_by : (x z : S) (outcome : Outcome) → KeepsSlots site x z
      → ((dir : Directory) → IsTold (λ held. IsStoreOf held dir) (site.reads x) → Leave dir x z)
      → Ends site x z outcome → Settles site x z outcome
  ended_by x z outcome keeps begun (refused is none) = subst (Settles site x z) (sym is) (
    record {
      done = λ no. absurd cc;
      no_store = λ _. none;
      complete = λ stands _. absurd (never_refused none.fault (site.reads x) stands none.store);
      refuses = λ _ _. inl refl;
      partly = λ no. absurd cc;
      quiet = λ no. absurd cc;
      unwritten = λ _. keeps;
      none = λ _. keeps;
      idle = λ _. keeps;
      any_moment = begun;
      only = tt;
    },
    λ no. absurd cc,
  )
  ended_by x z outcome keeps begun (failed is risen said) = subst (Settles site x z) (sym is) (
    record {
      done = λ no. absurd cc;
      no_store = λ no. absurd cc;
      complete = λ _ healthy. absurd (unhealthy site x z risen healthy);
      refuses = λ _ healthy. absurd (unhealthy site x z risen healthy);
      partly = λ _. partly_said site IsSettleText x z (λ held why none. inr (why, none, refl)) said;
      quiet = λ no. absurd cc;
      unwritten = λ _. keeps;
      none = λ _. keeps;
      idle = λ _. keeps;
      any_moment = begun;
      only = tt;
    },
    λ _. risen,
  )
  ended_by x z outcome keeps begun (stopped is quiet) = subst (Settles site x z) (sym is) (
    record {
      done = λ no. absurd cc;
      no_store = λ no. absurd cc;
      complete = λ _ _. inr refl;
      refuses = λ _ _. inr refl;
      partly = λ no. absurd cc;
      quiet = λ _. quiet;
      unwritten = λ _. keeps;
      none = λ _. keeps;
      idle = λ _. keeps;
      any_moment = begun;
      only = tt;
    },
    λ no. absurd cc,
  )

  pub settled_by : IsLawful site → (x y z : S) (why : OpenFault) (outcome : Outcome) → OnlyLooks site x y
      → IfSome (site.reads x) (λ held. IsOpenedAs held (Err why))
      → (why ≡ fault.Site → HasRisen (site.slot_faults x) (site.slot_faults y)) → Refused site y z why outcome
      → Settles site x z outcome
  settled_by law x y z why outcome looks opened risen said =
      let refusal = refusal_by site x y z why outcome looks opened risen said in
      ended_by x z outcome refusal.slots (begun_by law x y z why outcome looks opened said) refusal.ends
