-- A directory is kept in empty slots and sent the frames.
use Rattle.std.proofs.Common.{◌≡◌, ◌∙◌, ◌⊎◌, inl, inr, ⊎_elim, ℕ, ◌≤◌, List, Option, Some, None, Err}
use Rattle.std.proofs.Common.{refl, sym, ap, subst}
use Rattle.std.specs.Option.{IfSome}
use Rattle.std.proofs.lemmas.Bool.{cases_lt}
use Rattle.site_io.specs.Counts.{HasRisen}
use Rattle.site_io.specs.Disk.{Images, GoesOn, LeavesSame}
use Rattle.site_io.specs.Outside.{StaysKnown, TouchesSlots}
use Rattle.site_io.specs.Told.{StaysTold}
use Rattle.site_io.specs.declared.site.Site.{Ghosts as SiteGhosts}
use Rattle.ad_frames.specs.declared.frame.Frame.{Frame}
use Rattle.ad_dir_model.specs.Directory.{Directory}
use Rattle.ad_engine.specs.Runs.{after}
use Rattle.ad_rows_write.specs.Rows.{IsStoreOf}
use Rattle.ad_engine_store.specs.Faults.{IsCreating}
use Rattle.ad_engine_store.specs.declared.fault.OpenFault.{OpenFault}
use Rattle.ad_engine_store.specs.declared.fault.OpenFault.TheVariants.{Taken, Empty, Broken, Row, Unsound, Site, Memory}
use Rattle.cmd_call.specs.Call.{IsTold}
use Rattle.cmd_call.specs.Outcome.{IsOfStore}
use Rattle.cmd_call.specs.Store.{EmitsPart, AreEmpty, IsTaken, HasFailed, Says}
use Rattle.cmd_call.specs.declared.outcome.Outcome.{Outcome}
use Rattle.cmd_call.specs.declared.outcome.Outcome.TheVariants.{Done, NotOfForm, NoCommand, NoStore, NoObject}
use Rattle.cmd_call.specs.declared.outcome.Outcome.TheVariants.{TooMany, SourceFailed, SiteFailed, NoMemory}
use Rattle.cmd_call.proofs.Moments.{stays_same, stays_on, emits_on, part_on, rises_from, goes_on_on, IsLawful}
use Rattle.cmd_call.proofs.Moments.{says_nothing, goes_not, quiet_not, keeps_said}
use Rattle.cmd_store.proofs.KeepSteps.{crash_by, not_both, told_too}
use Rattle.cmd_store_open.specs.Lines.{store_line}
use Rattle.cmd_store_open.specs.Refused.{Refused}
use Rattle.cmd_store_serve.specs.Text.{sample_text}
use Rattle.cmd_store_serve.specs.SampleServing.{IsOfTelling, EachLeaves, IsPartlySampled, TellsServed, Samples}

of_telling : (outcome : Outcome) → IsOfTelling outcome → IsOfStore outcome
of_telling Done only = tt
of_telling SiteFailed only = tt
of_telling NoMemory only = tt
of_telling NotOfForm only = absurd only
of_telling NoCommand only = absurd only
of_telling NoStore only = absurd only
of_telling NoObject only = absurd only
of_telling TooMany only = absurd only
of_telling SourceFailed only = absurd only

no_store : (outcome : Outcome) → IsOfTelling outcome → outcome ≡ NoStore → ⊥
no_store outcome only is = subst IsOfTelling is only

known_both : (P Q R : Type 0) (r0 r1 : Option Images) → StaysKnown r0 r1 → (P → Q → R) → IfSome r0 (λ held. P)
    → IfSome r1 (λ held. Q) → IfSome r1 (λ held. R)
known_both P Q R None None known f p q = tt
known_both P Q R (Some a) (Some b) known f p q = f p q
known_both P Q R None (Some b) known f p q = absurd known
known_both P Q R (Some a) None known f p q = absurd known

told_it : (r0 r1 : Option (List ℕ)) (said : List ℕ) → StaysTold r0 r1 → r0 ≡ Some said → r1 ≡ Some said
told_it None r1 said same is = absurd cc
told_it (Some a) None said same is = absurd same
told_it (Some a) (Some b) said same is = ap (λ (l : List ℕ). Some l) same ∙ is

-- nothing more was done
ends : {S : Type 0} (s : SiteGhosts S) (dir : Directory) (frames : List Frame) (x y z : S) (last outcome : Outcome)
    → (outcome ≡ last) × (z ≡ y) → Samples s dir frames x y last → Samples s dir frames x z outcome
ends {S = S} s dir frames x y z last outcome is samples = subst (λ (w : S). Samples s dir frames x w outcome) (sym is.1)
    (subst (Samples s dir frames x y) (sym is.0) samples)

module _ {S : Type 0} (s : SiteGhosts S) where
  -- nothing was done
  pub sampled_not : IsLawful s → (dir : Directory) (frames : List Frame) (x : S) → Samples s dir frames x x NoMemory
  sampled_not law dir frames x = record {
    text = λ no. absurd cc;
    store = λ no. absurd cc;
    every_crash = λ no. absurd cc;
    taken = λ no. absurd cc;
    failed = λ no. absurd cc;
    quiet = λ _. stays_same (s.emitted x);
    unwritten = λ no. absurd cc;
    moments = goes_not s x;
    crash = λ empty. crash_by s (after dir frames) x x (s.emitted x) refl
        (λ said is t images out le left. inl (says_nothing s law x x said (quiet_not s law x) is t images out le left));
    only = tt;
  }

  -- the store wasn't made, for want of memory
  pub sampled_memory : IsLawful s → (dir : Directory) (frames : List Frame) (x y : S) → TouchesSlots s x y
      → Samples s dir frames x y NoMemory
  sampled_memory law dir frames x y touches = record {
    text = λ no. absurd cc;
    store = λ no. absurd cc;
    every_crash = λ no. absurd cc;
    taken = λ no. absurd cc;
    failed = λ no. absurd cc;
    quiet = λ _. touches.output;
    unwritten = λ no. absurd cc;
    moments = touches.moments;
    crash = λ empty. crash_by s (after dir frames) x y (s.emitted x) refl
        (λ said is t images out le left. inl (says_nothing s law x y said touches.quiet is t images out le left));
    only = tt;
  }

  -- or since the site failed
  pub sampled_failed : IsLawful s → (dir : Directory) (frames : List Frame) (x y : S) → TouchesSlots s x y
      → HasRisen (s.slot_faults x) (s.slot_faults y)
      → Samples s dir frames x y SiteFailed
  sampled_failed law dir frames x y touches cause = record {
    text = λ no. absurd cc;
    store = λ no. absurd cc;
    every_crash = λ no. absurd cc;
    taken = λ no. absurd cc;
    failed = λ _. (inl cause, inl touches.output);
    quiet = λ no. absurd cc;
    unwritten = λ no. absurd cc;
    moments = touches.moments;
    crash = λ empty. crash_by s (after dir frames) x y (s.emitted x) refl
        (λ said is t images out le left. inl (says_nothing s law x y said touches.quiet is t images out le left));
    only = tt;
  }

  -- or since a slot wasn't empty
  pub sampled_taken : IsLawful s → (dir : Directory) (frames : List Frame) (x y z : S) (outcome : Outcome)
      → TouchesSlots s x y → IfSome (s.reads x) IsTaken
      → StaysTold (s.reads x) (s.reads y) × LeavesSame (s.now x) (s.left x) (s.left y)
      → Says s y z (store_line Taken) NoStore outcome → Samples s dir frames x z outcome
  sampled_taken law dir frames x y z outcome touches taken unwritten says = ⊎_elim
      (λ done. subst (Samples s dir frames x z) (sym done.0) (record {
        text = λ no. absurd cc;
        store = λ no. absurd cc;
        every_crash = λ no. absurd cc;
        taken = λ _. (
          taken,
          emits_on (s.emitted x) (s.emitted y) (s.emitted z) (store_line Taken) touches.output
              done.1,
        );
        failed = λ no. absurd cc;
        quiet = λ no. absurd cc;
        unwritten = λ _. keeps_said s x y z (store_line Taken) unwritten.0 unwritten.1 touches.moments.later says.held
            says.moments says.images;
        moments = goes;
        crash = λ empty. absurd (not_both (s.reads x) empty taken);
        only = tt;
      }))
      (λ failed. subst (Samples s dir frames x z) (sym failed.0) (record {
        text = λ no. absurd cc;
        store = λ no. absurd cc;
        every_crash = λ no. absurd cc;
        taken = λ no. absurd cc;
        failed = λ _. (
          inr (subst (λ (k : ℕ). HasRisen k (s.out_faults z)) touches.out_faults failed.2),
          inr (inr (
            taken,
            part_on (s.emitted x) (s.emitted y) (s.emitted z) (store_line Taken) touches.output
                failed.1,
          )),
        );
        quiet = λ no. absurd cc;
        unwritten = λ no. absurd cc;
        moments = goes;
        crash = λ empty. absurd (not_both (s.reads x) empty taken);
        only = tt;
      }))
      says.ended
    where
      goes : GoesOn (s.now x) (s.now z) (s.left x) (s.left z)
      goes = goes_on_on (s.now x) (s.now y) (s.now z) (s.left x) (s.left y) (s.left z) touches.moments says.moments

  -- so the store wasn't made, and it was said why
  pub sampled_refused : {T : Type 0} → IsLawful s → (dir : Directory) (frames : List Frame) (x y z : S)
      (fault : OpenFault) (outcome : Outcome) → IsCreating {T = T} s x y (Err fault) → Refused s y z fault outcome
      → Samples s dir frames x z outcome
  sampled_refused law dir frames x y z Taken outcome made says = ⊎_elim
      (λ none. ends s dir frames x y z NoMemory outcome none (sampled_memory law dir frames x y made.outside))
      (λ said. sampled_taken law dir frames x y z outcome made.outside (made.taken refl) (made.unwritten (inl refl))
      said)
      says
  sampled_refused law dir frames x y z Site outcome made says = ends s dir frames x y z SiteFailed outcome says
      (sampled_failed law dir frames x y made.outside (made.cause refl))
  sampled_refused law dir frames x y z Memory outcome made says = ends s dir frames x y z NoMemory outcome says
      (sampled_memory law dir frames x y made.outside)
  sampled_refused law dir frames x y z Empty outcome made says = absurd made.faults
  sampled_refused law dir frames x y z Broken outcome made says = absurd made.faults
  sampled_refused law dir frames x y z (Row kind number) outcome made says = absurd made.faults
  sampled_refused law dir frames x y z (Unsound number) outcome made says = absurd made.faults

  -- the store was made, and then the frames served and the numbers told
  pub sampled_told : IsLawful s → (dir : Directory) (frames : List Frame) (x y z : S) (outcome : Outcome)
      → TouchesSlots s x y
      → IfSome (s.reads y) (λ held. EachLeaves s dir y) → TellsServed s dir frames y z outcome
      → Samples s dir frames x z outcome
  sampled_told law dir frames x y z outcome touches every tells = record {
    text = λ is. emits_on (s.emitted x) (s.emitted y) (s.emitted z) (sample_text dir frames) touches.output
        (tells.done is);
    store = tells.store;
    every_crash = λ is. known_both _ _ _ (s.reads y) (s.reads z) tells.known (λ all now. all)
        (both (s.reads y) every (tells.every_crash is)) (any (s.reads z));
    taken = λ is. absurd (no_store outcome tells.only is);
    failed = λ is. let failed = tells.failed is in (has_failed failed.0, partly failed.1);
    quiet = λ is. stays_on (s.emitted x) (s.emitted y) (s.emitted z) touches.output (tells.quiet is);
    unwritten = λ is. absurd (no_store outcome tells.only is);
    moments = goes_on_on (s.now x) (s.now y) (s.now z) (s.left x) (s.left y) (s.left z) touches.moments tells.moments;
    crash = crash;
    only = of_telling outcome tells.only;
  }
    where
      both : (r : Option Images) → IfSome r (λ held. EachLeaves s dir y)
          → IfSome r (λ held. EachLeaves s dir y → EachLeaves s (after dir frames) z)
          → IfSome r (λ held. EachLeaves s (after dir frames) z)
      both None each f = tt
      both (Some held) each f = f each

      any : (r : Option Images) → IfSome r (λ held. Unit {0})
      any None = tt
      any (Some held) = tt

      has_failed : HasFailed s y z → HasFailed s x z
      has_failed (inl slots) = inl (rises_from (s.slot_faults x) (s.slot_faults y) (s.slot_faults z)
          touches.never_falls slots)
      has_failed (inr out) = inr (subst (λ (k : ℕ). HasRisen k (s.out_faults z)) touches.out_faults out)

      partly : StaysTold (s.emitted y) (s.emitted z) ⊎ EmitsPart (s.emitted y) (s.emitted z) (sample_text dir frames)
          → IsPartlySampled s dir frames x z
      partly (inl nothing) = inl (stays_on (s.emitted x) (s.emitted y) (s.emitted z) touches.output nothing)
      partly (inr part) = inr (inl (part_on (s.emitted x) (s.emitted y) (s.emitted z) (sample_text dir frames)
          touches.output part))

      pair_up : (P Q : Type 0) (r : Option Images) → IfSome r (λ held. P) → IfSome r (λ held. P → Q)
          → IfSome r (λ held. Q)
      pair_up P Q None p f = tt
      pair_up P Q (Some held) p f = f p

      crash : IsTold AreEmpty (s.reads x) → IfSome (s.emitted x) (λ said. (t : ℕ) (images : Images) (out : List ℕ)
          → s.now x ≤ t → s.left z t images out → (out ≡ said) ⊎ IsStoreOf images (after dir frames))
      crash empty =
          let at = told_too (λ held. (t : ℕ) (images : Images) (out : List ℕ) → s.now y ≤ t → s.left z t images out
          → ((began : Images) × s.left y (s.now y) began out) ⊎ IsStoreOf images (after dir frames)) (s.reads x)
          (s.reads y) empty touches.known
          (pair_up _ _ (s.reads y) every tells.crash) in
          crash_by s (after dir frames) x z (s.emitted x) refl (λ said is t images out le left. ⊎_elim
          (λ lt. inl (says_nothing s law x y said touches.quiet is t images out le
          ((tells.moments.earlier t images out lt).0 left)))
          (λ ge. ⊎_elim
          (λ began. inl (law.output y began.0 out said (told_it (s.emitted x) (s.emitted y) said touches.output is)
          began.1))
          (λ store. inr store)
          (at.1 t images out ge left))
          (cases_lt t (s.now y)))
