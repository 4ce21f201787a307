-- `adsd load`, from what it read and from what it did with it.
use Rattle.std.proofs.Common.{◌≡◌, ◌∙◌, ◌⊎◌, inl, inr, ⊎_elim, ℕ, List, [], Option, Some, None, Result, Ok, Err, refl}
use Rattle.std.proofs.Common.{sym, subst, arith}
use Rattle.std.specs.Option.{IfSome}
use Rattle.site_io.specs.Counts.{HasRisen}
use Rattle.site_io.specs.Told.{BothTold}
use Rattle.site_io.specs.declared.source.Source.{Ghosts as SourceGhosts}
use Rattle.site_io.specs.declared.site.Site.{Ghosts as SiteGhosts}
use Rattle.ad_dir_model.specs.Directory.{Directory}
use Rattle.ad_load_records.specs.declared.fault.LoadFault.{LoadFault}
use Rattle.ad_load_records.specs.declared.fault.LoadFault.TheVariants.{Bad}
use Rattle.ad_load_records.specs.declared.fault.LoadCause.{LoadCause}
use Rattle.cmd_call.specs.declared.outcome.Outcome.{Outcome}
use Rattle.cmd_call.specs.declared.outcome.Outcome.TheVariants.{Done, NotOfForm, NoCommand, NoStore, NoObject}
use Rattle.cmd_call.specs.declared.outcome.Outcome.TheVariants.{TooMany, SourceFailed, SiteFailed, NoMemory}
use Rattle.cmd_call.specs.Call.{IsTold}
use Rattle.cmd_call.specs.Store.{HasFailed, SaysUnless, KeepsSlots, IsAllHealthy, Says}
use Rattle.cmd_call.specs.Outcome.{IsStopped, IsOfStore, IsOfLoad}
use Rattle.cmd_call.proofs.Moments.{told_map, stays_same}
use Rattle.cmd_call.proofs.Moments.{IsLawful, says_nothing, goes_not, keeps_not, quiet_not, keeps_said}
use Rattle.cmd_store_open.specs.Lines.{objects_line}
use Rattle.cmd_store.specs.Causes.{load_line}
use Rattle.cmd_store.specs.Load.{LoadsAs, FailsAt, IsDirectory, NoDirectory, IsLoadLine, IsPartlyTold}
use Rattle.cmd_store.specs.Loading.{IsPartlyKept, Keeps, LoadsEmpty}
use Rattle.cmd_store.proofs.KeepSteps.{Crash, crash_by, not_both}

-- ---- what the input is

-- one text has one answer
no_other : (input : List ℕ) (dir : Directory) (at : ℕ) (cause : LoadCause) → LoadsAs dir input
    → FailsAt at cause input → ⊥
no_other input dir at cause loads fails = ok_err (sym loads ∙ fails)
  where
    ok_err : ◌≡◌ {A = Result Directory LoadFault} (Ok dir) (Err (Bad at cause)) → ⊥
    ok_err same = absurd cc

one_directory : (input : List ℕ) (one other : Directory) → LoadsAs one input → LoadsAs other input → one ≡ other
one_directory input one other first second = inside (sym first ∙ second)
  where
    inside : ◌≡◌ {A = Result Directory LoadFault} (Ok one) (Ok other) → one ≡ other
    inside same = cc same

read_front : (P : List ℕ → Type 0) (rest left : Option (List ℕ)) (Q : List ℕ → Type 0)
    → BothTold rest left (λ input behind. P behind × Q input) → IfSome rest Q
read_front P None None Q told = tt
read_front P (Some input) (Some behind) Q told = told.1
read_front P None (Some behind) Q told = absurd told
read_front P (Some input) None Q told = absurd told

told_clash : (P Q : List ℕ → Type 0) (rest : Option (List ℕ)) → ((input : List ℕ) → P input → Q input → ⊥)
    → IsTold P rest → IfSome rest Q → ⊥
told_clash P Q None clash p q = p
told_clash P Q (Some input) clash p q = clash input p q

told_both : (P Q : List ℕ → Type 0) (rest : Option (List ℕ)) → IsTold P rest → IfSome rest Q → (input : List ℕ)
    × P input × Q input
told_both P Q None p q = absurd p
told_both P Q (Some input) p q = (input, p, q)

whole_input : (dir : Directory) (rest left : Option (List ℕ))
    → BothTold rest left (λ input behind. (behind ≡ []) × LoadsAs dir input)
    → IfSome rest (LoadsAs dir)
whole_input dir rest left told = read_front (λ behind. behind ≡ []) rest left (LoadsAs dir) told

behind_any : (at : ℕ) (cause : LoadCause) (rest left : Option (List ℕ))
    → BothTold rest left (λ input behind. Unit {0} × FailsAt at cause input)
    → BothTold rest left (λ input behind. FailsAt at cause input)
behind_any at cause None None told = tt
behind_any at cause (Some input) (Some behind) told = told.1
behind_any at cause None (Some behind) told = absurd told
behind_any at cause (Some input) None told = absurd told

-- how a call may end
pub ends_as : (outcome : Outcome) → IsOfStore outcome → (outcome ≡ Done)
    ⊎ ((outcome ≡ NoStore) ⊎ ((outcome ≡ SiteFailed) ⊎ (outcome ≡ NoMemory)))
ends_as Done only = inl refl
ends_as NoStore only = inr (inl refl)
ends_as SiteFailed only = inr (inr (inl refl))
ends_as NoMemory only = inr (inr (inr refl))
ends_as NotOfForm only = absurd only
ends_as NoCommand only = absurd only
ends_as NoObject only = absurd only
ends_as TooMany only = absurd only
ends_as SourceFailed only = absurd only

of_load : (outcome : Outcome) → IsOfStore outcome → IsOfLoad outcome
of_load Done only = tt
of_load NoStore only = tt
of_load SiteFailed only = tt
of_load NoMemory only = tt
of_load NotOfForm only = absurd only
of_load NoCommand only = absurd only
of_load NoObject only = absurd only
of_load TooMany only = absurd only
of_load SourceFailed only = absurd only

stopped_store : (outcome : Outcome) → IsOfStore outcome → IsStopped outcome → outcome ≡ NoMemory
stopped_store NoMemory only stopped = refl
stopped_store Done only stopped = absurd stopped
stopped_store NoStore only stopped = absurd stopped
stopped_store SiteFailed only stopped = absurd stopped
stopped_store NotOfForm only stopped = absurd stopped
stopped_store NoCommand only stopped = absurd stopped
stopped_store NoObject only stopped = absurd only
stopped_store TooMany only stopped = absurd only
stopped_store SourceFailed only stopped = absurd only

stopped_ends : (outcome : Outcome) → IsStopped outcome → (outcome ≡ SourceFailed) ⊎ (outcome ≡ NoMemory)
stopped_ends SourceFailed stopped = inl refl
stopped_ends NoMemory stopped = inr refl
stopped_ends Done stopped = absurd stopped
stopped_ends NotOfForm stopped = absurd stopped
stopped_ends NoCommand stopped = absurd stopped
stopped_ends NoObject stopped = absurd stopped
stopped_ends TooMany stopped = absurd stopped
stopped_ends NoStore stopped = absurd stopped
stopped_ends SiteFailed stopped = absurd stopped

module _ {I S : Type 0} (source : SourceGhosts I) (site : SiteGhosts S) where
  no_healthy : (from to : I) (old new : S) → HasFailed site old new → IsAllHealthy source site from to old new → ⊥
  no_healthy from to old new (inl slots) healthy = healthy.keeps_well.slots slots
  no_healthy from to old new (inr out) healthy = healthy.keeps_well.output out

  -- ---- the input is the text of a directory

  pub of_directory : (from to : I) (old new : S) (dir : Directory) (outcome : Outcome)
      → BothTold (source.rest from) (source.rest to) (λ input behind. (behind ≡ []) × LoadsAs dir input)
      → Keeps site dir old new outcome → LoadsEmpty source site from to old new outcome
  of_directory from to old new dir outcome told keeps = record {
    done = λ is. let kept = keeps.done is
        in record { dir = dir; input = told; line = kept.line; store = kept.store; every_crash = kept.every_crash };
    refused = λ is. absurd (subst IsOfStore is keeps.only);
    taken = keeps.taken;
    complete = λ _ empty healthy. ⊎_elim
        (λ done. inl done)
        (λ more. ⊎_elim (λ taken. absurd (not_both (site.reads old) empty (keeps.taken taken).0))
        (λ last. ⊎_elim (λ failed. absurd (no_healthy from to old new (keeps.failed failed).0 healthy))
        (λ memory. inr memory) last) more)
        (ends_as outcome keeps.only);
    refuses = λ no _ _. absurd (told_clash NoDirectory (LoadsAs dir) (source.rest from)
        (λ input none is. no_other input dir none.0 none.1 is none.2) no here);
    partly = λ is. partly (keeps.failed is).1;
    quiet = λ is. keeps.quiet (stopped_store outcome keeps.only is);
    unwritten = keeps.unwritten;
    crash = λ other loads empty. same other loads (keeps.crash empty);
    moments = keeps.moments;
    source_failed = λ is. absurd (subst IsOfStore is keeps.only);
    site_failed = λ is. (keeps.failed is).0;
    only = of_load outcome keeps.only;
  }
    where
      here : IfSome (source.rest from) (LoadsAs dir)
      here = whole_input dir (source.rest from) (source.rest to) told

      partly : IsPartlyKept site dir old new → IsPartlyTold source site from old new
      partly (inl nothing) = inl nothing
      partly (inr (inl part)) = inr (inl (
        objects_line dir,
        told_map (LoadsAs dir) (λ input. IsLoadLine input (objects_line dir)) (source.rest from)
            (λ input loads. inl (dir, loads, refl)) here,
        part,
      ))
      partly (inr (inr taken)) = inr (inr taken)

      same : (other : Directory) → IsTold (LoadsAs other) (source.rest from) → Crash site dir old new
          → Crash site other old new
      same other loads crash =
          let both = told_both (LoadsAs other) (LoadsAs dir) (source.rest from) loads here in
          subst (λ (d : Directory). Crash site d old new) (one_directory both.0 dir other both.2 both.1) crash

  -- ---- it is the text of none

  refused_said : IsLawful site → (from to : I) (old new : S) (at : ℕ) (cause : LoadCause) (outcome : Outcome)
      → BothTold (source.rest from) (source.rest to) (λ input behind. Unit {0} × FailsAt at cause input)
      → Says site old new (load_line at cause) NotOfForm outcome → LoadsEmpty source site from to old new outcome
  refused_said law from to old new at cause outcome told says = ⊎_elim
      (λ done. subst (LoadsEmpty source site from to old new) (sym done.0) (record {
        done = λ no. absurd cc;
        refused = λ _. record {
          at = at;
          cause = cause;
          input = behind_any at cause (source.rest from)
              (source.rest to) told;
          line = done.1;
        };
        taken = λ no. absurd cc;
        complete = λ is _ _. absurd (none is);
        refuses = λ _ _ _. inl refl;
        partly = λ no. absurd cc;
        quiet = λ no. absurd no;
        unwritten = λ _. keeps;
        crash = λ dir loads _. absurd (never dir loads);
        moments = says.moments;
        source_failed = λ no. absurd cc;
        site_failed = λ no. absurd cc;
        only = tt;
      }))
      (λ failed. subst (LoadsEmpty source site from to old new) (sym failed.0) (record {
        done = λ no. absurd cc;
        refused = λ no. absurd cc;
        taken = λ no. absurd cc;
        complete = λ is _ _. absurd (none is);
        refuses = λ _ _ healthy. absurd (healthy.keeps_well.output failed.2);
        partly = λ _. inr (inl (
          load_line at cause,
          told_map (FailsAt at cause) (λ input. IsLoadLine input (load_line at cause)) (source.rest from)
              (λ input fails. inr (at, cause, fails, refl)) here,
          failed.1,
        ));
        quiet = λ no. absurd no;
        unwritten = λ no. absurd no;
        crash = λ dir loads _. absurd (never dir loads);
        moments = says.moments;
        source_failed = λ no. absurd cc;
        site_failed = λ _. inr failed.2;
        only = tt;
      }))
      says.ended
    where
      here : IfSome (source.rest from) (FailsAt at cause)
      here = read_front (λ behind. Unit {0}) (source.rest from) (source.rest to) (FailsAt at cause) told

      never : (dir : Directory) → IsTold (LoadsAs dir) (source.rest from) → ⊥
      never dir loads = told_clash (LoadsAs dir) (FailsAt at cause) (source.rest from)
          (λ input is fails. no_other input dir at cause is fails) loads here

      none : IsTold IsDirectory (source.rest from) → ⊥
      none is = told_clash IsDirectory (FailsAt at cause) (source.rest from)
          (λ input some fails. no_other input some.0 at cause some.1 fails) is here

      keeps : KeepsSlots site old new
      keeps = keeps_said site old old new (load_line at cause) (stays_same (site.reads old))
          (λ t images out le left. let n : t ≡ site.now old = omega (arith, le, law.until old t images out left)
          in subst
          (λ k. site.left old k images out) n left) (omega arith) says.held says.moments says.images

  -- ---- nothing was done with the site

  pub of_nothing : IsLawful site → (from to : I) (old : S) (outcome : Outcome) → IsStopped outcome
      → (outcome ≡ SourceFailed → HasRisen (source.faults from) (source.faults to)) → LoadsEmpty source site from to
      old old outcome
  of_nothing law from to old outcome stopped failed = record {
    done = λ is. absurd (subst IsStopped is stopped);
    refused = λ is. absurd (subst IsStopped is stopped);
    taken = λ is. absurd (subst IsStopped is stopped);
    complete = λ _ _ healthy. ⊎_elim (λ source_failed. absurd (healthy.reads_well (failed source_failed)))
        (λ memory. inr memory)
        (stopped_ends outcome stopped);
    refuses = λ _ _ healthy. ⊎_elim (λ source_failed. absurd (healthy.reads_well (failed source_failed)))
        (λ memory. inr memory) (stopped_ends outcome stopped);
    partly = λ is. absurd (subst IsStopped is stopped);
    quiet = λ _. stays_same (site.emitted old);
    unwritten = λ _. keeps_not site law old;
    crash = λ dir _ _. crash_by site dir old old (site.emitted old) refl
        (λ said is t images out le left. inl (says_nothing site law old old said (quiet_not site law old) is t images
        out le left));
    moments = goes_not site old;
    source_failed = failed;
    site_failed = λ is. absurd (subst IsStopped is stopped);
    only = only outcome stopped;
  }
    where
      only : (o : Outcome) → IsStopped o → IsOfLoad o
      only SourceFailed is = tt
      only NoMemory is = tt
      only Done is = absurd is
      only NotOfForm is = absurd is
      only NoCommand is = absurd is
      only NoStore is = absurd is
      only NoObject is = absurd is
      only TooMany is = absurd is
      only SiteFailed is = absurd is

  pub of_refusal : IsLawful site → (from to : I) (old new : S) (at : ℕ) (cause : LoadCause) (outcome : Outcome)
      → BothTold (source.rest from) (source.rest to) (λ input behind. Unit {0} × FailsAt at cause input)
      → SaysUnless site old new (load_line at cause) NotOfForm outcome → LoadsEmpty source site from to old new outcome
  of_refusal law from to old new at cause outcome told (inr says) = refused_said law from to old new at cause outcome
      told says
  of_refusal law from to old new at cause outcome told (inl memory) =
      subst (λ (x : S). LoadsEmpty source site from to old x outcome) (sym memory.1)
      (of_nothing law from to old outcome (subst IsStopped (sym memory.0) tt)
      (λ is. absurd (clash (sym memory.0 ∙ is))))
    where
      clash : NoMemory ≡ SourceFailed → ⊥
      clash same = absurd cc
