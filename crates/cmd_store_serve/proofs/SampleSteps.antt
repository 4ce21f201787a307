-- `adsd sample`, from what it loaded and from what it did with it.
use Rattle.std.proofs.Common.{◌≡◌, ◌∙◌, ◌⊎◌, inl, inr, ⊎_elim, ℕ, ◌≤◌, List, Option, Some, None, Result, Ok, Err}
use Rattle.std.proofs.Common.{refl, sym, subst, arith}
use Rattle.std.specs.Option.{IfSome}
use Rattle.std.proofs.lemmas.Bool.{cases_lt}
use Rattle.site_io.specs.Counts.{HasRisen}
use Rattle.site_io.specs.Disk.{Images}
use Rattle.site_io.specs.Outside.{OnlyLooks}
use Rattle.site_io.specs.Told.{StaysTold}
use Rattle.site_io.specs.declared.site.Site.{Ghosts as SiteGhosts}
use Rattle.ad_gen.specs.Ldif.{ldif}
use Rattle.ad_load_records.specs.declared.fault.LoadFault.{LoadFault}
use Rattle.ad_load_records.specs.declared.fault.LoadFault.TheVariants.{Bad}
use Rattle.ad_dir_model.specs.Directory.{Directory}
use Rattle.ad_rows_write.specs.Rows.{IsStoreOf}
use Rattle.ad_engine_store.specs.declared.fault.OpenFault.TheVariants.{Taken}
use Rattle.cmd_call.specs.Call.{IsTold}
use Rattle.cmd_call.specs.Outcome.{IsEarly, IsOfStore}
use Rattle.cmd_call.specs.Store.{AreEmpty, IsTaken, KeepsSlots, IsSiteHealthy, HasFailed, Says}
use Rattle.cmd_call.specs.declared.outcome.Outcome.{Outcome}
use Rattle.cmd_call.specs.declared.outcome.Outcome.TheVariants.{Done, NotOfForm, NoCommand, NoStore, NoObject}
use Rattle.cmd_call.specs.declared.outcome.Outcome.TheVariants.{TooMany, SourceFailed, SiteFailed, NoMemory}
use Rattle.cmd_call.proofs.Moments.{told_back, stays_same, stays_on, emits_on, part_on, rises_from, IsLawful}
use Rattle.cmd_call.proofs.Moments.{says_nothing, looks_quiet, goes_not, keeps_not, quiet_not, looks_keep, keeps_on}
use Rattle.cmd_call.proofs.Moments.{keeps_said}
use Rattle.cmd_store.specs.Load.{LoadsAs, NoDirectory}
use Rattle.cmd_store.proofs.KeepSteps.{crash_by, not_both}
use Rattle.cmd_store.proofs.LoadSteps.{ends_as}
use Rattle.cmd_store_open.specs.Lines.{store_line}
use Rattle.cmd_store_serve.specs.Outcome.{IsOfSample}
use Rattle.cmd_store_serve.specs.Sample.{sent, sampled, IsPartlyTold, SampleDoes}
use Rattle.cmd_store_serve.specs.Text.{sample_text}
use Rattle.cmd_store_serve.specs.SampleServing.{IsPartlySampled, Samples, SamplesEmpty}

-- ---- what the text gives

no_other : (n : ℕ) (dir : Directory) → LoadsAs dir (ldif n) → NoDirectory (ldif n) → ⊥
no_other n dir loads none = ok_err (sym loads ∙ none.2)
  where
    ok_err : ◌≡◌ {A = Result Directory LoadFault} (Ok dir) (Err (Bad none.0 none.1)) → ⊥
    ok_err same = absurd cc

one_directory : (n : ℕ) (one other : Directory) → LoadsAs one (ldif n) → LoadsAs other (ldif n) → one ≡ other
one_directory n one other first second = inside (sym first ∙ second)
  where
    inside : ◌≡◌ {A = Result Directory LoadFault} (Ok one) (Ok other) → one ≡ other
    inside same = cc same

-- ---- how a call may end

of_sample : (outcome : Outcome) → IsOfStore outcome → IsOfSample outcome
of_sample Done only = tt
of_sample NoStore only = tt
of_sample SiteFailed only = tt
of_sample NoMemory only = tt
of_sample NotOfForm only = absurd only
of_sample NoCommand only = absurd only
of_sample NoObject only = absurd only
of_sample TooMany only = absurd only
of_sample SourceFailed only = absurd only

early_store : (outcome : Outcome) → IsOfStore outcome → IsEarly outcome → outcome ≡ NoMemory
early_store NoMemory only early = refl
early_store Done only early = absurd early
early_store NoStore only early = absurd early
early_store SiteFailed only early = absurd early
early_store NotOfForm only early = absurd only
early_store NoCommand only early = absurd only
early_store NoObject only early = absurd only
early_store TooMany only early = absurd only
early_store SourceFailed only early = absurd only

module _ {S : Type 0} (site : SiteGhosts S) where
  no_healthy : (old new : S) → HasFailed site old new → IsSiteHealthy site old new → ⊥
  no_healthy old new (inl slots) healthy = healthy.slots slots
  no_healthy old new (inr out) healthy = healthy.output out

  -- ---- the text is that of a directory

  pub of_directory : (n : ℕ) (old new : S) (dir : Directory) (outcome : Outcome) → LoadsAs dir (ldif n)
      → Samples site dir (sent n) old new outcome
      → SamplesEmpty site n old new outcome
  of_directory n old new dir outcome loads samples = record {
    done = λ is. record {
      dir = dir;
      loads = loads;
      text = samples.text is;
      store = samples.store is;
      every_crash
          = samples.every_crash is;
    };
    refused = λ is. absurd (subst IsOfStore is samples.only);
    taken = λ is. let taken = samples.taken is in record { slots = taken.0; line = taken.1 };
    complete = λ _ empty healthy. ⊎_elim
        (λ done. inl done)
        (λ more. ⊎_elim (λ taken. absurd (not_both (site.reads old) empty (samples.taken taken).0))
        (λ last. ⊎_elim (λ failed. absurd (no_healthy old new (samples.failed failed).0 healthy))
        (λ memory. inr memory) last) more)
        (ends_as outcome samples.only);
    refuses = λ none _ _. absurd (no_other n dir loads none);
    partly = λ is. partly (samples.failed is).1;
    quiet = λ is. samples.quiet (early_store outcome samples.only is);
    unwritten = unwritten;
    crash = λ other is empty. subst (λ (d : Directory). IfSome (site.emitted old)
        (λ said. (t : ℕ) (images : Images) (out : List ℕ) → site.now old ≤ t
        → site.left new t images out → (out ≡ said) ⊎ IsStoreOf images (sampled d n)))
        (one_directory n dir other loads is) (samples.crash empty);
    moments = samples.moments;
    site_failed = λ is. (samples.failed is).0;
    only = of_sample outcome samples.only;
  }
    where
      partly : IsPartlySampled site dir (sent n) old new → IsPartlyTold site n old new
      partly (inl nothing) = inl nothing
      partly (inr (inl part)) = inr (inl (dir, loads, part))
      partly (inr (inr taken)) = inr (inr taken)

      unwritten : (outcome ≡ NotOfForm) ⊎ (outcome ≡ NoStore) → KeepsSlots site old new
      unwritten (inl is) = absurd (subst IsOfStore is samples.only)
      unwritten (inr is) = samples.unwritten is

  -- ---- it is that of none, or memory ran out

  pub of_none : IsLawful site → (n : ℕ) (old : S) → NoDirectory (ldif n) → SamplesEmpty site n old old NotOfForm
  of_none law n old none = record {
    done = λ no. absurd cc;
    refused = λ _. none;
    taken = λ no. absurd cc;
    complete = λ some _ _. absurd (no_other n some.0 some.1 none);
    refuses = λ _ _ _. inl refl;
    partly = λ no. absurd cc;
    quiet = λ _. stays_same (site.emitted old);
    unwritten = λ _. keeps_not site law old;
    crash = λ dir loads _. absurd (no_other n dir loads none);
    moments = goes_not site old;
    site_failed = λ no. absurd cc;
    only = tt;
  }

  pub of_memory : IsLawful site → (n : ℕ) (old : S) → SamplesEmpty site n old old NoMemory
  of_memory law n old = record {
    done = λ no. absurd cc;
    refused = λ no. absurd cc;
    taken = λ no. absurd cc;
    complete = λ _ _ _. inr refl;
    refuses = λ _ _ _. inr refl;
    partly = λ no. absurd cc;
    quiet = λ _. stays_same (site.emitted old);
    unwritten = λ _. keeps_not site law old;
    crash = λ dir _ _. crash_by site (sampled dir n) old old (site.emitted old) refl
        (λ said is t images out le left. inl (says_nothing site law old old said (quiet_not site law old) is t images
        out le left));
    moments = goes_not site old;
    site_failed = λ no. absurd cc;
    only = tt;
  }

  -- ---- after the look at the slots

  healthy_from : (x y z : S) → OnlyLooks site x y → IsSiteHealthy site x z → IsSiteHealthy site y z
  healthy_from x y z looks healthy = record {
    slots = λ risen. healthy.slots (rises_from (site.slot_faults x) (site.slot_faults y) (site.slot_faults z)
        looks.never_falls risen);
    output = λ risen. healthy.output (subst (λ (k : ℕ). HasRisen k (site.out_faults z)) looks.out_faults risen);
  }

  told_at : (P : Images → Type 0) (r0 r1 : Option Images) → StaysTold r0 r1 → IsTold P r0 → IsTold P r1
  told_at P None None same p = p
  told_at P (Some x) (Some y) same p = subst P (sym same) p
  told_at P None (Some y) same p = absurd same
  told_at P (Some x) None same p = absurd same

  never_taken : (r : Option Images) → IfSome r AreEmpty → IsTold IsTaken r → ⊥
  never_taken None empty taken = taken
  never_taken (Some held) empty (inl a) = omega (arith, a, empty.0)
  never_taken (Some held) empty (inr b) = omega (arith, b, empty.1)

  pub failed_behind : (x y z : S) → OnlyLooks site x y → HasFailed site y z → HasFailed site x z
  failed_behind x y z looks (inl slots) = inl
      (rises_from (site.slot_faults x) (site.slot_faults y) (site.slot_faults z) looks.never_falls slots)
  failed_behind x y z looks (inr out) = inr (subst (λ (k : ℕ). HasRisen k (site.out_faults z)) looks.out_faults out)

  pub samples_behind : IsLawful site → (n : ℕ) (x y z : S) (outcome : Outcome) → OnlyLooks site x y
      → IfSome (site.reads x) AreEmpty
      → SamplesEmpty site n y z outcome → SampleDoes site n x z outcome
  samples_behind law n x y z outcome looks empty samples = record {
    done = λ is. let done = samples.done is in record {
      dir = done.dir;
      loads = done.loads;
      text = emits_on (site.emitted x) (site.emitted y) (site.emitted z) (sample_text done.dir (sent n)) looks.output
          done.text;
      store = done.store;
      every_crash = done.every_crash;
    };
    refused = samples.refused;
    taken = λ is. let taken = samples.taken is in record {
      slots = told_back IsTaken (site.reads x) (site.reads y) looks.held taken.slots;
      line = emits_on (site.emitted x) (site.emitted y) (site.emitted z) (store_line Taken) looks.output taken.line;
    };
    complete = λ is here healthy. samples.complete is (told_at AreEmpty (site.reads x) (site.reads y) looks.held here)
        (healthy_from x y z looks healthy);
    refuses = λ is here healthy. samples.refuses is (told_at AreEmpty (site.reads x) (site.reads y) looks.held here)
        (healthy_from x y z looks healthy);
    sees = λ taken _. absurd (never_taken (site.reads x) empty taken);
    keeps = λ taken. absurd (never_taken (site.reads x) empty taken);
    partly = λ is. partly (samples.partly is);
    quiet = λ is. stays_on (site.emitted x) (site.emitted y) (site.emitted z) looks.output (samples.quiet is);
    unwritten = λ is. keeps_on site x y z looks samples.moments (samples.unwritten is);
    crash = λ dir is here. crash_by site (sampled dir n) x z (site.emitted x) refl
        (λ said told t images out le left. ⊎_elim
        (λ lt. inl (says_nothing site law x y said (looks_quiet site x y looks) told t images out le
        ((samples.moments.earlier t images out lt).0 left)))
        (λ ge. told_said said (site.emitted x) (site.emitted y) looks.output told
        (λ s. (t : ℕ) (images : Images) (out : List ℕ) → site.now y ≤ t
        → site.left z t images out → (out ≡ s) ⊎ IsStoreOf images (sampled dir n))
        (samples.crash dir is (told_at AreEmpty (site.reads x) (site.reads y) looks.held here)) t images out ge left)
        (cases_lt t (site.now y)));
    only = samples.only;
  }
    where
      partly : IsPartlyTold site n y z → IsPartlyTold site n x z
      partly (inl nothing) = inl (stays_on (site.emitted x) (site.emitted y) (site.emitted z) looks.output nothing)
      partly (inr (inl line)) = inr (inl (
        line.0,
        line.1,
        part_on (site.emitted x) (site.emitted y) (site.emitted z)
            (sample_text line.0 (sent n)) looks.output line.2,
      ))
      partly (inr (inr taken)) = inr (inr (
        told_back IsTaken (site.reads x) (site.reads y) looks.held taken.0,
        part_on (site.emitted x) (site.emitted y) (site.emitted z) (store_line Taken) looks.output taken.1,
      ))

      told_said : (said : List ℕ) (r0 r1 : Option (List ℕ)) → StaysTold r0 r1 → r0 ≡ Some said → (P : List ℕ → Type 0)
          → IfSome r1 P → P said
      told_said said None r1 same is P p = absurd cc
      told_said said (Some a) None same is P p = absurd same
      told_said said (Some a) (Some b) same is P p = subst P (same ∙ inside a is) p
        where
          inside : (a : List ℕ) → Some a ≡ Some said → a ≡ said
          inside a e = cc e

  -- ---- a slot isn't empty

  pub of_taken : IsLawful site → (n : ℕ) (x y z : S) (outcome : Outcome) → OnlyLooks site x y
      → IfSome (site.reads x) IsTaken
      → Says site y z (store_line Taken) NoStore outcome → SampleDoes site n x z outcome
  of_taken law n x y z outcome looks taken says = ⊎_elim
      (λ done. subst (SampleDoes site n x z) (sym done.0) (record {
        done = λ no. absurd cc;
        refused = λ no. absurd cc;
        taken = λ _. record {
          slots = taken;
          line = emits_on (site.emitted x) (site.emitted y) (site.emitted z)
              (store_line Taken) looks.output done.1;
        };
        complete = λ _ empty _. absurd (not_both (site.reads x) empty taken);
        refuses = λ _ empty _. absurd (not_both (site.reads x) empty taken);
        sees = λ _ _. refl;
        keeps = λ _. keeps;
        partly = λ no. absurd cc;
        quiet = λ no. absurd no;
        unwritten = λ _. keeps;
        crash = λ dir _ empty. absurd (not_both (site.reads x) empty taken);
        only = tt;
      }))
      (λ failed. subst (SampleDoes site n x z) (sym failed.0) (record {
        done = λ no. absurd cc;
        refused = λ no. absurd cc;
        taken = λ no. absurd cc;
        complete = λ _ empty _. absurd (not_both (site.reads x) empty taken);
        refuses = λ _ empty _. absurd (not_both (site.reads x) empty taken);
        sees = λ _ healthy. absurd (healthy.output
            (subst (λ (k : ℕ). HasRisen k (site.out_faults z)) looks.out_faults failed.2));
        keeps = λ _. keeps;
        partly = λ _. inr (inr (
          taken,
          part_on (site.emitted x) (site.emitted y) (site.emitted z) (store_line Taken)
              looks.output failed.1,
        ));
        quiet = λ no. absurd no;
        unwritten = λ _. keeps;
        crash = λ dir _ empty. absurd (not_both (site.reads x) empty taken);
        only = tt;
      }))
      says.ended
    where
      keeps : KeepsSlots site x z
      keeps = keeps_said site x y z (store_line Taken) looks.held looks.images looks.moments.later says.held
          says.moments says.images

  -- ---- the site failed before

  pub of_failed : IsLawful site → (n : ℕ) (x y : S) → OnlyLooks site x y → HasRisen (site.slot_faults x)
      (site.slot_faults y) → SampleDoes site n x y SiteFailed
  of_failed law n x y looks risen = record {
    done = λ no. absurd cc;
    refused = λ no. absurd cc;
    taken = λ no. absurd cc;
    complete = λ _ _ healthy. absurd (healthy.slots risen);
    refuses = λ _ _ healthy. absurd (healthy.slots risen);
    sees = λ _ healthy. absurd (healthy.slots risen);
    keeps = λ _. looks_keep site x y looks;
    partly = λ _. inl looks.output;
    quiet = λ no. absurd no;
    unwritten = λ _. looks_keep site x y looks;
    crash = λ dir _ _. crash_by site (sampled dir n) x y (site.emitted x) refl
        (λ said is t images out le left. inl (says_nothing site law x y said (looks_quiet site x y looks) is t images
        out le left));
    only = tt;
  }
