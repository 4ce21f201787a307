-- `adsd load`, after its look at the slots.
use Rattle.std.proofs.Common.{◌≡◌, ◌∙◌, ◌⊎◌, inl, inr, ⊎_elim, ℕ, ◌≤◌, List, Option, Some, None, refl, sym, subst}
use Rattle.std.proofs.Common.{arith}
use Rattle.std.specs.Option.{IfSome}
use Rattle.std.proofs.lemmas.Bool.{cases_lt}
use Rattle.site_io.specs.Counts.{HasRisen}
use Rattle.site_io.specs.Told.{StaysTold}
use Rattle.site_io.specs.Disk.{Images}
use Rattle.site_io.specs.Outside.{OnlyLooks}
use Rattle.site_io.specs.declared.source.Source.{Ghosts as SourceGhosts}
use Rattle.site_io.specs.declared.site.Site.{Ghosts as SiteGhosts}
use Rattle.ad_dir_model.specs.Directory.{Directory}
use Rattle.ad_rows_write.specs.Rows.{IsStoreOf}
use Rattle.ad_engine_store.specs.declared.fault.OpenFault.TheVariants.{Taken}
use Rattle.cmd_call.specs.declared.outcome.Outcome.{Outcome}
use Rattle.cmd_call.specs.declared.outcome.Outcome.TheVariants.{NoStore, SiteFailed}
use Rattle.cmd_call.specs.Call.{IsTold}
use Rattle.cmd_call.specs.Store.{HasFailed, AreEmpty, IsTaken, IsAllHealthy, Says}
use Rattle.cmd_call.proofs.Moments.{told_map, told_back, stays_on, emits_on, part_on, rises_from}
use Rattle.cmd_call.proofs.Moments.{IsLawful, says_nothing, looks_quiet, looks_keep, keeps_on, keeps_said}
use Rattle.cmd_store_open.specs.Lines.{objects_line, store_line}
use Rattle.cmd_store.specs.Causes.{load_line}
use Rattle.cmd_store.specs.Load.{IsPartlyTold, LoadDoes}
use Rattle.cmd_store.specs.Loading.{LoadsEmpty}
use Rattle.cmd_store.proofs.KeepSteps.{Crash, crash_by, not_both}

module _ {I S : Type 0} (source : SourceGhosts I) (site : SiteGhosts S) where
  -- ---- after the look at the slots

  healthy_from : (from to : I) (x y z : S) → OnlyLooks site x y → IsAllHealthy source site from to x z
      → IsAllHealthy source site from to y z
  healthy_from from to x y z looks healthy = record {
    reads_well = healthy.reads_well;
    keeps_well = record {
      slots = λ risen. healthy.keeps_well.slots
          (rises_from (site.slot_faults x) (site.slot_faults y) (site.slot_faults z) looks.never_falls risen);
      output = λ risen. healthy.keeps_well.output (subst (λ k. HasRisen k (site.out_faults z)) looks.out_faults risen);
    };
  }

  failed_from : (x y z : S) → OnlyLooks site x y → HasFailed site y z → HasFailed site x z
  failed_from x y z looks (inl slots) = inl (rises_from (site.slot_faults x) (site.slot_faults y) (site.slot_faults z)
      looks.never_falls slots)
  failed_from x y z looks (inr out) = inr (subst (λ k. HasRisen k (site.out_faults z)) looks.out_faults out)

  told_at : (P : Images → Type 0) (r0 r1 : Option Images) → StaysTold r0 r1 → IsTold P r0 → IsTold P r1
  told_at P None None same p = p
  told_at P (Some x) (Some y) same p = subst P (sym same) p
  told_at P None (Some y) same p = absurd same
  told_at P (Some x) None same p = absurd same

  not_taken : (P : Type 0) (r : Option Images) → IfSome r AreEmpty → IfSome r IsTaken
      → IfSome r (λ held. IsTaken held × P)
  not_taken P None empty taken = tt
  not_taken P (Some held) empty (inl a) = absurd (omega (arith, a, empty.0))
  not_taken P (Some held) empty (inr b) = absurd (omega (arith, b, empty.1))

  never_taken : (r : Option Images) → IfSome r AreEmpty → IsTold IsTaken r → ⊥
  never_taken None empty taken = taken
  never_taken (Some held) empty (inl a) = omega (arith, a, empty.0)
  never_taken (Some held) empty (inr b) = omega (arith, b, empty.1)

  pub loads_behind : IsLawful site → (from to : I) (x y z : S) (outcome : Outcome) → OnlyLooks site x y
      → IfSome (site.reads x) AreEmpty
      → LoadsEmpty source site from to y z outcome → LoadDoes source site from to x z outcome
  loads_behind law from to x y z outcome looks empty loads = record {
    done = λ is. let done = loads.done is in record {
      dir = done.dir;
      input = done.input;
      line = emits_on (site.emitted x) (site.emitted y) (site.emitted z) (objects_line done.dir) looks.output done.line;
      store = done.store;
      every_crash = done.every_crash;
    };
    refused = λ is. let refused = loads.refused is in record {
      at = refused.at;
      cause = refused.cause;
      input = refused.input;
      line = emits_on (site.emitted x) (site.emitted y) (site.emitted z) (load_line refused.at refused.cause)
          looks.output refused.line;
    };
    taken = λ is. let taken = loads.taken is in record {
      slots = not_taken (to ≡ from) (site.reads x) empty
          (told_back IsTaken (site.reads x) (site.reads y) looks.held taken.0);
      line = emits_on (site.emitted x) (site.emitted y) (site.emitted z) (store_line Taken) looks.output taken.1;
    };
    complete = λ is here healthy. loads.complete is (told_at AreEmpty (site.reads x) (site.reads y) looks.held here)
        (healthy_from from to x y z looks healthy);
    refuses = λ is here healthy. loads.refuses is (told_at AreEmpty (site.reads x) (site.reads y) looks.held here)
        (healthy_from from to x y z looks healthy);
    sees = λ taken _. absurd (never_taken (site.reads x) empty taken);
    keeps = λ taken. absurd (never_taken (site.reads x) empty taken);
    partly = λ is. partly (loads.partly is);
    quiet = λ is. stays_on (site.emitted x) (site.emitted y) (site.emitted z) looks.output (loads.quiet is);
    unwritten = λ is. keeps_on site x y z looks loads.moments (loads.unwritten is);
    crash = λ dir is here. crash_by site dir x z (site.emitted x) refl (λ said told t images out le left. ⊎_elim
        (λ lt. inl (says_nothing site law x y said (looks_quiet site x y looks) told t images out le
        ((loads.moments.earlier t images out lt).0 left)))
        (λ ge. at_moment dir said told t images out ge left
        (loads.crash dir is (told_at AreEmpty (site.reads x) (site.reads y) looks.held here)))
        (cases_lt t (site.now y)));
  }
    where
      partly : IsPartlyTold source site from y z → IsPartlyTold source site from x z
      partly (inl nothing) = inl (stays_on (site.emitted x) (site.emitted y) (site.emitted z) looks.output nothing)
      partly (inr (inl line)) = inr (inl (
        line.0,
        line.1,
        part_on (site.emitted x) (site.emitted y) (site.emitted z)
            line.0 looks.output line.2,
      ))
      partly (inr (inr taken)) = inr (inr (
        told_back IsTaken (site.reads x) (site.reads y) looks.held taken.0,
        part_on (site.emitted x) (site.emitted y) (site.emitted z)
            (store_line Taken) looks.output taken.1,
      ))

      told_said : (said : List ℕ) (r0 r1 : Option (List ℕ)) → StaysTold r0 r1 → r0 ≡ Some said → (P : List ℕ → Type 0)
          → IfSome r1 P → P said
      told_said said None r1 same is P p = absurd cc
      told_said said (Some a) None same is P p = absurd same
      told_said said (Some a) (Some b) same is P p = subst P (same ∙ inside a is) p
        where
          inside : (a : List ℕ) → Some a ≡ Some said → a ≡ said
          inside a e = cc e

      at_moment : (dir : Directory) (said : List ℕ) → site.emitted x ≡ Some said → (t : ℕ) (images : Images)
          (out : List ℕ) → site.now y ≤ t
          → site.left z t images out → Crash site dir y z → (out ≡ said) ⊎ IsStoreOf images dir
      at_moment dir said told t images out ge left crash =
          told_said said (site.emitted x) (site.emitted y) looks.output told
          (λ s. (t : ℕ) (images : Images) (out : List ℕ) → site.now y ≤ t
          → site.left z t images out → (out ≡ s) ⊎ IsStoreOf images dir) crash t images out ge left

  -- ---- a slot isn't empty

  pub of_taken : IsLawful site → (from : I) (x y z : S) (outcome : Outcome) → OnlyLooks site x y
      → IfSome (site.reads x) IsTaken
      → Says site y z (store_line Taken) NoStore outcome → LoadDoes source site from from x z outcome
  of_taken law from x y z outcome looks taken says = ⊎_elim
      (λ done. subst (LoadDoes source site from from x z) (sym done.0) (record {
        done = λ no. absurd cc;
        refused = λ no. absurd cc;
        taken = λ _. record {
          slots = told_map IsTaken (λ held. IsTaken held × (from ≡ from)) (site.reads x) (λ held is. (is, refl)) taken;
          line = emits_on (site.emitted x) (site.emitted y) (site.emitted z) (store_line Taken) looks.output done.1;
        };
        complete = λ _ empty _. absurd (not_both (site.reads x) empty taken);
        refuses = λ _ empty _. absurd (not_both (site.reads x) empty taken);
        sees = λ _ _. refl;
        keeps = λ _. keeps_said site x y z (store_line Taken) looks.held looks.images looks.moments.later says.held
            says.moments says.images;
        partly = λ no. absurd cc;
        quiet = λ no. absurd no;
        unwritten = λ _. keeps_said site x y z (store_line Taken) looks.held looks.images looks.moments.later
            says.held says.moments says.images;
        crash = λ dir _ empty. absurd (not_both (site.reads x) empty taken);
      }))
      (λ failed. subst (LoadDoes source site from from x z) (sym failed.0) (record {
        done = λ no. absurd cc;
        refused = λ no. absurd cc;
        taken = λ no. absurd cc;
        complete = λ _ empty _. absurd (not_both (site.reads x) empty taken);
        refuses = λ _ empty _. absurd (not_both (site.reads x) empty taken);
        sees = λ _ healthy. absurd (healthy.output
            (subst (λ k. HasRisen k (site.out_faults z)) looks.out_faults failed.2));
        keeps = λ _. keeps_said site x y z (store_line Taken) looks.held looks.images looks.moments.later says.held
            says.moments says.images;
        partly = λ _. inr (inr (
          taken,
          part_on (site.emitted x) (site.emitted y) (site.emitted z) (store_line Taken)
              looks.output failed.1,
        ));
        quiet = λ no. absurd no;
        unwritten = λ no. absurd no;
        crash = λ dir _ empty. absurd (not_both (site.reads x) empty taken);
      }))
      says.ended

  -- ---- the site failed before

  pub of_failed : IsLawful site → (from : I) (x y : S) → OnlyLooks site x y → HasRisen (site.slot_faults x)
      (site.slot_faults y)
      → LoadDoes source site from from x y SiteFailed
  of_failed law from x y looks risen = record {
    done = λ no. absurd cc;
    refused = λ no. absurd cc;
    taken = λ no. absurd cc;
    complete = λ _ _ healthy. absurd (healthy.keeps_well.slots risen);
    refuses = λ _ _ healthy. absurd (healthy.keeps_well.slots risen);
    sees = λ _ healthy. absurd (healthy.slots risen);
    keeps = λ _. looks_keep site x y looks;
    partly = λ _. inl looks.output;
    quiet = λ no. absurd no;
    unwritten = λ no. absurd no;
    crash = λ dir _ _. crash_by site dir x y (site.emitted x) refl
        (λ said is t images out le left. inl (says_nothing site law x y said (looks_quiet site x y looks) is t images
        out le left));
  }
