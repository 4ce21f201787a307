-- Frames were served, and the numbers told.
use Rattle.std.proofs.Common.{◌≡◌, ◌∙◌, ◌⊎◌, inl, inr, ⊎_elim, ℕ, ◌≤◌, false, List, Option, Some, None, sym, ap}
use Rattle.std.proofs.Common.{subst, arith}
use Rattle.std.specs.Option.{IfSome}
use Rattle.std.proofs.lemmas.Bool.{cases_lt}
use Rattle.site_io.specs.Counts.{HasRisen}
use Rattle.site_io.specs.Disk.{Images, GoesOn}
use Rattle.site_io.specs.Outside.{StaysKnown, TouchesSlots}
use Rattle.site_io.specs.Told.{StaysTold}
use Rattle.site_io.specs.declared.site.Site.{Ghosts as SiteGhosts}
use Rattle.ad_frames.specs.declared.frame.Frame.{Frame}
use Rattle.ad_dir_model.specs.Directory.{Directory}
use Rattle.ad_engine.specs.Runs.{after}
use Rattle.ad_rows_write.specs.Rows.{IsStoreOf}
use Rattle.ad_engine_store.specs.Standing.{HoldsDir, StandsIn}
use Rattle.ad_engine_store.specs.declared.dir_store.DirStore.{DirStore}
use Rattle.ad_engine_store.proofs.Opening.{holds_has, store_of}
use Rattle.cmd_call.specs.Store.{Emits, EmitsPart, Says}
use Rattle.cmd_call.specs.declared.outcome.Outcome.{Outcome}
use Rattle.cmd_call.specs.declared.outcome.Outcome.TheVariants.{Done, NotOfForm, NoCommand, NoStore, NoObject}
use Rattle.cmd_call.specs.declared.outcome.Outcome.TheVariants.{TooMany, SourceFailed, SiteFailed, NoMemory}
use Rattle.cmd_call.proofs.Moments.{told_map, told_on, emits_on, part_on, goes_on_on}
use Rattle.cmd_store_serve.specs.Answers.{outputs}
use Rattle.cmd_store_serve.specs.Text.{sample_text, text_of}
use Rattle.cmd_store_serve.specs.SampleServing.{IsCutOff, IsOfTelling, EachLeaves, AreServed, TellsServed}
use Rattle.ad_engine_store.specs.declared.engine_fault.EngineFault.{EngineFault}
use Rattle.cmd_store_open.specs.Failed.{EndsFor}

-- ---- how it ends where a call on the engine failed

pub of_cut : (fault : EngineFault) (outcome : Outcome) → EndsFor fault outcome → IsCutOff outcome
of_cut fault outcome (inl site) = subst IsCutOff (sym site.1) tt
of_cut fault outcome (inr memory) = subst IsCutOff (sym memory.1) tt

cut_is : (outcome : Outcome) → IsCutOff outcome → IsOfTelling outcome
cut_is SiteFailed cut = tt
cut_is NoMemory cut = tt
cut_is Done cut = absurd cut
cut_is NotOfForm cut = absurd cut
cut_is NoCommand cut = absurd cut
cut_is NoStore cut = absurd cut
cut_is NoObject cut = absurd cut
cut_is TooMany cut = absurd cut
cut_is SourceFailed cut = absurd cut

known_then : (r0 r1 r2 : Option Images) → StaysKnown r0 r1 → StaysTold r1 r2 → StaysKnown r0 r2
known_then None None None first second = tt
known_then (Some x) (Some y) (Some z) first second = tt
known_then None None (Some z) first second = absurd second
known_then None (Some y) r2 first second = absurd first
known_then (Some x) None r2 first second = absurd first
known_then (Some x) (Some y) None first second = absurd second

module _ {S : Type 0} (site : SiteGhosts S) where
  -- at each moment the output was one that it could be as the call began
  abbrev Quiet : Directory → List Frame → S → S → Type 0
  Quiet dir frames x y = IfSome (site.reads x)
      (λ held. EachLeaves site dir x → (t : ℕ) (images : Images) (out : List ℕ) → site.now x ≤ t
      → site.left y t images out
      → ((began : Images) × site.left x (site.now x) began out) ⊎ IsStoreOf images (after dir frames))

  quiet_of : (dir : Directory) (frames : List Frame) (x y : S) → TouchesSlots site x y → Quiet dir frames x y
  quiet_of dir frames x y touches = by (site.reads x)
    where
      by : (r : Option Images) → IfSome r (λ held. EachLeaves site dir x → (t : ℕ) (images : Images) (out : List ℕ)
          → site.now x ≤ t → site.left y t images out
          → ((began : Images) × site.left x (site.now x) began out) ⊎ IsStoreOf images (after dir frames))
      by None = tt
      by (Some held) = λ each t images out le left. inl (touches.quiet t images out le left)

  -- nothing was told
  pub told_nothing : (dir : Directory) (frames : List Frame) (x y : S) (outcome : Outcome) → TouchesSlots site x y
      → IsCutOff outcome
      → (outcome ≡ SiteFailed → HasRisen (site.slot_faults x) (site.slot_faults y)) → TellsServed site dir frames x y
      outcome
  told_nothing dir frames x y outcome touches cut cause = record {
    done = λ is. absurd (subst IsCutOff is cut);
    store = λ is. absurd (subst IsCutOff is cut);
    every_crash = λ is. absurd (subst IsCutOff is cut);
    quiet = λ _. touches.output;
    failed = λ is. (inl (cause is), inl touches.output);
    crash = quiet_of dir frames x y touches;
    known = touches.known;
    moments = touches.moments;
    slot_faults = touches.never_falls;
    out_faults = omega (arith, touches.out_faults);
    only = cut_is outcome cut;
  }

  -- the store represents the directory of the engine
  stands_for : (engine : DirStore) (dir : Directory) (y : S) → engine.dir ≡ dir → StandsIn engine (site.reads y)
      (site.now y) (site.left y) → engine.spent ≡ false
      → IfSome (site.reads y) (λ held. IsStoreOf held dir)
  stands_for engine dir y is stands unspent = told_map (HoldsDir engine) (λ held. IsStoreOf held dir) (site.reads y)
      (λ held has. subst (IsStoreOf held) is
      (store_of engine.dir held has.table has.rows (stands unspent).sound
      (holds_has engine.store held has.table has.holds)))
      (stands unspent).held

  -- the numbers were told, or a prefix of them
  pub told_numbers : (before behind : DirStore) (frames : List Frame) (answers : List (List ℕ)) (text : List ℕ)
      (x y z : S) (outcome : Outcome)
      → AreServed site before behind frames answers x y → TouchesSlots site x y → text ≡ text_of answers behind.dir
      → Says site y z text Done outcome
      → TellsServed site before.dir frames x z outcome
  told_numbers before behind frames answers text x y z outcome served touches text_is says = ⊎_elim
      (λ done. subst (TellsServed site before.dir frames x z) (sym done.0) (record {
        done = λ _. emits_on (site.emitted x) (site.emitted y) (site.emitted z) (sample_text before.dir frames)
            touches.output
            (subst (λ (t : List ℕ). Emits (site.emitted y) (site.emitted z) t) same done.1);
        store = λ _. told_on (λ held. IsStoreOf held (after before.dir frames)) (site.reads y) (site.reads z) says.held
            (stands_for behind (after before.dir frames) y served.directory served.stands served.unspent);
        every_crash = λ _. every;
        quiet = λ no. absurd cc;
        failed = λ no. absurd cc;
        crash = crash;
        known = known;
        moments = goes;
        slot_faults = omega (arith, touches.never_falls, says.slot_faults);
        out_faults = omega (arith, touches.out_faults, says.never_falls);
        only = tt;
      }))
      (λ failed. subst (TellsServed site before.dir frames x z) (sym failed.0) (record {
        done = λ no. absurd cc;
        store = λ no. absurd cc;
        every_crash = λ no. absurd cc;
        quiet = λ no. absurd cc;
        failed = λ _. (
          inr (subst (λ (k : ℕ). HasRisen k (site.out_faults z)) touches.out_faults failed.2),
          inr (part_on (site.emitted x) (site.emitted y) (site.emitted z) (sample_text before.dir frames) touches.output
              (subst (λ (t : List ℕ). EmitsPart (site.emitted y) (site.emitted z) t) same failed.1)),
        );
        crash = crash;
        known = known;
        moments = goes;
        slot_faults = omega (arith, touches.never_falls, says.slot_faults);
        out_faults = omega (arith, touches.out_faults, says.never_falls);
        only = tt;
      }))
      says.ended
    where
      same : text ≡ sample_text before.dir frames
      same = text_is ∙ ap (λ (a : List (List ℕ)). text_of a behind.dir) served.answers_are
          ∙ ap (λ (d : Directory). text_of (outputs before.dir frames) d) served.directory

      goes : GoesOn (site.now x) (site.now z) (site.left x) (site.left z)
      goes = goes_on_on (site.now x) (site.now y) (site.now z) (site.left x) (site.left y) (site.left z)
          touches.moments says.moments

      known : StaysKnown (site.reads x) (site.reads z)
      known = known_then (site.reads x) (site.reads y) (site.reads z) touches.known says.held

      lasts : IfSome (site.reads x) (λ held. EachLeaves site before.dir x → EachLeaves site (after before.dir frames) y)
      lasts = told_map _ _ (site.reads x)
          (λ held by each. subst (λ (d : Directory). EachLeaves site d y) served.directory (by each)) served.lasts

      every : IfSome (site.reads x) (λ held. EachLeaves site before.dir x → EachLeaves site (after before.dir frames) z)
      every = told_map _ _ (site.reads x) (λ held by each images out left.
          let so_far = says.images (site.now z) images out says.moments.later left in
          by each images so_far.0 so_far.2) lasts

      crash : Quiet before.dir frames x z
      crash = told_map _ _ (site.reads x) (λ held by each t images out le left. ⊎_elim
          (λ lt. inl (touches.quiet t images out le ((says.moments.earlier t images out lt).0 left)))
          (λ ge. let so_far = says.images t images out ge left in inr (by each images so_far.0 so_far.2))
          (cases_lt t (site.now y))) lasts
