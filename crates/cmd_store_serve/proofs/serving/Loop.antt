-- The loop of serving: what holds before each frame, and how it ends from there.
use Rattle.std.proofs.Common.{◌≡◌, ◌∙◌, inl, inr, ⊎_elim, ℕ, suc, ◌≤◌, List, [], ◌∷◌, ◌++◌, Option, Some, None}
use Rattle.std.proofs.Common.{Result, Ok, Err, refl, sym, ap, subst, arith}
use Rattle.site_io.specs.Counts.{HasRisen}
use Rattle.site_io.specs.Told.{BothTold}
use Rattle.site_io.specs.declared.source.Source.{Ghosts as SourceGhosts}
use Rattle.site_io.specs.declared.site.Site.{Ghosts as SiteGhosts}
use Rattle.ad_dir_model.specs.Directory.{Directory}
use Rattle.ad_frames.specs.declared.fault.FrameFault.{FrameFault}
use Rattle.ad_frames.specs.declared.fault.FrameFault.TheVariants as fault
use Rattle.ad_frames.specs.declared.frame.Frame.{Frame}
use Rattle.ad_frames.specs.Frames.{Whole, Over, Frames, bad, frames_within, frames_of}
use Rattle.ad_frames.specs.Reading.{frame_at, next_of}
use Rattle.ad_frames.specs.Source.{ReadsSource, IsCutShort}
use Rattle.ad_frames.proofs.SourceSteps.{told_more, told_then}
use Rattle.ad_engine_store.specs.declared.dir_store.DirStore.{DirStore}
use Rattle.cmd_call.specs.declared.outcome.Outcome.{Outcome}
use Rattle.cmd_call.specs.declared.outcome.Outcome.TheVariants.{Done, NotOfForm, NoCommand, NoStore, NoObject}
use Rattle.cmd_call.specs.declared.outcome.Outcome.TheVariants.{TooMany, SourceFailed, SiteFailed, NoMemory}
use Rattle.cmd_call.specs.Store.{HasFailed}
use Rattle.cmd_call.proofs.Moments.{rises_from}
use Rattle.cmd_store_serve.specs.serving.One.{Ended, IsOfSite, IsAnswered, AnswersFrame}
use Rattle.cmd_store_open.specs.Ends.{of_frame, IsEnd}
use Rattle.cmd_store_open.proofs.ReadSoFar.{HasRead, within_none}
use Rattle.cmd_store_open.proofs.ReadSoFar.{within_over, next_none, next_bad, cut_short, taken_are}
use Rattle.cmd_store_serve.proofs.serving.Running.{Serving, serving_more}
use Rattle.cmd_store_open.proofs.Fronts.{Fronts}
use Rattle.cmd_store_serve.proofs.serving.Ending.{Leaves, leaves_served, leaves_amid}
use Rattle.cmd_store_serve.proofs.serving.Ending.{ends_whole, ends_bad, ends_over, ends_cut, ends_memory, ends_failed}
use Rattle.cmd_store_open.proofs.Fronts.{fronts_of, ends_by, read_next}

-- what was taken of the next frame is too short for it
cut_by : (served : List Frame) (more : ℕ) (r0 r1 r2 : Option (List ℕ)) → BothTold r0 r1 (HasRead served (suc more))
    → IsCutShort r1 r2 frame_at
    → BothTold r0 r2 (λ input left. (text : List ℕ) × (input ≡ text ++ left) × (served ≡ (frames_of text).frames))
cut_by served more r0 r1 r2 read cut =
    told_then r0 r1 r2 _ _ _ (λ input rest left has short. taken_are served (suc more) input rest short.0 left has
    short.1 (cut_short more short.0 fault.Truncated short.2)) read cut

-- nothing was taken after the last frame
cut_last : (served : List Frame) (r0 r1 r2 : Option (List ℕ)) → BothTold r0 r1 (HasRead served 0)
    → BothTold r1 r2 (λ rest left. rest ≡ left)
    → BothTold r0 r2 (λ input left. (text : List ℕ) × (input ≡ text ++ left) × (served ≡ (frames_of text).frames))
cut_last served r0 r1 r2 read same =
    told_then r0 r1 r2 _ _ _ (λ input rest left has is. taken_are served 0 input rest [] left has is
    (ap (λ (fs : Frames). fs.frames) (within_none 0))) read same

module _ {I S : Type 0} (source : SourceGhosts I) (site : SiteGhosts S) where
  -- before each frame, of which so many more may come
  pub record IsServing (from to : I) (old new : S) (engine : DirStore) (more : ℕ) : Type 0 where
    pub dir : Directory
    pub served : List Frame
    pub serving : Serving site dir served engine old new
    pub read : BothTold (source.rest from) (source.rest to) (HasRead served more)
    pub faults : source.faults from ≤ source.faults to

  -- a frame was answered
  pub served_one : (from to next : I) (old x z : S) (engine behind : DirStore) (frame : Frame) (more less : ℕ)
      (result : Result (Unit {0}) Outcome) → more ≡ suc less
      → IsServing from to old x engine more → ReadsSource (source.rest to) (source.rest next) (Ok (Some frame))
      next_of → source.faults to ≤ source.faults next
      → AnswersFrame site engine behind frame x z result → IsAnswered site engine behind frame x z
      → IsServing from next old z behind less
  served_one from to next old x z engine behind frame more less result is so_far read falls answers answered = record {
    dir = so_far.dir;
    served = so_far.served ++ frame ∷ [];
    serving = serving_more site so_far.dir so_far.served engine behind frame old x z result so_far.serving answers
        answered;
    read = read_next so_far.served frame less (source.rest from) (source.rest to) (source.rest next)
        (subst (λ (n : ℕ). BothTold (source.rest from) (source.rest to) (HasRead so_far.served n)) is so_far.read) read;
    faults = omega (arith, so_far.faults, falls);
  }

  -- ---- the input ended

  pub ended_none : (from to next : I) (old new : S) (engine : DirStore) (more : ℕ) → IsServing from to old new engine more
      → ReadsSource {X = Option Frame} (source.rest to) (source.rest next) (Ok None) next_of
      → Ended source site from next old new Done
  ended_none from to next old new engine more so_far none =
      let left = told_more (source.rest to) (source.rest next) _ (λ rest behind. (rest ≡ []) × (behind ≡ []))
      (λ rest behind is. next_none rest behind is) none in
      record {
        does = ends_whole source site from next so_far.dir so_far.served engine old new so_far.serving
            (ends_by so_far.served more (record { frames = []; end = Whole }) (source.rest from) (source.rest to)
            (source.rest next) refl so_far.read
            (told_more (source.rest to) (source.rest next) _ _ (λ rest behind is. ap (frames_within more) is.0
            ∙ within_none more) left))
            (told_then (source.rest from) (source.rest to) (source.rest next) _ _ _ (λ input rest behind has is. is.1)
            so_far.read left);
        source_failed = λ no. absurd cc;
        site_failed = λ no. absurd cc;
      }

  -- ---- there is no next frame

  bad_frame : (from to next : I) (old new : S) (engine : DirStore) (more less : ℕ) (d : FrameFault) → more ≡ suc less
      → IsServing from to old new engine more
      → BothTold (source.rest to) (source.rest next) (λ rest behind. next_of rest ≡ Err d)
      → Ended source site from next old new NotOfForm
  bad_frame from to next old new engine more less d is so_far told = record {
    does = ends_bad source site from next so_far.dir so_far.served engine old new so_far.serving
        (ends_by so_far.served more bad (source.rest from) (source.rest to) (source.rest next) refl so_far.read
        (told_more (source.rest to) (source.rest next) _ _ (λ rest behind e. ap (λ (n : ℕ). frames_within n rest) is
        ∙ next_bad less rest d e) told));
    source_failed = λ no. absurd cc;
    site_failed = λ no. absurd cc;
  }

  pub ended_fault : (from to next : I) (old new : S) (engine : DirStore) (more less : ℕ) (d : FrameFault) → more
      ≡ suc less → IsServing from to old new engine more
      → ReadsSource {X = Option Frame} (source.rest to) (source.rest next) (Err d) next_of
      → (d ≡ fault.Source → IsCutShort (source.rest to) (source.rest next) frame_at)
      → (d ≡ fault.Source → HasRisen (source.faults to) (source.faults next))
      → Ended source site from next old new (of_frame d)
  ended_fault from to next old new engine more less (fault.Kind n) is so_far told cut risen
      = bad_frame from to next old new engine more less (fault.Kind n) is so_far told
  ended_fault from to next old new engine more less (fault.Connection n) is so_far told cut risen =
      bad_frame from to next old new engine more less (fault.Connection n) is so_far told
  ended_fault from to next old new engine more less (fault.Length n) is so_far told cut risen
      = bad_frame from to next old new engine more less (fault.Length n) is so_far told
  ended_fault from to next old new engine more less (fault.Steps n) is so_far told cut risen
      = bad_frame from to next old new engine more less (fault.Steps n) is so_far told
  ended_fault from to next old new engine more less (fault.Token n) is so_far told cut risen
      = bad_frame from to next old new engine more less (fault.Token n) is so_far told
  ended_fault from to next old new engine more less fault.Truncated is so_far told cut risen
      = bad_frame from to next old new engine more less fault.Truncated is so_far told
  ended_fault from to next old new engine more less fault.Source is so_far told cut risen =
      let rises = rises_from (source.faults from) (source.faults to) (source.faults next) so_far.faults (risen refl) in
      record {
        does = ends_cut source site from next so_far.dir so_far.served engine old new so_far.serving
            (fronts_of so_far.served more (source.rest from) (source.rest to) so_far.read)
            (cut_by so_far.served less (source.rest from) (source.rest to) (source.rest next)
            (subst (λ (n : ℕ). BothTold (source.rest from) (source.rest to) (HasRead so_far.served n)) is so_far.read)
            (cut refl)) rises;
        source_failed = λ _. rises;
        site_failed = λ no. absurd cc;
      }
  ended_fault from to next old new engine more less fault.Memory is so_far told cut risen = record {
    does = ends_memory source site from next so_far.dir so_far.served old new
        (leaves_served site so_far.dir so_far.served engine old new so_far.serving)
        (fronts_of so_far.served more (source.rest from) (source.rest to) so_far.read);
    source_failed = λ no. absurd cc;
    site_failed = λ no. absurd cc;
  }

  -- ---- amid a frame

  failed_from : (dir : Directory) (served : List Frame) (engine : DirStore) (old x z : S) → Serving site dir served
      engine old x → HasFailed site x z → HasFailed site old z
  failed_from dir served engine old x z so_far (inl slots)
      = inl (rises_from (site.slot_faults old) (site.slot_faults x) (site.slot_faults z) so_far.slot_faults slots)
  failed_from dir served engine old x z so_far (inr output)
      = inr (rises_from (site.out_faults old) (site.out_faults x) (site.out_faults z) so_far.out_faults output)

  pub ended_amid : (from to next : I) (old x z : S) (engine behind : DirStore) (frame : Frame) (more less : ℕ)
      (result : Result (Unit {0}) Outcome) (outcome : Outcome) → more ≡ suc less
      → IsServing from to old x engine more → ReadsSource (source.rest to) (source.rest next) (Ok (Some frame)) next_of
      → AnswersFrame site engine behind frame x z result → IsOfSite outcome
      → (outcome ≡ SiteFailed → HasFailed site x z) → Ended source site from next old z outcome
  ended_amid from to next old x z engine behind frame more less result outcome is so_far read answers only cause =
      by outcome only cause
    where
      leaves : Leaves site so_far.dir (so_far.served ++ frame ∷ []) old z
      leaves = leaves_amid site so_far.dir so_far.served engine behind frame old x z result so_far.serving answers

      fronts : Fronts (so_far.served ++ frame ∷ []) (source.rest from)
      fronts = fronts_of (so_far.served ++ frame ∷ []) less (source.rest from) (source.rest next)
          (read_next so_far.served frame less (source.rest from) (source.rest to) (source.rest next)
          (subst (λ (n : ℕ). BothTold (source.rest from) (source.rest to) (HasRead so_far.served n)) is so_far.read)
          read)

      by : (outcome : Outcome) → IsOfSite outcome → (outcome ≡ SiteFailed → HasFailed site x z)
          → Ended source site from next old z outcome
      by SiteFailed of_site failed =
          let here = failed_from so_far.dir so_far.served engine old x z so_far.serving (failed refl) in
          record {
            does = ends_failed source site from next so_far.dir (so_far.served ++ frame ∷ []) old z leaves fronts here;
            source_failed = λ no. absurd cc;
            site_failed = λ _. here;
          }
      by NoMemory of_site failed = record {
        does = ends_memory source site from next so_far.dir (so_far.served ++ frame ∷ []) old z leaves fronts;
        source_failed = λ no. absurd cc;
        site_failed = λ no. absurd cc;
      }
      by Done of_site failed = absurd of_site
      by NotOfForm of_site failed = absurd of_site
      by NoCommand of_site failed = absurd of_site
      by NoStore of_site failed = absurd of_site
      by NoObject of_site failed = absurd of_site
      by TooMany of_site failed = absurd of_site
      by SourceFailed of_site failed = absurd of_site

  -- ---- after the last frame that may be

  pub ended_last : (from to next : I) (old new : S) (engine : DirStore) (more : ℕ) (outcome : Outcome) → more ≡ 0
      → IsServing from to old new engine more
      → IsEnd (source.rest to) (source.rest next) (source.faults to) (source.faults next) outcome
      → Ended source site from next old new outcome
  ended_last from to next old new engine more outcome is so_far end = ⊎_elim
      (λ done. subst (Ended source site from next old new) (sym done) (whole (end.whole done)))
      (λ rest. ⊎_elim (λ over. subst (Ended source site from next old new) (sym over) (beyond (end.over over)))
      (λ cut. subst (Ended source site from next old new) (sym cut) (off (end.cut cut))) rest)
      end.only
    where
      read : BothTold (source.rest from) (source.rest to) (HasRead so_far.served 0)
      read = subst (λ (n : ℕ). BothTold (source.rest from) (source.rest to) (HasRead so_far.served n)) is so_far.read

      whole : BothTold (source.rest to) (source.rest next) (λ rest behind. (rest ≡ []) × (behind ≡ []))
          → Ended source site from next old new Done
      whole left = record {
        does = ends_whole source site from next so_far.dir so_far.served engine old new so_far.serving
            (ends_by so_far.served 0 (record { frames = []; end = Whole }) (source.rest from) (source.rest to)
            (source.rest next) refl read
            (told_more (source.rest to) (source.rest next) _ _
            (λ rest behind e. ap (frames_within 0) e.0 ∙ within_none 0) left))
            (told_then (source.rest from) (source.rest to) (source.rest next) _ _ _ (λ input rest behind has e. e.1)
            read left);
        source_failed = λ no. absurd cc;
        site_failed = λ no. absurd cc;
      }

      beyond : BothTold (source.rest to) (source.rest next) (λ rest behind. rest ≡ [] → ⊥)
          → Ended source site from next old new TooMany
      beyond some = record {
        does = ends_over source site from next so_far.dir so_far.served engine old new so_far.serving
            (ends_by so_far.served 0 (record { frames = []; end = Over }) (source.rest from) (source.rest to)
            (source.rest next) refl read
            (told_more (source.rest to) (source.rest next) _ _ (λ rest behind e. within_over rest e) some));
        source_failed = λ no. absurd cc;
        site_failed = λ no. absurd cc;
      }

      off : BothTold (source.rest to) (source.rest next) (λ rest left. rest ≡ left) × HasRisen (source.faults to)
          (source.faults next) → Ended source site from next old new SourceFailed
      off same =
          let rises = rises_from (source.faults from) (source.faults to) (source.faults next) so_far.faults same.1 in
          record {
            does = ends_cut source site from next so_far.dir so_far.served engine old new so_far.serving
                (fronts_of so_far.served 0 (source.rest from) (source.rest to) read)
                (cut_last so_far.served (source.rest from) (source.rest to) (source.rest next) read same.0) rises;
            source_failed = λ _. rises;
            site_failed = λ no. absurd cc;
          }
