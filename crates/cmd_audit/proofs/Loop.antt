-- The loop of auditing: what holds before each frame, and how it ends from there.
use Rattle.std.proofs.Common.{◌≡◌, ◌∙◌, ◌⊎◌, inr, ⊎_elim, ℕ, suc, ◌+◌, ◌≤◌, List, [], ◌∷◌, ◌++◌, length, Option, Some}
use Rattle.std.proofs.Common.{None, Result, Ok, Err, refl, sym, ap, subst, length-append, arith}
use Rattle.std.specs.Option.{IfSome}
use Rattle.site_io.specs.Counts.{HasRisen}
use Rattle.site_io.specs.Told.{BothTold}
use Rattle.site_io.specs.Disk.{GoesOn}
use Rattle.site_io.specs.Outside.{OnlyLooks}
use Rattle.site_io.specs.declared.source.Source.{Ghosts as SourceGhosts}
use Rattle.site_io.specs.declared.site.Site.{Ghosts as SiteGhosts}
use Rattle.ad_dir_model.specs.Directory.{Directory}
use Rattle.ad_rows_write.specs.Rows.{IsStoreOf}
use Rattle.ad_frames.specs.declared.fault.FrameFault.{FrameFault}
use Rattle.ad_frames.specs.declared.fault.FrameFault.TheVariants as fault
use Rattle.ad_frames.specs.declared.frame.Frame.{Frame}
use Rattle.ad_frames.specs.Frames.{Whole, Over, bad, frames_within}
use Rattle.ad_frames.specs.Reading.{next_of}
use Rattle.ad_frames.specs.Source.{ReadsSource}
use Rattle.ad_frames.proofs.SourceSteps.{told_more, told_then}
use Rattle.cmd_call.specs.declared.outcome.Outcome.{Outcome}
use Rattle.cmd_call.specs.declared.outcome.Outcome.TheVariants.{Done, NotOfForm, TooMany, SourceFailed, SiteFailed}
use Rattle.cmd_call.specs.declared.outcome.Outcome.TheVariants.{NoMemory}
use Rattle.cmd_call.specs.Store.{Emits}
use Rattle.cmd_call.proofs.Moments.{rises_from, goes_on_on, looks_keep}
use Rattle.cmd_store_open.specs.Ends.{of_frame, IsEnd}
use Rattle.cmd_store_open.proofs.ReadSoFar.{HasRead, within_none, within_over, next_none, next_bad}
use Rattle.cmd_store_open.proofs.Fronts.{Fronts}
use Rattle.cmd_store_open.proofs.Parts.{part_more}
use Rattle.cmd_store_open.proofs.Fronts.{read_start, fronts_of, ends_by, read_next}
use Rattle.cmd_store_open.proofs.Parts.{part_whole}
use Rattle.cmd_audit.specs.Log.{frame_lines, audit_text}
use Rattle.cmd_audit.specs.State.{State, behind}
use Rattle.cmd_audit.specs.Steps.{TellsFrame, Ended}
use Rattle.cmd_audit.proofs.Ending.{Told, PartTold, ends_whole, ends_bad, ends_over, ends_cut, ends_memory, ends_failed}
use Rattle.cmd_audit.proofs.Fold.{reached, reached_push, text_none, text_push}
use Rattle.cmd_audit.proofs.Telling.{emits_none, emits_then, keeps_then}

module _ {I S : Type 0} (source : SourceGhosts I) (site : SiteGhosts S) where
  -- before each frame, of which so many more may come
  pub record IsAuditing (dir : Directory) (state : State) (from to : I) (old new : S) (more : ℕ) : Type 0 where
    pub served : List Frame
    pub state_is : state ≡ reached dir served
    pub count : length served + more ≡ 1000000
    pub told : Told site dir served old new
    pub moments : GoesOn (site.now old) (site.now new) (site.left old) (site.left new)
    pub read : BothTold (source.rest from) (source.rest to) (HasRead served more)
    pub faults : source.faults from ≤ source.faults to
    pub slot_faults : site.slot_faults old ≤ site.slot_faults new
    pub out_faults : site.out_faults old ≤ site.out_faults new

  pub auditing_none : (dir : Directory) (state : State) (from : I) (old new : S) (more : ℕ) → more ≡ 1000000 → state
      ≡ reached dir [] → OnlyLooks site old new
      → IfSome (site.reads old) (λ held. IsStoreOf held dir) → IsAuditing dir state from from old new more
  auditing_none dir state from old new more is state_is looks store = record {
    served = [];
    state_is = state_is;
    count = omega (arith, is);
    told = record {
      store = store;
      all = subst (λ (t : List ℕ). Emits (site.emitted old) (site.emitted new) t) (sym (text_none dir))
          (emits_none (site.emitted old) (site.emitted new) looks.output);
      keeps = looks_keep site old new looks;
    };
    moments = looks.moments;
    read = read_start (source.rest from) more is;
    faults = omega arith;
    slot_faults = looks.never_falls;
    out_faults = omega (arith, looks.out_faults);
  }

  -- the lines of the next frame
  next_text : (dir : Directory) (state : State) (served : List Frame) (number : ℕ) (frame : Frame) → state
      ≡ reached dir served → number ≡ 1 + length served
      → audit_text dir (served ++ frame ∷ []) ≡ audit_text dir served ++ frame_lines state.directory state.tokens
      number frame
  next_text dir state served number frame is at =
      text_push dir served frame
      ∙ ap (λ (n : ℕ). audit_text dir served ++ frame_lines (reached dir served).directory (reached dir served).tokens
      n frame) (sym at)
      ∙ ap (λ (x : State). audit_text dir served ++ frame_lines x.directory x.tokens number frame) (sym is)

  -- a frame was judged and served
  pub audited_one : (dir : Directory) (state after : State) (from to next : I) (old x z : S) (number : ℕ)
      (frame : Frame) (more less : ℕ) → more ≡ suc less
      → number + more ≡ 1000001 → IsAuditing dir state from to old x more → ReadsSource (source.rest to)
      (source.rest next) (Ok (Some frame)) next_of
      → source.faults to ≤ source.faults next → TellsFrame site state after number frame x z (Ok tt)
      → IsAuditing dir after from next old z less
  audited_one dir state after from to next old x z number frame more less is at so_far read falls tells = record {
    served = so_far.served ++ frame ∷ [];
    state_is = tells.served ∙ ap (λ (s : State). behind s frame) so_far.state_is ∙ reached_push dir so_far.served frame;
    count = omega (arith, so_far.count, is, length-append so_far.served (frame ∷ []));
    told = record {
      store = so_far.told.store;
      all = subst (λ (t : List ℕ). Emits (site.emitted old) (site.emitted z) t)
          (sym (next_text dir state so_far.served number frame so_far.state_is (omega (arith, so_far.count, at))))
          (emits_then (site.emitted old) (site.emitted x) (site.emitted z) (audit_text dir so_far.served)
          (frame_lines state.directory state.tokens number frame)
          so_far.told.all tells.whole);
      keeps = keeps_then site old x z so_far.told.keeps so_far.moments.later tells.moments tells.keeps;
    };
    moments = goes_on_on (site.now old) (site.now x) (site.now z) (site.left old) (site.left x) (site.left z)
        so_far.moments tells.moments;
    read = read_next so_far.served frame less (source.rest from) (source.rest to) (source.rest next)
        (subst (λ (n : ℕ). BothTold (source.rest from) (source.rest to) (HasRead so_far.served n)) is so_far.read) read;
    faults = omega (arith, so_far.faults, falls);
    slot_faults = omega (arith, so_far.slot_faults, tells.slot_faults);
    out_faults = omega (arith, so_far.out_faults, tells.never_falls);
  }

  -- ---- the input ended

  part_of : (dir : Directory) (state : State) (from to : I) (old new : S) (more : ℕ)
      (so_far : IsAuditing dir state from to old new more)
      → PartTold site dir so_far.served old new
  part_of dir state from to old new more so_far = record {
    store = so_far.told.store;
    part = part_whole (site.emitted old) (site.emitted new) (audit_text dir so_far.served) so_far.told.all;
    keeps = so_far.told.keeps;
  }

  pub ended_none : (dir : Directory) (state : State) (from to next : I) (old new : S) (more : ℕ)
      → IsAuditing dir state from to old new more
      → ReadsSource {X = Option Frame} (source.rest to) (source.rest next) (Ok None) next_of
      → Ended source site from next old new Done
  ended_none dir state from to next old new more so_far none =
      let left = told_more (source.rest to) (source.rest next) _ (λ rest behind. (rest ≡ []) × (behind ≡ []))
      (λ rest behind is. next_none rest behind is) none in
      ends_whole source site from next dir so_far.served old new so_far.told
      (ends_by so_far.served more (record { frames = []; end = Whole }) (source.rest from) (source.rest to)
      (source.rest next) refl so_far.read
      (told_more (source.rest to) (source.rest next) _ _ (λ rest behind is. ap (frames_within more) is.0
      ∙ within_none more) left))
      (told_then (source.rest from) (source.rest to) (source.rest next) _ _ _ (λ input rest behind has is. is.1)
      so_far.read left)

  -- ---- there is no next frame

  bad_frame : (dir : Directory) (state : State) (from to next : I) (old new : S) (more less : ℕ) (d : FrameFault)
      → more ≡ suc less → IsAuditing dir state from to old new more
      → BothTold (source.rest to) (source.rest next) (λ rest behind. next_of rest ≡ Err d)
      → Ended source site from next old new NotOfForm
  bad_frame dir state from to next old new more less d is so_far told =
      ends_bad source site from next dir so_far.served old new so_far.told
      (ends_by so_far.served more bad (source.rest from) (source.rest to) (source.rest next) refl so_far.read
      (told_more (source.rest to) (source.rest next) _ _ (λ rest behind e. ap (λ (n : ℕ). frames_within n rest) is
      ∙ next_bad less rest d e) told))

  pub ended_fault : (dir : Directory) (state : State) (from to next : I) (old new : S) (more less : ℕ)
      (d : FrameFault) → more ≡ suc less
      → IsAuditing dir state from to old new more
      → ReadsSource {X = Option Frame} (source.rest to) (source.rest next) (Err d) next_of
      → (d ≡ fault.Source → HasRisen (source.faults to) (source.faults next)) → Ended source site from next old new
      (of_frame d)
  ended_fault dir state from to next old new more less (fault.Kind n) is so_far told risen = bad_frame dir state from
      to next old new more less (fault.Kind n) is so_far told
  ended_fault dir state from to next old new more less (fault.Connection n) is so_far told risen
      = bad_frame dir state from to next old new more less (fault.Connection n) is so_far told
  ended_fault dir state from to next old new more less (fault.Length n) is so_far told risen
      = bad_frame dir state from to next old new more less (fault.Length n) is so_far told
  ended_fault dir state from to next old new more less (fault.Steps n) is so_far told risen = bad_frame dir state from
      to next old new more less (fault.Steps n) is so_far told
  ended_fault dir state from to next old new more less (fault.Token n) is so_far told risen = bad_frame dir state from
      to next old new more less (fault.Token n) is so_far told
  ended_fault dir state from to next old new more less fault.Truncated is so_far told risen = bad_frame dir state from
      to next old new more less fault.Truncated is so_far told
  ended_fault dir state from to next old new more less fault.Source is so_far told risen =
      ends_cut source site from next dir so_far.served old new (part_of dir state from to old new more so_far)
      (fronts_of so_far.served more (source.rest from) (source.rest to) so_far.read)
      (rises_from (source.faults from) (source.faults to) (source.faults next) so_far.faults (risen refl))
  ended_fault dir state from to next old new more less fault.Memory is so_far told risen =
      ends_memory source site from next dir so_far.served old new (part_of dir state from to old new more so_far)
      (fronts_of so_far.served more (source.rest from) (source.rest to) so_far.read)

  -- ---- amid a frame

  pub ended_amid : (dir : Directory) (state after : State) (from to next : I) (old x z : S) (number : ℕ)
      (frame : Frame) (more less : ℕ) (result : Result (Unit {0}) Outcome)
      (outcome : Outcome) → more ≡ suc less → number + more ≡ 1000001 → IsAuditing dir state from to old x more
      → ReadsSource (source.rest to) (source.rest next) (Ok (Some frame)) next_of → TellsFrame site state after number
      frame x z result
      → (outcome ≡ NoMemory) ⊎ ((outcome ≡ SiteFailed) × HasRisen (site.out_faults x) (site.out_faults z))
      → Ended source site from next old z outcome
  ended_amid dir state after from to next old x z number frame more less result outcome is at so_far read tells failed
      = ⊎_elim
      (λ memory. subst (Ended source site from next old z) (sym memory)
      (ends_memory source site from next dir (so_far.served ++ frame ∷ []) old z part fronts))
      (λ site_failed. subst (Ended source site from next old z) (sym site_failed.0)
      (ends_failed source site from next dir (so_far.served ++ frame ∷ []) old z part fronts
      (inr (rises_from (site.out_faults old) (site.out_faults x) (site.out_faults z) so_far.out_faults site_failed.1))))
      failed
    where
      part : PartTold site dir (so_far.served ++ frame ∷ []) old z
      part = record {
        store = so_far.told.store;
        part = part_more (site.emitted old) (site.emitted x) (site.emitted z) (audit_text dir so_far.served)
            (frame_lines state.directory state.tokens number frame)
            (audit_text dir (so_far.served ++ frame ∷ []))
            (next_text dir state so_far.served number frame so_far.state_is (omega (arith, so_far.count, at)))
            so_far.told.all tells.part;
        keeps = keeps_then site old x z so_far.told.keeps so_far.moments.later tells.moments tells.keeps;
      }

      fronts : Fronts (so_far.served ++ frame ∷ []) (source.rest from)
      fronts = fronts_of (so_far.served ++ frame ∷ []) less (source.rest from) (source.rest next)
          (read_next so_far.served frame less (source.rest from) (source.rest to) (source.rest next)
          (subst (λ (n : ℕ). BothTold (source.rest from) (source.rest to) (HasRead so_far.served n)) is so_far.read)
          read)

  -- ---- after the last frame that may be

  pub ended_last : (dir : Directory) (state : State) (from to next : I) (old new : S) (more : ℕ) (outcome : Outcome)
      → more ≡ 0 → IsAuditing dir state from to old new more
      → IsEnd (source.rest to) (source.rest next) (source.faults to) (source.faults next) outcome
      → Ended source site from next old new outcome
  ended_last dir state from to next old new more outcome is so_far end = ⊎_elim
      (λ done. subst (Ended source site from next old new) (sym done) (whole (end.whole done)))
      (λ rest. ⊎_elim (λ over. subst (Ended source site from next old new) (sym over) (beyond (end.over over)))
      (λ cut. subst (Ended source site from next old new) (sym cut) (off (end.cut cut))) rest)
      end.only
    where
      read : BothTold (source.rest from) (source.rest to) (HasRead so_far.served 0)
      read = subst (λ (n : ℕ). BothTold (source.rest from) (source.rest to) (HasRead so_far.served n)) is so_far.read

      whole : BothTold (source.rest to) (source.rest next) (λ rest behind. (rest ≡ []) × (behind ≡ []))
          → Ended source site from next old new Done
      whole left = ends_whole source site from next dir so_far.served old new so_far.told
          (ends_by so_far.served 0 (record { frames = []; end = Whole }) (source.rest from) (source.rest to)
          (source.rest next) refl read
          (told_more (source.rest to) (source.rest next) _ _
          (λ rest behind e. ap (frames_within 0) e.0 ∙ within_none 0) left))
          (told_then (source.rest from) (source.rest to) (source.rest next) _ _ _ (λ input rest behind has e. e.1)
          read left)

      beyond : BothTold (source.rest to) (source.rest next) (λ rest behind. rest ≡ [] → ⊥)
          → Ended source site from next old new TooMany
      beyond some = ends_over source site from next dir so_far.served old new so_far.told
          (ends_by so_far.served 0 (record { frames = []; end = Over }) (source.rest from) (source.rest to)
          (source.rest next) refl read
          (told_more (source.rest to) (source.rest next) _ _ (λ rest behind e. within_over rest e) some))

      off : BothTold (source.rest to) (source.rest next) (λ rest left. rest ≡ left) × HasRisen (source.faults to)
          (source.faults next) → Ended source site from next old new SourceFailed
      off same = ends_cut source site from next dir so_far.served old new
          (part_of dir state from to old new more so_far)
          (fronts_of so_far.served 0 (source.rest from) (source.rest to) read)
          (rises_from (source.faults from) (source.faults to) (source.faults next) so_far.faults same.1)
