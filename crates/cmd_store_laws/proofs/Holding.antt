-- What the commands do over a site that tells all.
use Rattle.std.proofs.Common.{◌≡◌, ◌∙◌, ◌⊎◌, inl, inr, ⊎_elim, ℕ, ◌<◌, ◌≤◌, List, [], ◌++◌}
use Rattle.std.proofs.Common.{Option, Some, None, Result, Err}
use Rattle.std.proofs.Common.{refl, sym, ap, subst, arith}
use Rattle.std.specs.Option.{IfSome}
use Rattle.std.proofs.lemmas.Bool.{cases_lt}
use Rattle.std.proofs.lemmas.List.{append-nil}
use Rattle.std.proofs.lemmas.Option.{same_Some}
use Rattle.site_io.specs.Disk.{Images, images_of}
use Rattle.site_io.specs.Told.{BothTold}
use Rattle.site_io.specs.declared.source.Source.{Ghosts as SourceGhosts}
use Rattle.site_io.specs.declared.site.Site.{Ghosts as SiteGhosts}
use Rattle.ad_dir_model.specs.Directory.{Directory}
use Rattle.ad_rows_write.specs.Rows.{IsStoreOf}
use Rattle.ad_rows.proofs.Once.{one_store}
use Rattle.ad_frames.specs.Frames.{End, frames_of}
use Rattle.ad_frames.specs.declared.frame.Frame.{Frame}
use Rattle.ad_engine.specs.Runs.{out, after}
use Rattle.cmd_call.specs.Call.{IsTold}
use Rattle.cmd_call.specs.Outcome.{IsOfLoad}
use Rattle.cmd_call.specs.Store.{Emits}
use Rattle.cmd_call.specs.declared.outcome.Outcome.{Outcome}
use Rattle.cmd_call.specs.declared.outcome.Outcome.TheVariants.{Done, NotOfForm, NoCommand, NoStore, NoObject}
use Rattle.cmd_call.specs.declared.outcome.Outcome.TheVariants.{TooMany, SourceFailed, SiteFailed, NoMemory}
use Rattle.cmd_store_open.specs.Lines.{objects_line}
use Rattle.cmd_store.specs.Load.{LoadsAs, NoDirectory, IsLoaded, IsRefused, IsRefusedStore}
use Rattle.cmd_store_open.specs.Opened.{IsDirStore, IsAsBegun, LeavesSynced}
use Rattle.cmd_store_serve.specs.serving.Crash.{IsCrashBehind}
use Rattle.cmd_store_serve.specs.serving.Does.{Answers, IsServed, ServeDoes}
use Rattle.cmd_store_open.proofs.Refusing.{never_refused}
use Rattle.cmd_store_serve.proofs.serving.Crashing.{between, crash_at}
use Rattle.cmd_store_serve.proofs.serving.Reaching.{sound_none}
use Rattle.cmd_store_serve.proofs.serving.Runs.{out_none, after_none}
use Rattle.cmd_store_laws.specs.Holding.{Holds, IsUnloaded, IsAnswered, IsOpened}

-- ---- what is told

at_some : {A : Type 0} (P : A → Type 0) (r : Option A) (x : A) → r ≡ Some x → IfSome r P → P x
at_some P None x is told = absurd cc
at_some P (Some y) x is told = subst P (same_Some y x is) told

as_told : {A : Type 0} (P : A → Type 0) (r : Option A) (x : A) → r ≡ Some x → IfSome r P → IsTold P r
as_told P None x is told = absurd cc
as_told P (Some y) x is told = told

both_first : (P : List ℕ → List ℕ → Type 0) (r0 r1 : Option (List ℕ)) (x : List ℕ) → r0 ≡ Some x → BothTold r0 r1 P
    → (y : List ℕ) × P x y
both_first P (Some a) (Some y) x is told = (y, subst (λ (l : List ℕ). P l y) (same_Some a x is) told)
both_first P None None x is told = absurd cc
both_first P None (Some y) x is told = absurd told
both_first P (Some a) None x is told = absurd told

emits_told : (r0 r1 : Option (List ℕ)) (said text : List ℕ) → r0 ≡ Some said → Emits r0 r1 text
    → r1 ≡ Some (said ++ text)
emits_told (Some a) (Some y) said text is told = ap Some (told ∙ ap (λ (l : List ℕ). l ++ text) (same_Some a said is))
emits_told None None said text is told = absurd cc
emits_told None (Some y) said text is told = absurd told
emits_told (Some a) None said text is told = absurd told

same_dir : (dir other : Directory) (r : Option Images) → IsTold (λ held. IsStoreOf held dir) r
    → IfSome r (λ held. IsStoreOf held other) → other ≡ dir
same_dir dir other None told store = absurd told
same_dir dir other (Some held) told store = one_store held other dir store told

is_store : (dir : Directory) (r : Option Images) → IsTold (λ held. IsStoreOf held dir) r → IsTold IsDirStore r
is_store dir None told = absurd told
is_store dir (Some held) told = (dir, told)

-- ---- before the slots are synced

pub crash_begun : (dir : Directory) (frames : List Frame) (said text : List ℕ) (images : Images)
    → IsStoreOf images dir → text ≡ said → IsCrashBehind dir frames said images text
crash_begun dir frames said text images store is =
    let begun : IsStoreOf images (after dir []) = subst (IsStoreOf images) (sym (after_none dir)) store in
    let quiet : [] ≡ out dir [] = sym (out_none dir) in (
      [],
      is ∙ sym (append-nil said),
      crash_at dir frames [] images (between [] frames refl quiet begun (sound_none dir store.sound)),
    )

-- ---- how loading ends

pub err_is : {T : Type 0} (a b : Outcome) (r : Result T Outcome) → r ≡ Err a → r ≡ Err b → a ≡ b
err_is a b r is e = cc

none_above : (0 < 0) ⊎ (0 < 0) → ⊥
none_above (inl above) = omega (arith, above)
none_above (inr above) = omega (arith, above)

pub unloaded : (outcome : Outcome) → IsOfLoad outcome → (outcome ≡ Done → ⊥) → (outcome ≡ NoStore → ⊥)
    → IsUnloaded outcome
unloaded Done ends not_done not_taken = not_done refl
unloaded NotOfForm ends not_done not_taken = tt
unloaded NoCommand ends not_done not_taken = ends
unloaded NoStore ends not_done not_taken = not_taken refl
unloaded NoObject ends not_done not_taken = ends
unloaded TooMany ends not_done not_taken = ends
unloaded SourceFailed ends not_done not_taken = tt
unloaded SiteFailed ends not_done not_taken = tt
unloaded NoMemory ends not_done not_taken = tt

module _ {I S : Type 0} (source : SourceGhosts I) (site : SiteGhosts S) where
  -- ---- loading

  pub holds_loaded : (from to : I) (old new : S) (text : List ℕ) (held : Images) → source.rest from ≡ Some text
      → site.emitted old ≡ Some [] → site.reads new ≡ Some held → IsLoaded source site from to old new
      → (dir : Directory) × LoadsAs dir text × Holds site dir (objects_line dir) new
  holds_loaded from to old new text held input quiet told loaded = (
    loaded.dir,
    (both_first _ (source.rest from) (source.rest to) text input loaded.input).1.1,
    record {
      store = as_told (λ h. IsStoreOf h loaded.dir) (site.reads new) held told loaded.store;
      every_crash = at_some _ (site.reads new) held told loaded.every_crash;
      output = emits_told (site.emitted old) (site.emitted new) [] (objects_line loaded.dir) quiet loaded.line;
    },
  )

  pub refused_loaded : (from to : I) (old new : S) (text : List ℕ) → source.rest from ≡ Some text
      → IsRefused source site from to old new → NoDirectory text
  refused_loaded from to old new text input refused = (
    refused.at,
    refused.cause,
    (both_first _ (source.rest from) (source.rest to) text input refused.input).1,
  )

  pub never_taken : (from to : I) (old new : S) → site.reads old ≡ Some (images_of [] [])
      → IsRefusedStore source site from to old new → ⊥
  never_taken from to old new empty refused = none_above
      (at_some _ (site.reads old) (images_of [] []) empty refused.slots).0

  -- ---- serving

  pub opens_held : (from to : I) (old new : S) (outcome : Outcome) (dir : Directory) (said : List ℕ)
      → ServeDoes source site from to old new outcome → Holds site dir said old → IsOpened outcome
  opens_held from to old new outcome dir said does holds refused =
      let unopened = (does.no_store refused).0 in
      never_refused unopened.fault (site.reads old) (is_store dir (site.reads old) holds.store) unopened.store

  served_held : (end : End) (from to : I) (old new : S) (input : List ℕ) (held now : Images) (dir : Directory)
      (said : List ℕ) → source.rest from ≡ Some input → site.reads old ≡ Some held → site.reads new ≡ Some now
      → Holds site dir said old → IsServed source site end from to old new
      → Holds site (after dir (frames_of input).frames) (said ++ out dir (frames_of input).frames) new
  served_held end from to old new input held now dir said is told_old told_new holds served =
      let frames = (frames_of input).frames in
      let answered : Answers site served.dir frames old new = (at_some _ (source.rest from) input is served.answered).1
      in
      let same : served.dir ≡ dir = same_dir dir served.dir (site.reads old) holds.store served.store in
      subst (λ (d : Directory). Holds site (after d frames) (said ++ out d frames) new) same (record {
        store = as_told (λ h. IsStoreOf h (after served.dir frames)) (site.reads new) now told_new answered.stands;
        every_crash = at_some _ (site.reads old) held told_old answered.lasts;
        output = emits_told (site.emitted old) (site.emitted new) said (out served.dir frames) holds.output
            answered.emitted;
      })

  pub answers_held : (from to : I) (old new : S) (input : List ℕ) (held now : Images) (outcome : Outcome)
      → source.rest from ≡ Some input → site.reads old ≡ Some held → site.reads new ≡ Some now
      → ServeDoes source site from to old new outcome
      → (dir : Directory) (said : List ℕ) → Holds site dir said old → IsAnswered outcome
      → Holds site (after dir (frames_of input).frames) (said ++ out dir (frames_of input).frames) new
  answers_held from to old new input held now Done is told_old told_new does dir said holds ends =
      served_held _ from to old new input held now dir said is told_old told_new holds (does.done refl).0
  answers_held from to old new input held now NotOfForm is told_old told_new does dir said holds ends =
      served_held _ from to old new input held now dir said is told_old told_new holds (does.bad refl)
  answers_held from to old new input held now TooMany is told_old told_new does dir said holds ends =
      served_held _ from to old new input held now dir said is told_old told_new holds (does.over refl)
  answers_held from to old new input held now NoCommand is told_old told_new does dir said holds ends = absurd ends
  answers_held from to old new input held now NoStore is told_old told_new does dir said holds ends = absurd ends
  answers_held from to old new input held now NoObject is told_old told_new does dir said holds ends = absurd ends
  answers_held from to old new input held now SourceFailed is told_old told_new does dir said holds ends = absurd ends
  answers_held from to old new input held now SiteFailed is told_old told_new does dir said holds ends = absurd ends
  answers_held from to old new input held now NoMemory is told_old told_new does dir said holds ends = absurd ends

  left_synced : (old new : S) (dir : Directory) (frames : List Frame) (said : List ℕ) → Holds site dir said old
      → LeavesSynced site (IsCrashBehind dir frames said) old new
      → (t : ℕ) (images : Images) (text : List ℕ) → site.now old ≤ t → site.left new t images text
      → IsCrashBehind dir frames said images text
  left_synced old new dir frames said holds leaves t images text le left = ⊎_elim
      (λ lt. let begun : IsAsBegun site old images text = leaves.before t images text le lt left in
      crash_begun dir frames said text images (holds.every_crash images begun.left.0 begun.left.1)
      (at_some (λ (s : List ℕ). text ≡ s) (site.emitted old) said holds.output begun.quiet))
      (λ ge. leaves.behind t images text ge left)
      (cases_lt t leaves.synced)

  pub crash_held : (from to : I) (old new : S) (input : List ℕ) (outcome : Outcome) → source.rest from ≡ Some input
      → ServeDoes source site from to old new outcome
      → (dir : Directory) (said : List ℕ) → Holds site dir said old
      → (t : ℕ) (images : Images) (text : List ℕ) → site.now old ≤ t → site.left new t images text
      → IsCrashBehind dir (frames_of input).frames said images text
  crash_held from to old new input outcome is does dir said holds =
      left_synced old new dir (frames_of input).frames said holds
      (at_some _ (site.emitted old) said holds.output
      (at_some _ (source.rest from) input is (does.crash dir holds.store)))
