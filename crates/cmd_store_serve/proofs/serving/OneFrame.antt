-- One frame, from what the engine says of serving it and from the emit of its answer.
use Rattle.std.proofs.Common.{◌≡◌, ◌∙◌, inl, inr, ⊎_elim, ℕ, ◌≤◌, List, ◌++◌, take, Option}
use Rattle.std.proofs.Common.{Some, None, sym, ap, subst}
use Rattle.std.specs.Option.{IfSome}
use Rattle.std.proofs.lemmas.Bool.{cases_lt}
use Rattle.std.proofs.lemmas.List.{append-nil}
use Rattle.site_io.specs.Disk.{Images, GoesOn, LeavesEmitted}
use Rattle.site_io.specs.Outside.{TouchesSlots}
use Rattle.site_io.specs.declared.site.Site.{Ghosts as SiteGhosts}
use Rattle.ad_dir_model.specs.Directory.{Directory}
use Rattle.ad_rows_write.specs.Rows.{IsStoreOf}
use Rattle.ad_frames.specs.declared.frame.Frame.{Frame}
use Rattle.ad_engine_store.specs.Serving.{LeavesOldOrNew, LastsOn}
use Rattle.ad_engine_store.specs.declared.dir_store.DirStore.{DirStore}
use Rattle.cmd_call.proofs.Moments.{told_map, IsLawful, says_nothing}
use Rattle.cmd_store_open.specs.Opened.{EachStandsFor}
use Rattle.cmd_store_serve.specs.serving.One.{answered_by, IsAmid}
use Rattle.cmd_store_open.proofs.Parts.{told_same}

module _ {S : Type 0} (site : SiteGhosts S) where
  -- what crashes leave amid the answer, where each left the directory before
  abbrev pub Amid : DirStore → Frame → S → S → Type 0
  Amid engine frame x z = IfSome (site.reads x) (λ held. EachStandsFor site engine.dir x → (said : List ℕ)
      → site.emitted x ≡ Some said
      → (t : ℕ) (images : Images) (text : List ℕ) → site.now x ≤ t → site.left z t images text
      → IsAmid engine frame said images text)

  -- while it is served
  pub amid_served : IsLawful site → (engine : DirStore) (frame : Frame) (x y : S) → TouchesSlots site x y
      → LeavesOldOrNew engine.dir (answered_by engine frame).directory (site.reads x) (site.now x) (site.now y)
      (site.left x) (site.left y) → Amid engine frame x y
  amid_served law engine frame x y touches leaves =
      told_map _ _ (site.reads x) (λ held by each said is t images text le left.
      let quiet : text ≡ said = says_nothing site law x y said touches.quiet is t images text le left in
      ⊎_elim
      (λ began. inl (quiet, each images began.0 began.1))
      (λ stands. ⊎_elim (λ old. inl (quiet, old)) (λ new. inr (0, quiet ∙ sym (append-nil said), new)) stands)
      (by.each t images text le left)) leaves

  -- and while the answer is emitted
  pub amid_emitted : IsLawful site → (engine behind : DirStore) (frame : Frame) (x y z : S) (bytes : List ℕ)
      → TouchesSlots site x y
      → behind.dir ≡ (answered_by engine frame).directory → bytes ≡ (answered_by engine frame).output
      → LastsOn site engine.dir behind.dir x y
      → GoesOn (site.now y) (site.now z) (site.left y) (site.left z) → LeavesEmitted bytes (site.now y) (site.left y)
      (site.left z)
      → Amid engine frame x y → Amid engine frame x z
  amid_emitted law engine behind frame x y z bytes touches dir output lasts goes emits amid =
      by (site.reads x) lasts amid
    where
      by : (r : Option Images) → IfSome r (λ held. EachStandsFor site engine.dir x → EachStandsFor site behind.dir y)
          → IfSome r (λ held. EachStandsFor site engine.dir x → (said : List ℕ) → site.emitted x ≡ Some said
          → (t : ℕ) (images : Images) (text : List ℕ) → site.now x ≤ t → site.left y t images text
          → IsAmid engine frame said images text)
          → IfSome r (λ held. EachStandsFor site engine.dir x → (said : List ℕ) → site.emitted x ≡ Some said
          → (t : ℕ) (images : Images) (text : List ℕ) → site.now x ≤ t → site.left z t images text
          → IsAmid engine frame said images text)
      by None lasting before = tt
      by (Some held) lasting before = λ each said is t images text le left. ⊎_elim
          (λ lt. before each said is t images text le ((goes.earlier t images text lt).0 left))
          (λ ge. let so_far = emits t images text ge left in
          let here : so_far.0 ≡ said = law.output y images so_far.0 said
          (told_same (site.emitted x) (site.emitted y) said touches.output is) so_far.2 in
          inr (
            so_far.1,
            so_far.3 ∙ ap (λ (l : List ℕ). l ++ take so_far.1 bytes) here
                ∙ ap (λ (b : List ℕ). said ++ take so_far.1 b) output,
            subst (IsStoreOf images) dir (lasting each images so_far.0 so_far.2),
          ))
          (cases_lt t (site.now y))

  -- each crash leaves the new directory after the emit too
  pub lasts_emitted : (before behind : Directory) (x y z : S) (bytes : List ℕ) → LastsOn site before behind x y
      → GoesOn (site.now y) (site.now z) (site.left y) (site.left z) → LeavesEmitted bytes (site.now y) (site.left y)
      (site.left z) → LastsOn site before behind x z
  lasts_emitted before behind x y z bytes lasts goes emits =
      told_map _ _ (site.reads x) (λ held by each images text left.
      let so_far = emits (site.now z) images text goes.later left in by each images so_far.0 so_far.2) lasts
