-- Frames that were served so far: the pair of the directory in the store and the bytes that were emitted.
use Rattle.std.proofs.Common.{◌≡◌, ◌∙◌, inl, inr, ⊎_elim, ℕ, ◌≤◌, false, List, [], ◌∷◌, ◌++◌, take, Option, Some}
use Rattle.std.proofs.Common.{None, Result, refl, sym, ap, subst, append_assoc, arith}
use Rattle.std.specs.Option.{IfSome}
use Rattle.std.proofs.lemmas.Bool.{cases_lt}
use Rattle.std.proofs.lemmas.List.{append-nil}
use Rattle.site_io.specs.Told.{StaysTold}
use Rattle.site_io.specs.Disk.{Images, GoesOn}
use Rattle.site_io.specs.Outside.{StaysKnown}
use Rattle.site_io.specs.declared.site.Site.{Ghosts as SiteGhosts}
use Rattle.ad_dir_model.specs.Directory.{Directory}
use Rattle.ad_dir_model.specs.Soundness.{IsSound}
use Rattle.ad_rows_write.specs.Rows.{IsStoreOf}
use Rattle.ad_frames.specs.declared.frame.Frame.{Frame}
use Rattle.ad_engine.specs.Answer.{answer}
use Rattle.ad_engine.specs.Runs.{out, after}
use Rattle.ad_engine_store.specs.Standing.{StandsIn}
use Rattle.ad_engine_store.specs.declared.dir_store.DirStore.{DirStore}
use Rattle.cmd_call.specs.declared.outcome.Outcome.{Outcome}
use Rattle.cmd_call.specs.Store.{Emits}
use Rattle.cmd_call.proofs.Moments.{told_map, goes_on_on, IsLawful, says_nothing}
use Rattle.cmd_store_open.specs.Opened.{EachStandsFor, AllBegun}
use Rattle.cmd_store_open.specs.Ready.{IsOpening, IsReady}
use Rattle.cmd_store_serve.specs.serving.One.{answered_by, IsAmid, IsAnswered, AnswersFrame}
use Rattle.cmd_store_open.proofs.Begun.{begun_on}
use Rattle.cmd_store_open.proofs.Readying.{each_ready}
use Rattle.cmd_store_serve.proofs.serving.Runs.{tokens_behind, output_next, out_none, after_none, tokens_none, out_push}
use Rattle.cmd_store_serve.proofs.serving.Runs.{after_push, tokens_push}
use Rattle.cmd_store_serve.proofs.serving.Reaching.{AreSound, sound_none, sound_push}
use Rattle.cmd_store_serve.proofs.serving.Crashing.{Moment, between, amid, longer}

-- what was emitted, as a moment of the frames
abbrev pub AtMoment : Directory → List Frame → List ℕ → Images → List ℕ → Type 0
AtMoment dir frames said images text = (emitted : List ℕ) × (text ≡ said ++ emitted) × Moment dir frames emitted images

module _ {S : Type 0} (site : SiteGhosts S) where
  -- each moment since the slots were synced is one of the frames
  abbrev pub AllMoments : ℕ → Directory → List Frame → S → S → Type 0
  AllMoments synced dir frames old new = IfSome (site.reads old) (λ held. (said : List ℕ) → site.emitted old ≡ Some said
      → (t : ℕ) (images : Images) (text : List ℕ) → synced ≤ t → site.left new t images text
      → AtMoment dir frames said images text)

  -- These frames were served and answered.
  pub record Serving (dir : Directory) (served : List Frame) (engine : DirStore) (old new : S) : Type 0 where
    pub store : IfSome (site.reads old) (λ held. IsStoreOf held dir)
    pub dir_is : engine.dir ≡ after dir served
    pub tokens_are : engine.tokens ≡ tokens_behind dir served
    pub stands : StandsIn engine (site.reads new) (site.now new) (site.left new)
    pub unspent : engine.spent ≡ false
    pub emitted : Emits (site.emitted old) (site.emitted new) (out dir served)
    pub goes : GoesOn (site.now old) (site.now new) (site.left old) (site.left new)
    pub known : StaysKnown (site.reads old) (site.reads new)
    pub lasts : IfSome (site.reads old) (λ held. EachStandsFor site (after dir served) new)
    pub synced : ℕ
    pub come : synced ≤ site.now new
    pub begun : AllBegun site synced old new
    pub moments : AllMoments synced dir served old new
    pub sound : AreSound dir served
    pub slot_faults : site.slot_faults old ≤ site.slot_faults new
    pub out_faults : site.out_faults old ≤ site.out_faults new

  -- ---- none yet

  emits_none : (r0 r1 : Option (List ℕ)) (text : List ℕ) → text ≡ [] → StaysTold r0 r1 → Emits r0 r1 text
  emits_none None None text none same = tt
  emits_none (Some a) (Some b) text none same = same ∙ sym (append-nil a) ∙ ap (λ (l : List ℕ). a ++ l) (sym none)
  emits_none None (Some b) text none same = absurd same
  emits_none (Some a) None text none same = absurd same

  sound_at : (engine : DirStore) (x : S) → StandsIn engine (site.reads x) (site.now x) (site.left x) → engine.spent
      ≡ false → IsSound engine.dir
  sound_at engine x stands unspent = (stands unspent).sound

  moment_none : IsLawful site → (dir : Directory) (synced : ℕ) (x y : S) → IsOpening site dir synced x y
      → ((t : ℕ) (images : Images) (text : List ℕ) → synced ≤ t → site.left y t images text → IsStoreOf images dir)
      → (said : List ℕ) → site.emitted x ≡ Some said → (t : ℕ) (images : Images) (text : List ℕ) → synced ≤ t
      → site.left y t images text → AtMoment dir [] said images text
  moment_none law dir synced x y opening by said told t images text ge left =
      let le : site.now x ≤ t = omega (arith, opening.later, ge) in
      let quiet : text ≡ said = says_nothing site law x y said opening.touches.quiet told t images text le left in
      let store : IsStoreOf images dir = by t images text ge left in (
        [],
        quiet ∙ sym (append-nil said),
        between [] [] refl (sym (out_none dir)) (subst (IsStoreOf images) (sym (after_none dir)) store)
            (sound_none dir store.sound),
      )

  -- the slots were opened
  pub moments_none : IsLawful site → (dir : Directory) (synced : ℕ) (x y : S) → IsOpening site dir synced x y
      → AllMoments synced dir [] x y
  moments_none law dir synced x y opening = told_map _ _ (site.reads x)
      (λ held by said told t images text ge left. moment_none law dir synced x y opening by said told t images text ge
      left) opening.lasts

  -- and made ready
  pub serving_none : IsLawful site → (engine : DirStore) (x y : S) → IsReady site engine.dir x y
      → StandsIn engine (site.reads y) (site.now y) (site.left y) → engine.spent ≡ false → engine.tokens ≡ []
      → Serving engine.dir [] engine x y
  serving_none law engine x y ready stands unspent tokens =
      let opening = ready.opening in
      record {
        store = opening.store;
        dir_is = sym (after_none engine.dir);
        tokens_are = tokens ∙ sym (tokens_none engine.dir);
        stands = stands;
        unspent = unspent;
        emitted = emits_none (site.emitted x) (site.emitted y) (out engine.dir []) (out_none engine.dir)
            opening.touches.output;
        goes = opening.touches.moments;
        known = opening.touches.known;
        lasts = subst (λ (d : Directory). IfSome (site.reads x) (λ held. EachStandsFor site d y))
            (sym (after_none engine.dir)) (each_ready site engine.dir x y ready);
        synced = ready.synced;
        come = ready.come;
        begun = opening.begun;
        moments = moments_none law engine.dir ready.synced x y opening;
        sound = sound_none engine.dir (stands unspent).sound;
        slot_faults = opening.touches.never_falls;
        out_faults = omega (arith, opening.touches.out_faults);
      }

  -- ---- one more, or a part of it

  answer_is : (dir : Directory) (served : List Frame) (engine : DirStore) (frame : Frame) → engine.dir
      ≡ after dir served → engine.tokens ≡ tokens_behind dir served
      → answered_by engine frame ≡ answer (after dir served) (tokens_behind dir served) frame
  answer_is dir served engine frame is tokens = ap (λ (d : Directory). answer d engine.tokens frame) is
      ∙ ap (λ ts. answer (after dir served) ts frame) tokens

  pub output_is : (dir : Directory) (served : List Frame) (engine : DirStore) (frame : Frame) → engine.dir
      ≡ after dir served → engine.tokens ≡ tokens_behind dir served
      → (answered_by engine frame).output ≡ output_next dir served frame
  output_is dir served engine frame is tokens = ap (λ a. a.output) (answer_is dir served engine frame is tokens)

  directory_is : (dir : Directory) (served : List Frame) (engine : DirStore) (frame : Frame) → engine.dir
      ≡ after dir served → engine.tokens ≡ tokens_behind dir served
      → (answered_by engine frame).directory ≡ after dir (served ++ frame ∷ [])
  directory_is dir served engine frame is tokens = ap (λ a. a.directory) (answer_is dir served engine frame is tokens)
      ∙ sym (after_push dir served frame)

  tokens_is : (dir : Directory) (served : List Frame) (engine : DirStore) (frame : Frame) → engine.dir
      ≡ after dir served → engine.tokens ≡ tokens_behind dir served
      → (answered_by engine frame).tokens ≡ tokens_behind dir (served ++ frame ∷ [])
  tokens_is dir served engine frame is tokens = ap (λ a. a.tokens) (answer_is dir served engine frame is tokens)
      ∙ sym (tokens_push dir served frame)

  -- what was emitted as a frame began
  said_now : (dir : Directory) (served : List Frame) (r0 r1 : Option (List ℕ)) (said : List ℕ)
      → Emits r0 r1 (out dir served) → r0 ≡ Some said → r1 ≡ Some (said ++ out dir served)
  said_now dir served None r1 said emits is = absurd cc
  said_now dir served (Some a) None said emits is = absurd emits
  said_now dir served (Some a) (Some b) said emits is = ap (λ (l : List ℕ). Some l)
      (emits ∙ ap (λ (l : List ℕ). l ++ out dir served) (inside is))
    where
      inside : Some a ≡ Some said → a ≡ said
      inside e = cc e

  known_both : (P Q R : Type 0) (r0 r1 : Option Images) → StaysKnown r0 r1 → (P → Q → R) → IfSome r0 (λ held. P)
      → IfSome r1 (λ held. Q) → IfSome r0 (λ held. R)
  known_both P Q R None None known f p q = tt
  known_both P Q R (Some a) (Some b) known f p q = f p q
  known_both P Q R None (Some b) known f p q = absurd known
  known_both P Q R (Some a) None known f p q = absurd known

  -- a moment amid the frame
  moment_amid : (dir : Directory) (served : List Frame) (engine : DirStore) (frame : Frame) (said : List ℕ)
      (images : Images) (text : List ℕ)
      → engine.dir ≡ after dir served → engine.tokens ≡ tokens_behind dir served → AreSound dir served
      → IsAmid engine frame (said ++ out dir served) images text
      → AtMoment dir (served ++ frame ∷ []) said images text
  moment_amid dir served engine frame said images text is tokens sound (inl old) =
      (out dir served, old.0, between served (frame ∷ []) refl refl (subst (IsStoreOf images) is old.1) sound)
  moment_amid dir served engine frame said images text is tokens sound (inr new) =
      let output = output_is dir served engine frame is tokens in (
        out dir served ++ take new.0 (output_next dir served frame),
        new.1 ∙ ap (λ (l : List ℕ). (said ++ out dir served) ++ take new.0 l) output
            ∙ append_assoc said (out dir served) (take new.0 (output_next dir served frame)),
        amid served [] frame new.0 refl refl
            (subst (IsStoreOf images) (directory_is dir served engine frame is tokens) new.2) sound,
      )

  -- whatever comes of the frame
  pub moments_more : (dir : Directory) (served : List Frame) (engine behind : DirStore) (frame : Frame) (old x z : S)
      (result : Result (Unit {0}) Outcome) → (so_far : Serving dir served engine old x)
      → AnswersFrame site engine behind frame x z result → AllMoments so_far.synced dir (served ++ frame ∷ []) old z
  moments_more dir served engine behind frame old x z result so_far answers =
      known_both _ _ _ (site.reads old) (site.reads x) so_far.known (λ earlier later said told t images text le left.
      ⊎_elim
      (λ lt. let at = earlier.1 said told t images text le ((answers.moments.earlier t images text lt).0 left) in
      (at.0, at.1, longer dir served (frame ∷ []) at.0 images at.2))
      (λ ge. moment_amid dir served engine frame said images text so_far.dir_is so_far.tokens_are so_far.sound
      (later (subst (λ (d : Directory). EachStandsFor site d x) (sym so_far.dir_is) earlier.0) (said ++ out dir served)
      (said_now dir served (site.emitted old) (site.emitted x) said so_far.emitted told) t images text ge left))
      (cases_lt t (site.now x)))
      (pair_up _ _ (site.reads old) so_far.lasts so_far.moments) answers.amid
    where
      pair_up : (P Q : Type 0) (r : Option Images) → IfSome r (λ held. P) → IfSome r (λ held. Q)
          → IfSome r (λ held. P × Q)
      pair_up P Q None p q = tt
      pair_up P Q (Some held) p q = (p, q)

  known_on : (r0 r1 r2 : Option Images) → StaysKnown r0 r1 → StaysKnown r1 r2 → StaysKnown r0 r2
  known_on None None None first second = tt
  known_on (Some x) (Some y) (Some z) first second = tt
  known_on None None (Some z) first second = absurd second
  known_on None (Some y) r2 first second = absurd first
  known_on (Some x) None r2 first second = absurd first
  known_on (Some x) (Some y) None first second = absurd second

  emits_more : (r0 r1 r2 : Option (List ℕ)) (text more whole : List ℕ) → whole ≡ text ++ more → Emits r0 r1 text
      → Emits r1 r2 more → Emits r0 r2 whole
  emits_more None None None text more whole is first second = tt
  emits_more (Some a) (Some b) (Some c) text more whole is first second =
      second ∙ ap (λ (l : List ℕ). l ++ more) first ∙ append_assoc a text more ∙ ap (λ (l : List ℕ). a ++ l) (sym is)
  emits_more None None (Some c) text more whole is first second = absurd second
  emits_more None (Some b) r2 text more whole is first second = absurd first
  emits_more (Some a) None r2 text more whole is first second = absurd first
  emits_more (Some a) (Some b) None text more whole is first second = absurd second

  -- the frame was answered
  pub serving_more : (dir : Directory) (served : List Frame) (engine behind : DirStore) (frame : Frame) (old x z : S)
      (result : Result (Unit {0}) Outcome) → Serving dir served engine old x
      → AnswersFrame site engine behind frame x z result → IsAnswered site engine behind frame x z
      → Serving dir (served ++ frame ∷ []) behind old z
  serving_more dir served engine behind frame old x z result so_far answers answered =
      let is : behind.dir ≡ after dir (served ++ frame ∷ []) = answered.directory ∙ directory_is dir served engine
      frame so_far.dir_is so_far.tokens_are in
      record {
        store = so_far.store;
        dir_is = is;
        tokens_are = answered.tokens ∙ tokens_is dir served engine frame so_far.dir_is so_far.tokens_are;
        stands = answered.stands;
        unspent = answered.unspent;
        emitted = emits_more (site.emitted old) (site.emitted x) (site.emitted z) (out dir served)
            (answered_by engine frame).output (out dir (served ++ frame ∷ []))
            (out_push dir served frame ∙ ap (λ (l : List ℕ). out dir served ++ l)
            (sym (output_is dir served engine frame so_far.dir_is so_far.tokens_are))) so_far.emitted
            answered.output;
        goes = goes_on_on (site.now old) (site.now x) (site.now z) (site.left old) (site.left x) (site.left z)
            so_far.goes answers.moments;
        known = known_on (site.reads old) (site.reads x) (site.reads z) so_far.known answers.known;
        lasts = known_both _ _ _ (site.reads old) (site.reads x) so_far.known (λ first second.
            subst (λ (d : Directory). EachStandsFor site d z) is
            (second (subst (λ (d : Directory). EachStandsFor site d x) (sym so_far.dir_is) first))) so_far.lasts
            answered.lasts;
        synced = so_far.synced;
        come = omega (arith, so_far.come, answers.moments.later);
        begun = begun_on site old x z so_far.synced so_far.come answers.moments so_far.begun;
        moments = moments_more dir served engine behind frame old x z result so_far answers;
        sound = sound_push dir served frame so_far.sound
            (subst IsSound is (sound_at behind z answered.stands answered.unspent));
        slot_faults = omega (arith, so_far.slot_faults, answers.slot_faults);
        out_faults = omega (arith, so_far.out_faults, answers.out_faults);
      }
