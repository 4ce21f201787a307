-- What is emitted, and that the slots are kept.
use Rattle.std.proofs.Common.{◌≡◌, ◌∙◌, ◌⊎◌, inr, ⊎_elim, ℕ, ◌≤◌, List, [], ◌∷◌, ◌++◌, length, true, false, Option}
use Rattle.std.proofs.Common.{Some, None, Result, Ok, Err, refl, sym, ap, subst, append_assoc, arith}
use Rattle.std.proofs.lemmas.Bool.{cases_lt, ne_eqb}
use Rattle.std.proofs.lemmas.List.{append-nil}
use Rattle.site_io.specs.Told.{StaysTold}
use Rattle.site_io.specs.Disk.{GoesOn, LeavesEmitted}
use Rattle.site_io.specs.declared.site.Site.{Ghosts as SiteGhosts}
use Rattle.cmd_call.specs.Store.{Emits, KeepsSlots}
use Rattle.cmd_call.proofs.Moments.{IsLawful, stays_on, keeps_not, goes_not}
use Rattle.cmd_store_open.proofs.Parts.{part_whole}
use Rattle.std.specs.Prelude.{IfErr, OnOk, ◌==◌}
use Rattle.site_io.specs.Counts.{HasRisen}
use Rattle.ad_frames.specs.declared.frame.Frame.{Frame}
use Rattle.cmd_call.specs.declared.outcome.Outcome.{Outcome}
use Rattle.cmd_call.specs.declared.outcome.Outcome.TheVariants.{SiteFailed, NoMemory}
use Rattle.cmd_audit.specs.Log.{frame_lines}
use Rattle.cmd_audit.specs.State.{State, behind}
use Rattle.cmd_audit.specs.Steps.{TellsText, TellsFrame}

pub no_bytes : (text : List ℕ) → (length text == 0) ≡ true → text ≡ []
no_bytes [] e = refl
no_bytes (b ∷ text) e = let some : (length (b ∷ text) == 0) ≡ false = ne_eqb (length (b ∷ text)) 0
    (λ zero. omega (arith, zero)) in absurd cc

pub emits_none : (r0 r1 : Option (List ℕ)) → StaysTold r0 r1 → Emits r0 r1 []
emits_none None None same = tt
emits_none (Some a) (Some b) same = same ∙ sym (append-nil a)
emits_none None (Some b) same = absurd same
emits_none (Some a) None same = absurd same

pub emits_then : (r0 r1 r2 : Option (List ℕ)) (first second : List ℕ) → Emits r0 r1 first → Emits r1 r2 second
    → Emits r0 r2 (first ++ second)
emits_then None None None first second p q = tt
emits_then (Some a) (Some b) (Some c) first second p q = q ∙ ap (λ (l : List ℕ). l ++ second) p
    ∙ append_assoc a first second
emits_then None None (Some c) first second p q = absurd q
emits_then None (Some b) r2 first second p q = absurd p
emits_then (Some a) None r2 first second p q = absurd p
emits_then (Some a) (Some b) None first second p q = absurd q

pub told_self : {A : Type 0} (r : Option A) → StaysTold r r
told_self None = tt
told_self (Some a) = refl

module _ {S : Type 0} (s : SiteGhosts S) where
  -- an emit keeps the slots
  pub keeps_emit : (x z : S) (bytes : List ℕ) → StaysTold (s.reads x) (s.reads z) → LeavesEmitted bytes (s.now x)
      (s.left x) (s.left z) → KeepsSlots s x z
  keeps_emit x z bytes held emits = record {
    held = held;
    images = λ t images out le left. let so_far = emits t images out le left in (so_far.0, so_far.2);
  }

  -- and so do two calls that keep them
  pub keeps_then : (x y z : S) → KeepsSlots s x y → s.now x ≤ s.now y → GoesOn (s.now y) (s.now z) (s.left y)
      (s.left z) → KeepsSlots s y z → KeepsSlots s x z
  keeps_then x y z first later goes second = record {
    held = stays_on (s.reads x) (s.reads y) (s.reads z) first.held second.held;
    images = λ t images out le left. ⊎_elim
        (λ lt. first.images t images out le ((goes.earlier t images out lt).0 left))
        (λ ge. let began = second.images t images out ge left in first.images (s.now y) images began.0 later began.1)
        (cases_lt t (s.now y));
  }

  -- no line, and no call
  pub tells_none : IsLawful s → (x : S) (text : List ℕ) → text ≡ [] → TellsText s text x x (Ok tt)
  tells_none law x text none =
      let said : Emits (s.emitted x) (s.emitted x) text =
      subst (λ (t : List ℕ). Emits (s.emitted x) (s.emitted x) t) (sym none)
      (emits_none (s.emitted x) (s.emitted x) (told_self (s.emitted x))) in
      record {
        whole = said;
        part = part_whole (s.emitted x) (s.emitted x) text said;
        keeps = keeps_not s law x;
        moments = goes_not s x;
        never_falls = omega arith;
        slot_faults = refl;
        failed = tt;
      }

  -- the lines of a frame that was judged and served
  pub frame_told : (before after : State) (number : ℕ) (frame : Frame) (x z : S) (result : Result (Unit {0}) Outcome)
      (text : List ℕ)
      → text ≡ frame_lines before.directory before.tokens number frame → after ≡ behind before frame
      → TellsText s text x z result
      → TellsFrame s before after number frame x z result
  frame_told before after number frame x z result text is served tells =
      let told = subst (λ (t : List ℕ). TellsText s t x z result) is tells in
      record {
        served = served_so result;
        whole = told.whole;
        part = told.part;
        keeps = told.keeps;
        moments = told.moments;
        never_falls = told.never_falls;
        slot_faults = told.slot_faults;
        failed = failed_so result told.failed;
      }
    where
      served_so : (r : Result (Unit {0}) Outcome) → OnOk r (after ≡ behind before frame)
      served_so (Ok done) = served
      served_so (Err outcome) = tt

      failed_so : (r : Result (Unit {0}) Outcome)
          → IfErr r (λ outcome. (outcome ≡ SiteFailed) × HasRisen (s.out_faults x) (s.out_faults z))
          → IfErr r (λ outcome. (outcome ≡ NoMemory)
          ⊎ ((outcome ≡ SiteFailed) × HasRisen (s.out_faults x) (s.out_faults z)))
      failed_so (Ok done) failed = tt
      failed_so (Err outcome) failed = inr failed
