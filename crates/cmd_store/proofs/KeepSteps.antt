-- A directory is kept in a store: from what is said of making the store and of the emit.
use Rattle.std.proofs.Common.{◌≡◌, ◌⊎◌, inl, inr, ⊎_elim, ℕ, ◌≤◌, List, Option, Some, None, Err}
use Rattle.std.proofs.Common.{refl, sym, subst, arith}
use Rattle.std.specs.Option.{IfSome}
use Rattle.std.proofs.lemmas.Bool.{cases_lt}
use Rattle.site_io.specs.Counts.{HasRisen}
use Rattle.site_io.specs.Told.{StaysTold}
use Rattle.site_io.specs.Disk.{Images, GoesOn, LeavesSame}
use Rattle.site_io.specs.Outside.{TouchesSlots, StaysKnown}
use Rattle.site_io.specs.declared.site.Site.{Ghosts as SiteGhosts}
use Rattle.ad_dir_model.specs.Directory.{Directory}
use Rattle.ad_rows_write.specs.Rows.{IsStoreOf}
use Rattle.ad_engine_store.specs.Faults.{IsCreating}
use Rattle.ad_engine_store.specs.declared.fault.OpenFault.{OpenFault}
use Rattle.ad_engine_store.specs.declared.fault.OpenFault.TheVariants.{Taken, Empty, Broken, Row, Unsound, Site, Memory}
use Rattle.cmd_call.specs.declared.outcome.Outcome.{Outcome}
use Rattle.cmd_call.specs.declared.outcome.Outcome.TheVariants.{Done, NoStore, SiteFailed, NoMemory}
use Rattle.cmd_call.specs.Call.{IsTold}
use Rattle.cmd_call.specs.Store.{AreEmpty, IsTaken, KeepsSlots, Says}
use Rattle.cmd_call.proofs.Moments.{told_on, stays_same, emits_on, part_on}
use Rattle.cmd_call.proofs.Moments.{goes_on_on, IsLawful, says_nothing, goes_not, keeps_not, quiet_not, keeps_said}
use Rattle.cmd_store_open.specs.Lines.{objects_line, store_line}
use Rattle.cmd_store.specs.Loading.{Keeps}
use Rattle.cmd_store_open.specs.Refused.{Refused}

-- the output of each moment is the one from before, or the crash states represent the directory
abbrev pub Crash : {S : Type 0} (s : SiteGhosts S) (dir : Directory) (old new : S) → Type 0
Crash s dir old new = IfSome (s.emitted old) (λ said. (t : ℕ) (images : Images) (out : List ℕ) → s.now old ≤ t
    → s.left new t images out
    → (out ≡ said) ⊎ IsStoreOf images dir)

pub crash_by : {S : Type 0} (s : SiteGhosts S) (dir : Directory) (old new : S) (r : Option (List ℕ)) → r ≡ s.emitted old
    → ((said : List ℕ) → s.emitted old ≡ Some said → (t : ℕ) (images : Images) (out : List ℕ) → s.now old ≤ t
    → s.left new t images out
    → (out ≡ said) ⊎ IsStoreOf images dir)
    → IfSome r (λ said. (t : ℕ) (images : Images) (out : List ℕ) → s.now old ≤ t → s.left new t images out
    → (out ≡ said) ⊎ IsStoreOf images dir)
crash_by s dir old new None is by = tt
crash_by s dir old new (Some said) is by = by said (sym is)

pub not_both : (r : Option Images) → IsTold AreEmpty r → IfSome r IsTaken → ⊥
not_both None empty taken = empty
not_both (Some held) empty (inl a) = omega (arith, a, empty.0)
not_both (Some held) empty (inr b) = omega (arith, b, empty.1)

pub told_too : (P : Images → Type 0) (r0 r1 : Option Images) → IsTold AreEmpty r0 → StaysKnown r0 r1 → IfSome r1 P
    → (held : Images) × P held
told_too P None r1 empty known p = absurd empty
told_too P (Some x) None empty known p = absurd known
told_too P (Some x) (Some y) empty known p = (y, p)

-- nothing more was done
ends : {S : Type 0} (s : SiteGhosts S) (dir : Directory) (x y z : S) (last outcome : Outcome)
    → (outcome ≡ last) × (z ≡ y) → Keeps s dir x y last → Keeps s dir x z outcome
ends {S = S} s dir x y z last outcome is keeps = subst (λ (w : S). Keeps s dir x w outcome) (sym is.1)
    (subst (Keeps s dir x y) (sym is.0) keeps)

module _ {S : Type 0} (s : SiteGhosts S) where
  -- nothing was done
  pub kept_not : IsLawful s → (dir : Directory) (x : S) → Keeps s dir x x NoMemory
  kept_not law dir x = record {
    done = λ no. absurd cc;
    taken = λ no. absurd cc;
    failed = λ no. absurd cc;
    quiet = λ _. stays_same (s.emitted x);
    unwritten = λ _. keeps_not s law x;
    moments = goes_not s x;
    crash = λ empty. crash_by s dir x x (s.emitted x) refl
        (λ said is t images out le left. inl (says_nothing s law x x said (quiet_not s law x) is t images out le left));
    only = tt;
  }

  -- the store wasn't made, for want of memory
  pub kept_memory : IsLawful s → (dir : Directory) (x y : S) → TouchesSlots s x y
      → StaysTold (s.reads x) (s.reads y) × LeavesSame (s.now x) (s.left x) (s.left y) → Keeps s dir x y NoMemory
  kept_memory law dir x y touches unwritten = record {
    done = λ no. absurd cc;
    taken = λ no. absurd cc;
    failed = λ no. absurd cc;
    quiet = λ _. touches.output;
    unwritten = λ _. record {
      held = unwritten.0;
      images = λ t images out le left.
          (out, unwritten.1 t images out le left);
    };
    moments = touches.moments;
    crash = λ empty. crash_by s dir x y (s.emitted x) refl
        (λ said is t images out le left. inl (says_nothing s law x y said touches.quiet is t images out le left));
    only = tt;
  }

  -- or since the site failed
  pub kept_failed : IsLawful s → (dir : Directory) (x y : S) → TouchesSlots s x y → HasRisen (s.slot_faults x)
      (s.slot_faults y) → Keeps s dir x y SiteFailed
  kept_failed law dir x y touches cause = record {
    done = λ no. absurd cc;
    taken = λ no. absurd cc;
    failed = λ _. (inl cause, inl touches.output);
    quiet = λ no. absurd cc;
    unwritten = λ no. absurd no;
    moments = touches.moments;
    crash = λ empty. crash_by s dir x y (s.emitted x) refl
        (λ said is t images out le left. inl (says_nothing s law x y said touches.quiet is t images out le left));
    only = tt;
  }

  -- or since a slot wasn't empty
  pub kept_taken : IsLawful s → (dir : Directory) (x y z : S) (outcome : Outcome) → TouchesSlots s x y
      → IfSome (s.reads x) IsTaken
      → StaysTold (s.reads x) (s.reads y) × LeavesSame (s.now x) (s.left x) (s.left y)
      → Says s y z (store_line Taken) NoStore outcome → Keeps s dir x z outcome
  kept_taken law dir x y z outcome touches taken unwritten says = ⊎_elim
      (λ done. subst (Keeps s dir x z) (sym done.0) (record {
        done = λ no. absurd cc;
        taken = λ _. (
          taken,
          emits_on (s.emitted x) (s.emitted y) (s.emitted z) (store_line Taken) touches.output
              done.1,
        );
        failed = λ no. absurd cc;
        quiet = λ no. absurd cc;
        unwritten = λ _. keeps;
        moments = goes;
        crash = λ empty. absurd (not_both (s.reads x) empty taken);
        only = tt;
      }))
      (λ failed. subst (Keeps s dir x z) (sym failed.0) (record {
        done = λ no. absurd cc;
        taken = λ no. absurd cc;
        failed = λ _. (
          inr (subst (λ k. HasRisen k (s.out_faults z)) touches.out_faults failed.2),
          inr
              (inr (
                taken,
                part_on (s.emitted x) (s.emitted y) (s.emitted z) (store_line Taken) touches.output
                    failed.1,
              )),
        );
        quiet = λ no. absurd cc;
        unwritten = λ no. absurd no;
        moments = goes;
        crash = λ empty. absurd (not_both (s.reads x) empty taken);
        only = tt;
      }))
      says.ended
    where
      goes : GoesOn (s.now x) (s.now z) (s.left x) (s.left z)
      goes = goes_on_on (s.now x) (s.now y) (s.now z) (s.left x) (s.left y) (s.left z) touches.moments says.moments

      keeps : KeepsSlots s x z
      keeps = keeps_said s x y z (store_line Taken) unwritten.0 unwritten.1 touches.moments.later says.held
          says.moments says.images

  -- so the store wasn't made, and it was said why
  pub kept_refused : {T : Type 0} → IsLawful s → (dir : Directory) (x y z : S) (fault : OpenFault) (outcome : Outcome)
      → IsCreating {T = T} s x y (Err fault) → Refused s y z fault outcome → Keeps s dir x z outcome
  kept_refused law dir x y z Taken outcome made says = ⊎_elim
      (λ none. ends s dir x y z NoMemory outcome none
      (kept_memory law dir x y made.outside (made.unwritten (inl refl))))
      (λ said. kept_taken law dir x y z outcome made.outside (made.taken refl) (made.unwritten (inl refl)) said)
      says
  kept_refused law dir x y z Site outcome made says = ends s dir x y z SiteFailed outcome says
      (kept_failed law dir x y made.outside (made.cause refl))
  kept_refused law dir x y z Memory outcome made says = ends s dir x y z NoMemory outcome says
      (kept_memory law dir x y made.outside (made.unwritten (inr refl)))
  kept_refused law dir x y z Empty outcome made says = absurd made.faults
  kept_refused law dir x y z Broken outcome made says = absurd made.faults
  kept_refused law dir x y z (Row kind number) outcome made says = absurd made.faults
  kept_refused law dir x y z (Unsound number) outcome made says = absurd made.faults

  -- the store was made, and its line said
  pub kept_said : IsLawful s → (dir : Directory) (x y z : S) (outcome : Outcome) → TouchesSlots s x y
      → IfSome (s.reads y) (λ held. IsStoreOf held dir)
      → IfSome (s.reads y) (λ held. (images : Images) (out : List ℕ) → s.left y (s.now y) images out
      → IsStoreOf images dir)
      → Says s y z (objects_line dir) Done outcome → Keeps s dir x z outcome
  kept_said law dir x y z outcome touches store every says = ⊎_elim
      (λ done. subst (Keeps s dir x z) (sym done.0) (record {
        done = λ _. record {
          line = emits_on (s.emitted x) (s.emitted y) (s.emitted z) (objects_line dir) touches.output done.1;
          store = told_on (λ held. IsStoreOf held dir) (s.reads y) (s.reads z) says.held store;
          every_crash = every_on (s.reads y) (s.reads z) says.held every;
        };
        taken = λ no. absurd cc;
        failed = λ no. absurd cc;
        quiet = λ no. absurd cc;
        unwritten = λ no. absurd no;
        moments = goes;
        crash = crash;
        only = tt;
      }))
      (λ failed. subst (Keeps s dir x z) (sym failed.0) (record {
        done = λ no. absurd cc;
        taken = λ no. absurd cc;
        failed = λ _. (
          inr (subst (λ k. HasRisen k (s.out_faults z)) touches.out_faults failed.2),
          inr
              (inl (part_on (s.emitted x) (s.emitted y) (s.emitted z) (objects_line dir) touches.output failed.1)),
        );
        quiet = λ no. absurd cc;
        unwritten = λ no. absurd no;
        moments = goes;
        crash = crash;
        only = tt;
      }))
      says.ended
    where
      goes : GoesOn (s.now x) (s.now z) (s.left x) (s.left z)
      goes = goes_on_on (s.now x) (s.now y) (s.now z) (s.left x) (s.left y) (s.left z) touches.moments says.moments

      every_on : (r0 r1 : Option Images) → StaysTold r0 r1
          → IfSome r0 (λ held. (images : Images) (out : List ℕ) → s.left y (s.now y) images out → IsStoreOf images dir)
          → IfSome r1 (λ held. (images : Images) (out : List ℕ) → s.left z (s.now z) images out → IsStoreOf images dir)
      every_on None None same all = tt
      every_on (Some a) (Some b) same all = λ images out left. let so_far = says.images
          (s.now z) images out says.moments.later left in all images so_far.0 so_far.2
      every_on None (Some b) same all = absurd same
      every_on (Some a) None same all = absurd same

      crash : IsTold AreEmpty (s.reads x) → Crash s dir x z
      crash empty =
          let all = told_too (λ held. (images : Images) (out : List ℕ) → s.left y (s.now y) images out
          → IsStoreOf images dir) (s.reads x) (s.reads y) empty touches.known every in
          crash_by s dir x z (s.emitted x) refl (λ said is t images out le left. ⊎_elim
          (λ lt. inl (says_nothing s law x y said touches.quiet is t images out le
          ((says.moments.earlier t images out lt).0 left)))
          (λ ge. let so_far = says.images t images out ge left in inr (all.1 images so_far.0 so_far.2))
          (cases_lt t (s.now y)))
