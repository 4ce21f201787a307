-- A text that is said after calls that only looked.
use Rattle.std.proofs.Common.{◌≡◌, ◌⊎◌, inl, inr, ⊎_elim, List, ℕ, sym, subst}
use Rattle.site_io.specs.Counts.{HasRisen}
use Rattle.site_io.specs.Told.{StaysTold}
use Rattle.site_io.specs.Outside.{OnlyLooks}
use Rattle.site_io.specs.declared.site.Site.{Ghosts as SiteGhosts}
use Rattle.cmd_call.specs.Store.{Emits, EmitsPart, KeepsSlots, IsSiteHealthy, HasFailed, SaysUnless}
use Rattle.cmd_call.specs.declared.outcome.Outcome.{Outcome}
use Rattle.cmd_call.specs.declared.outcome.Outcome.TheVariants.{SiteFailed, NoMemory}
use Rattle.cmd_call.proofs.Moments.{emits_on, part_on, looks_keep, keeps_said}

-- All of it was emitted, a part since the output failed, or nothing for want of memory.
pub data Tells {S : Type 0} (site : SiteGhosts S) (x z : S) (text : List ℕ) (next outcome : Outcome) : Type 0 where
  whole : outcome ≡ next → Emits (site.emitted x) (site.emitted z) text → Tells site x z text next outcome
  part : outcome ≡ SiteFailed → HasRisen (site.out_faults x) (site.out_faults z) → EmitsPart (site.emitted x)
      (site.emitted z) text
      → Tells site x z text next outcome
  nothing : outcome ≡ NoMemory → StaysTold (site.emitted x) (site.emitted z) → Tells site x z text next outcome

module _ {S : Type 0} (site : SiteGhosts S) where
  -- and no slot was written
  pub record Telling (x z : S) (text : List ℕ) (next outcome : Outcome) : Type 0 where
    pub ends : Tells site x z text next outcome
    pub slots : KeepsSlots site x z

  pub telling_by : (x y z : S) (text : List ℕ) (next outcome : Outcome) → OnlyLooks site x y
      → SaysUnless site y z text next outcome
      → Telling x z text next outcome
  telling_by x y z text next outcome looks (inl memory) = record {
    ends = nothing memory.0 (subst (λ (s : S). StaysTold (site.emitted x) (site.emitted s)) (sym memory.1)
        looks.output);
    slots = subst (KeepsSlots site x) (sym memory.1) (looks_keep site x y looks);
  }
  telling_by x y z text next outcome looks (inr says) = record {
    ends = ⊎_elim
        (λ done. whole done.0 (emits_on (site.emitted x) (site.emitted y) (site.emitted z) text looks.output done.1))
        (λ cut. part cut.0 (subst (λ k. HasRisen k (site.out_faults z)) looks.out_faults cut.2)
        (part_on (site.emitted x) (site.emitted y) (site.emitted z) text looks.output cut.1))
        says.ended;
    slots = keeps_said site x y z text looks.held looks.images looks.moments.later says.held says.moments says.images;
  }

  -- a site that failed isn't healthy
  pub unhealthy : (x z : S) → HasFailed site x z → IsSiteHealthy site x z → ⊥
  unhealthy x z (inl slots) healthy = healthy.slots slots
  unhealthy x z (inr output) healthy = healthy.output output
