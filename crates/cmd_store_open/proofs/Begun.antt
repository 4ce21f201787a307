-- What a crash leaves before anything is emitted.
use Rattle.std.proofs.Common.{◌≡◌, ℕ, suc, ◌<◌, ◌≤◌, List, Option, Some, None, refl, arith}
use Rattle.std.specs.Option.{IfSome}
use Rattle.site_io.specs.Disk.{Images, GoesOn}
use Rattle.site_io.specs.Outside.{OnlyLooks, EmitsNothing}
use Rattle.site_io.specs.declared.site.Site.{Ghosts as SiteGhosts}
use Rattle.cmd_call.proofs.Moments.{IsLawful, says_nothing, looks_quiet}
use Rattle.cmd_store_open.specs.Opened.{IsAsBegun, AllBegun, LeavesSynced}

module _ {S : Type 0} (site : SiteGhosts S) where
  quiet_told : IsLawful site → (x y : S) → EmitsNothing (site.now x) (site.left x) (site.left y)
      → (t : ℕ) (images : Images) (text : List ℕ) → site.now x ≤ t
      → site.left y t images text → (r : Option (List ℕ)) → site.emitted x ≡ r → IfSome r (λ said. text ≡ said)
  quiet_told law x y quiet t images text le left None is = tt
  quiet_told law x y quiet t images text le left (Some said) is = says_nothing site law x y said quiet is t images
      text le left

  -- during calls that only look it leaves what it left, and nothing was emitted
  pub as_begun : IsLawful site → (x y : S) → OnlyLooks site x y → (t : ℕ) (images : Images) (text : List ℕ)
      → site.now x ≤ t → site.left y t images text
      → IsAsBegun site x images text
  as_begun law x y looks t images text le left = record {
    left = (text, looks.images t images text le left);
    quiet = quiet_told law x y (looks_quiet site x y looks) t images text le left (site.emitted x) refl;
  }

  pub begun_looked : IsLawful site → (x y : S) (synced : ℕ) → OnlyLooks site x y → AllBegun site synced x y
  begun_looked law x y synced looks t images text le lt left = as_begun law x y looks t images text le left

  -- and so after later calls
  pub begun_on : (x y z : S) (synced : ℕ) → synced ≤ site.now y → GoesOn (site.now y) (site.now z) (site.left y)
      (site.left z) → AllBegun site synced x y
      → AllBegun site synced x z
  begun_on x y z synced come goes begun t images text le lt left =
      let earlier : t < site.now y = omega (arith, lt, come) in
      begun t images text le lt ((goes.earlier t images text earlier).0 left)

  -- no moment has come in which it leaves anything else
  pub never_synced : IsLawful site → (P : Images → List ℕ → Type 0) (x y : S) → OnlyLooks site x y
      → LeavesSynced site P x y
  never_synced law P x y looks = record {
    synced = suc (site.now y);
    before = begun_looked law x y (suc (site.now y)) looks;
    behind = λ t images text ge left. absurd (omega (arith, ge, law.until y t images text left));
  }
