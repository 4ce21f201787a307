-- What crashes leave in the slots during the calls of a command over a store.
use Rattle.std.proofs.Common.{◌≡◌, ◌∙◌, inl, inr, ⊎_elim, ℕ, ◌≤◌, List, ◌++◌, take, Option, Some, None, refl, sym, ap}
use Rattle.std.proofs.Common.{subst, arith}
use Rattle.std.specs.Option.{IfSome}
use Rattle.std.proofs.lemmas.Bool.{cases_lt}
use Rattle.site_io.specs.Counts.{HasRisen}
use Rattle.site_io.specs.Told.{StaysTold}
use Rattle.site_io.specs.Disk.{Images, GoesOn, LeavesSame, LeavesEmitted}
use Rattle.site_io.specs.Outside.{OnlyLooks, EmitsNothing}
use Rattle.site_io.specs.declared.site.Site.{Ghosts as SiteGhosts}
use Rattle.cmd_call.specs.Call.{IsTold}
use Rattle.cmd_call.specs.Store.{Emits, EmitsPart, KeepsSlots}

-- ---- what is told

pub told_map : {A : Type 0} (P Q : A → Type 0) (r : Option A) → ((x : A) → P x → Q x) → IfSome r P → IfSome r Q
told_map P Q None f p = tt
told_map P Q (Some x) f p = f x p

pub told_back : {A : Type 0} (P : A → Type 0) (r0 r1 : Option A) → StaysTold r0 r1 → IfSome r1 P → IfSome r0 P
told_back P None None same p = tt
told_back P (Some x) (Some y) same p = subst P same p
told_back P None (Some y) same p = absurd same
told_back P (Some x) None same p = absurd same

pub told_on : {A : Type 0} (P : A → Type 0) (r0 r1 : Option A) → StaysTold r0 r1 → IfSome r0 P → IfSome r1 P
told_on P None None same p = tt
told_on P (Some x) (Some y) same p = subst P (sym same) p
told_on P None (Some y) same p = absurd same
told_on P (Some x) None same p = absurd same

-- what is told and meets one, and the other where it is told, meets both
pub told_meets : {A X : Type 0} (P Q : A → Type 0) (r : Option A) → ((x : A) → P x → Q x → X) → IsTold P r
    → IfSome r Q → X
told_meets P Q None meet p q = absurd p
told_meets P Q (Some x) meet p q = meet x p q

pub told_clash : (P Q : Images → Type 0) (r : Option Images) → ((held : Images) → P held → Q held → ⊥) → IsTold P r
    → IfSome r Q → ⊥
told_clash P Q r clash p q = told_meets P Q r clash p q

pub stays_same : {A : Type 0} (r : Option A) → StaysTold r r
stays_same None = tt
stays_same (Some x) = refl

pub stays_on : {A : Type 0} (r0 r1 r2 : Option A) → StaysTold r0 r1 → StaysTold r1 r2 → StaysTold r0 r2
stays_on None None None first second = tt
stays_on (Some x) (Some y) (Some z) first second = second ∙ first
stays_on None None (Some z) first second = absurd second
stays_on None (Some y) r2 first second = absurd first
stays_on (Some x) None r2 first second = absurd first
stays_on (Some x) (Some y) None first second = absurd second

-- a text that was emitted after a call that emitted nothing
pub emits_on : (r0 r1 r2 : Option (List ℕ)) (text : List ℕ) → StaysTold r0 r1 → Emits r1 r2 text → Emits r0 r2 text
emits_on None None None text first second = tt
emits_on (Some x) (Some y) (Some z) text first second = second ∙ ap (λ (l : List ℕ). l ++ text) first
emits_on None None (Some z) text first second = absurd second
emits_on None (Some y) r2 text first second = absurd first
emits_on (Some x) None r2 text first second = absurd first
emits_on (Some x) (Some y) None text first second = absurd second

pub part_on : (r0 r1 r2 : Option (List ℕ)) (text : List ℕ) → StaysTold r0 r1 → EmitsPart r1 r2 text
    → EmitsPart r0 r2 text
part_on None None None text first second = tt
part_on (Some x) (Some y) (Some z) text first second
    = (second.0, second.1 ∙ ap (λ (l : List ℕ). l ++ take second.0 text) first)
part_on None None (Some z) text first second = absurd second
part_on None (Some y) r2 text first second = absurd first
part_on (Some x) None r2 text first second = absurd first
part_on (Some x) (Some y) None text first second = absurd second

-- ---- counts

pub rises_from : (before between after : ℕ) → before ≤ between → HasRisen between after → HasRisen before after
rises_from before between after le (inl lt) = inl (omega (arith, le, lt))
rises_from before between after le (inr end) = inr end

-- ---- moments

-- the crash states that an emit leaves are those from before the calls that only looked before it
pub images_said : (n0 n1 n2 : ℕ) (l0 l1 l2 : ℕ → Images → List ℕ → Type 0) (bytes : List ℕ) → LeavesSame n0 l0 l1 → n0
    ≤ n1 → GoesOn n1 n2 l1 l2
    → LeavesEmitted bytes n1 l1 l2
    → (t : ℕ) (images : Images) (out : List ℕ) → n0 ≤ t → l2 t images out → (began : List ℕ) × l0 n0 images began
images_said n0 n1 n2 l0 l1 l2 bytes same later goes emits t images out le left = ⊎_elim
    (λ lt. (out, same t images out le ((goes.earlier t images out lt).0 left)))
    (λ ge. let so_far = emits t images out ge left in (so_far.0, same n1 images so_far.0 later so_far.2))
    (cases_lt t n1)

pub goes_on_on : (n0 n1 n2 : ℕ) (l0 l1 l2 : ℕ → Images → List ℕ → Type 0) → GoesOn n0 n1 l0 l1 → GoesOn n1 n2 l1 l2
    → GoesOn n0 n2 l0 l2
goes_on_on n0 n1 n2 l0 l1 l2 first second = record {
  later = omega (arith, first.later, second.later);
  earlier = λ t images out lt.
      let old = first.earlier t images out lt in
      let new = second.earlier t images out (omega (arith, lt, first.later)) in
      (λ left. old.0 (new.0 left), λ left. new.1 (old.1 left));
}

module _ {S : Type 0} (s : SiteGhosts S) where
  -- what holds of every site, as its trait says
  pub record IsLawful : Type 0 where
    pub output : (x : S) (images : Images) (out said : List ℕ) → s.emitted x ≡ Some said → s.left x (s.now x) images
        out → out ≡ said
    pub until : (x : S) (t : ℕ) (images : Images) (out : List ℕ) → s.left x t images out → t ≤ s.now x

  -- At each moment of a call that emits nothing the output is what had been emitted before.
  pub says_nothing : IsLawful → (x y : S) (said : List ℕ) → EmitsNothing (s.now x) (s.left x) (s.left y) → s.emitted x
      ≡ Some said
      → (t : ℕ) (images : Images) (out : List ℕ) → s.now x ≤ t → s.left y t images out → out ≡ said
  says_nothing law x y said quiet is t images out le left =
      let began = quiet t images out le left in
      law.output x began.0 out said is began.1

  pub looks_quiet : (x y : S) → OnlyLooks s x y → EmitsNothing (s.now x) (s.left x) (s.left y)
  looks_quiet x y looks t images out le left = (images, looks.images t images out le left)

  -- no call at all
  pub goes_not : (x : S) → GoesOn (s.now x) (s.now x) (s.left x) (s.left x)
  goes_not x = record { later = omega arith; earlier = λ t images out lt. (λ left. left, λ left. left) }

  pub keeps_not : IsLawful → (x : S) → KeepsSlots s x x
  keeps_not law x = record {
    held = stays_same (s.reads x);
    images = λ t images out le left. let here : t ≡ s.now x = omega (arith, le, law.until x t images out left) in
        (out, subst (λ k. s.left x k images out) here left);
  }

  pub quiet_not : IsLawful → (x : S) → EmitsNothing (s.now x) (s.left x) (s.left x)
  quiet_not law x t images out le left = let here : t ≡ s.now x = omega (arith, le, law.until x t images out left) in
      (images, subst (λ k. s.left x k images out) here left)

  -- a call that only looks keeps the slots
  pub looks_keep : (x y : S) → OnlyLooks s x y → KeepsSlots s x y
  looks_keep x y looks = record {
    held = looks.held;
    images = λ t images out le left.
        (out, looks.images t images out le left);
  }

  -- and so does another one after it that keeps them
  pub keeps_on : (x y z : S) → OnlyLooks s x y → GoesOn (s.now y) (s.now z) (s.left y) (s.left z) → KeepsSlots s y z
      → KeepsSlots s x z
  keeps_on x y z looks goes keeps = record {
    held = stays_on (s.reads x) (s.reads y) (s.reads z) looks.held keeps.held;
    images = λ t images out le left. ⊎_elim
        (λ lt. (out, looks.images t images out le ((goes.earlier t images out lt).0 left)))
        (λ ge. let began = keeps.images t images out ge left
        in (began.0, looks.images (s.now y) images began.0 looks.moments.later began.1))
        (cases_lt t (s.now y));
  }

  -- an emit after calls that only looked
  pub keeps_said : (x y z : S) (bytes : List ℕ) → StaysTold (s.reads x) (s.reads y) → LeavesSame (s.now x) (s.left x)
      (s.left y) → s.now x ≤ s.now y
      → StaysTold (s.reads y) (s.reads z)
      → GoesOn (s.now y) (s.now z) (s.left y) (s.left z) → LeavesEmitted bytes (s.now y) (s.left y) (s.left z)
      → KeepsSlots s x z
  keeps_said x y z bytes first same later second goes emits = record {
    held = stays_on (s.reads x) (s.reads y) (s.reads z) first second;
    images = images_said (s.now x) (s.now y) (s.now z) (s.left x) (s.left y) (s.left z) bytes same later goes emits;
  }
