-- The lines that name other objects leave an object's list.
use Rattle.std.proofs.Common.{◌≡◌, ℕ, true, false, List, [], ◌∷◌, Result, Ok, Err, refl, sym, ◌∙◌, inl, inr}
use Rattle.std.specs.Prelude.{nat_eq}
use Rattle.std.proofs.lemmas.Bool.{cases_Bool, eqb-true, eqb-false, eq-eqb, ne_eqb}
use Rattle.ad_dir_model.specs.Directory.{Directory}
use Rattle.ad_ldifmod.specs.Lines.{says_nothing}
use Rattle.ad_ldifmod.specs.Lists.{Lists, Step, step_of, after_step, after_if, after_lines}
use Rattle.ad_ldifmod_laws.specs.Given.{with_step, own_steps, after_steps}

one_step : (step : Step) (steps : List Step) (lists : Lists) (number : ℕ)
    → after_steps steps (after_step step lists number) ≡ after_steps (with_step {E = Unit {0}} number (Ok step) steps)
    (lists number)
unfolding after_steps
one_step step steps lists number = elim (cases_Bool (nat_eq number step.number)) [
  | inl here ↦
      (let back : nat_eq step.number number ≡ true = eq-eqb step.number number
      (sym (eqb-true number step.number here)) in
      rw (here, back) refl)
  | inr other ↦
      (let back : nat_eq step.number number ≡ false = ne_eqb step.number number
      (λ e. eqb-false number step.number other (sym e)) in
      rw (other, back) refl)
]

pub own_lines : (dir : Directory) (lines : List (List ℕ)) (lists : Lists) (number : ℕ) → after_lines dir lines lists
    number ≡ after_steps (own_steps dir number lines) (lists number)
unfolding after_lines own_steps after_steps
own_lines dir [] lists number = refl
own_lines dir (line ∷ lines) lists number = elim (cases_Bool (says_nothing line)) [
  | inl nothing ↦ rw nothing (own_lines dir lines lists number)
  | inr something ↦ rw something (own_lines dir lines (after_if (step_of dir line) lists) number ∙
      by (step_of dir line))
]
  where
    by : (s : Result Step _) → after_steps (own_steps dir number lines) (after_if s lists number)
        ≡ after_steps (with_step number s (own_steps dir number lines)) (lists number)
    by (Ok step) = one_step step (own_steps dir number lines) lists number
    by (Err fault) = refl
