-- What lines gave objects.
use Rattle.std.specs.Prelude.{◌≡◌, ℕ, Bool, false, not, ◌==◌, ◌&&◌, if◌then◌else◌, List, [], ◌∷◌, map, Result, Ok, Err}
use Rattle.std.specs.List.{AllByRecursion, list_any}
use Rattle.ad_acl.specs.Writing.{IsEntry}
use Rattle.ad_sd.specs.declared.parts.AceList.{AceList}
use Rattle.ad_inherit.specs.Whole.{explicit_part}
use Rattle.ad_dir_model.specs.Objects.{object_at, sd_at}
use Rattle.ad_dir_model.specs.Directory.{Directory}
use Rattle.ad_ldifmod.specs.Lines.{says_nothing}
use Rattle.ad_ldifmod.specs.Lists.{Step, stored_list, changed_list, step_of, after_lines}
use Rattle.ad_ldifmod_laws.specs.Keeping.{without_sd, with_dacl}

-- The entries of each DACL have the ranges of their fields, as all that bytes encode.
abbrev pub HasRanges : Directory → Type 0
HasRanges dir = (number : ℕ) → AllByRecursion IsEntry (sd_at dir.objects number).dacl.entries

-- ---- the lines of one object

abbrev pub is_step_of : {E : Type 0} → ℕ → Result Step E → Bool
is_step_of number (Ok step) = step.number == number
is_step_of number (Err fault) = false

-- one of the lines names the object
abbrev pub is_named : Directory → List (List ℕ) → ℕ → Bool
is_named dir lines number = list_any (λ line. not (says_nothing line) && is_step_of number (step_of dir line)) lines

abbrev pub with_step : {E : Type 0} → ℕ → Result Step E → List Step → List Step
with_step number (Ok step) steps = if step.number == number then step ∷ steps else steps
with_step number (Err fault) steps = steps

-- what the lines that name the object ask for, in order
unfoldable pub own_steps : Directory → ℕ → List (List ℕ) → List Step
own_steps dir number [] = []
own_steps dir number (line ∷ lines) =
    if says_nothing line then own_steps dir number lines else with_step number (step_of dir line)
    (own_steps dir number lines)

-- a list after these changes, one after the other
unfoldable pub after_steps : List Step → AceList → AceList
after_steps [] list = list
after_steps (step ∷ steps) list = after_steps steps (changed_list step.change list)

-- ---- what lines gave

-- From the first directory to the second: each object has the explicit list that it has after the last line; nothing
-- else of what is explicit in its descriptor is another, nor its place, its class, its name or a value; and an object
-- that no line names is as it was.
pub record GaveLists (dir : Directory) (lines : List (List ℕ)) (now : Directory) : Type 0 where
  pub lists : (number : ℕ) → stored_list now number ≡ after_lines dir lines (stored_list dir) number
  pub explicit : (number : ℕ) → explicit_part (sd_at now.objects number)
      ≡ with_dacl (after_lines dir lines (stored_list dir) number) (explicit_part (sd_at dir.objects number))
  pub rest : map without_sd now.objects ≡ map without_sd dir.objects
  pub unnamed : (number : ℕ) → is_named dir lines number ≡ false → object_at now.objects number
      ≡ object_at dir.objects number
