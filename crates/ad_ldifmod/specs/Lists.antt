-- The lists of objects, and what lines make of them.
use Rattle.std.specs.Prelude.{ℕ, ◌==◌, not, if◌then◌else◌, List, [], ◌∷◌, ◌++◌, Option, Result, Ok, Err}
use Rattle.std.specs.List.{filter}
use Rattle.ad_bytes.specs.Reading.{◌>>=◌}
use Rattle.ad_ids.specs.SidValue.{same_sid}
use Rattle.ad_acl.specs.Entry.{Entry}
use Rattle.ad_sd.specs.declared.parts.AceList.{AceList}
use Rattle.ad_inherit.specs.Whole.{explicit_part}
use Rattle.ad_dir_model.specs.Directory.{Directory}
use Rattle.ad_dir_model.specs.Objects.{sd_at}
use Rattle.ad_dir_model.specs.Identity.{domain_sid}
use Rattle.ad_needs_rules.specs.Requests.{number_of_name}
use Rattle.ad_ldifmod.specs.declared.change.Change.{Change}
use Rattle.ad_ldifmod.specs.declared.change.Change.TheVariants.{Behind, Front, Without}
use Rattle.ad_ldifmod.specs.declared.fault.GrantKind.{GrantKind}
use Rattle.ad_ldifmod.specs.declared.fault.GrantKind.TheVariants as kind
use Rattle.ad_ldifmod.specs.declared.fault.Refusal.{Refusal}
use Rattle.ad_ldifmod.specs.declared.fault.Refusal.TheVariants.{Bad}
use Rattle.ad_ldifmod.specs.Lines.{parts_of, says_nothing}
use Rattle.ad_ldifmod.specs.Changes.{change_of}

-- ---- lists

-- the list of each object, by its number, and whether it is protected
abbrev pub Lists : Type 0
Lists = ℕ → AceList

-- an object's list as it is stored, without the entries that it inherited
abbrev pub stored_list : Directory → Lists
stored_list dir number = (explicit_part (sd_at dir.objects number)).dacl

-- entries after the others, before them, and taken out
abbrev pub changed : Change → List Entry → List Entry
changed (Behind entry) entries = entries ++ entry ∷ []
changed (Front entry) entries = entry ∷ entries
changed (Without sid) entries = filter (λ entry. not (same_sid entry.sid sid)) entries

abbrev pub changed_list : Change → AceList → AceList
changed_list change list = record { protected = list.protected; entries = changed change list.entries }

-- ---- a line

-- an object, what becomes of its list, and its name as the line spells it
pub record Step : Type 0 where
  pub number : ℕ
  pub change : Change
  pub name : List ℕ

-- what has to be there
abbrev pub or_bad : {A : Type 0} → GrantKind → Option A → Result A Refusal
or_bad kind Option.None = Err (Bad kind)
or_bad kind (Option.Some x) = Ok x

-- the object of the name that a text encodes; none where it encodes none, and where no object has it
unfoldable pub number_named : Directory → List ℕ → Option ℕ
number_named dir text = number_of_name dir text

-- What a line asks for, or its fault: first that of its form, then that of its entry or identifier, then that of
-- its name. Aliases stand below the root's identifier.
unfoldable pub step_of : Directory → List ℕ → Result Step Refusal
step_of dir line = do
  parts ← or_bad kind.Form (parts_of line)
  change ← or_bad kind.Entry (change_of (domain_sid dir) parts.verb parts.what)
  number ← or_bad kind.Name (number_named dir parts.name)
  Ok (record { number = number; change = change; name = parts.name })

-- the lists after a step: that of its object is another one
abbrev pub after_step : Step → Lists → Lists
after_step step lists number = if number == step.number then changed_list step.change (lists number) else lists number

abbrev pub after_if : Result Step Refusal → Lists → Lists
after_if (Ok step) lists = after_step step lists
after_if (Err refusal) lists = lists

-- the lists after a line, and after lines
abbrev pub after_line : Directory → List ℕ → Lists → Lists
after_line dir line lists = if says_nothing line then lists else after_if (step_of dir line) lists

unfoldable pub after_lines : Directory → List (List ℕ) → Lists → Lists
after_lines dir [] lists = lists
after_lines dir (line ∷ lines) lists = after_lines dir lines (after_line dir line lists)
