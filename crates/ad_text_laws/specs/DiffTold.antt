-- What the text of diff tells: the lines of an answer, and when they can be read back.
use Rattle.std.specs.Prelude.{◌≡◌, ℕ, ◌+◌, ◌==◌, if◌then◌else◌, true, Some, List, [], ◌∷◌, ◌++◌, map}
use Rattle.std.specs.Prelude.{unwrap_or}
use Rattle.std.specs.List.{AllByRecursion, flat_map}
use Rattle.std.specs.Option.{option_map_or}
use Rattle.ad_ids.specs.SidValue.{SidValue}
use Rattle.ad_ids.specs.Sid.{IsSid}
use Rattle.ad_acl.specs.Entry.{Entry}
use Rattle.ad_sd.specs.declared.parts.Sd.{Sd}
use Rattle.ad_schema.specs.Sound.{MakeSchema}
use Rattle.ad_dir_model.specs.Directory.{Directory}
use Rattle.ad_dir_model.specs.Objects.{is_live, sd_at, Rise}
use Rattle.ad_dir_model.specs.Identity.{self_sid}
use Rattle.ad_causes.specs.Causes.{causes}
use Rattle.ad_diff.specs.declared.numbering.Grouped.{Grouped}
use Rattle.ad_diff.specs.Text.{IsDiffText}
use Rattle.ad_text_laws.specs.Lines.{facts_of}
use Rattle.ad_text_laws.specs.Printed.{HasForms, name_at}
use Rattle.ad_text_laws.specs.Diff.{DiffLine, cause, principal, object, block, diff_line_of, IsDiffLine}
use Rattle.ad_text_laws.specs.Diff.{diff_text}

-- the identifiers of a descriptor have their form
pub record HasSids (sd : Sd) : Type 0 where
  pub owner : IsSid sd.owner
  pub entries : AllByRecursion (λ (e : Entry). IsSid e.sid) sd.dacl.entries

-- what is needed of each of the two directories
pub record IsTellable (dir : Directory) : Type 0 where
  pub descriptors : (number : ℕ) → is_live dir.objects number ≡ true → HasSids (sd_at dir.objects number)
  pub forms : HasForms dir
  pub rise : Rise dir.objects
  pub makes : MakeSchema dir.schema

-- ---- groups

-- a principal in a group but 0: the number of the group, its identifier and its name
abbrev pub principal_told : Directory → Grouped → List DiffLine
principal_told after g =
    if g.group == 0 then []
    else option_map_or (λ (sid : SidValue). principal g.group sid (name_at after g.both.after) ∷ [])
    (self_sid after g.both.after) []

-- an object in a group but 0: the number of the group and its name
abbrev pub object_told : Directory → Grouped → List DiffLine
object_told after g = if g.group == 0 then [] else object g.group (name_at after g.both.after) ∷ []

-- ---- differences

-- of a group of each, where there are any: the numbers of both, and what is gained and lost
abbrev pub cell_told : ℕ → ℕ → List ℕ → List DiffLine
cell_told objects principals [] = []
cell_told objects principals (b ∷ bytes) =
    block principals objects ∷ unwrap_or (facts_of diff_line_of (b ∷ bytes)) []

-- of the groups of principals from this number on
unfoldable pub row_told : ℕ → ℕ → List (List ℕ) → List DiffLine
row_told objects principals [] = []
row_told objects principals (lines ∷ others) =
    cell_told objects principals lines ++ row_told objects (principals + 1) others

-- of the groups of objects from this number on
unfoldable pub table_told : ℕ → List (List (List ℕ)) → List DiffLine
table_told objects [] = []
table_told objects (row ∷ rows) = row_told objects 0 row ++ table_told (objects + 1) rows

-- ---- all

-- principals and objects stand before what the table tells, where that is something
abbrev pub blocks_told : Directory → List Grouped → List Grouped → List DiffLine → List DiffLine
blocks_told after principals objects [] = []
blocks_told after principals objects (line ∷ lines) =
    flat_map (principal_told after) principals ++ (flat_map (object_told after) objects ++ (line ∷ lines))

abbrev pub lines_told : Directory → Directory → List Grouped → List Grouped → List (List (List ℕ)) → List DiffLine
lines_told before after principals objects table =
    map cause (causes before after) ++ blocks_told after principals objects (table_told 0 table)

-- The text is of the lines of its answer, and reads back to them.
pub record IsRead (before after : Directory) (text : List ℕ) (told : IsDiffText before after text) : Type 0 where
  pub form : AllByRecursion IsDiffLine (lines_told before after told.principals told.objects told.table)
  pub lines : text ≡ diff_text (lines_told before after told.principals told.objects told.table)
  pub read : facts_of diff_line_of text ≡ Some (lines_told before after told.principals told.objects told.table)
