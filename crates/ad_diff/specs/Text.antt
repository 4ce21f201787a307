-- The text of differences: the causes; then principals and objects in groups, and for a group of each what its members
-- gain and lose.
use Rattle.std.specs.Prelude.{◌≡◌, ◌⊎◌, ℕ, ◌+◌, ◌^◌, ◌<◌, Bool, true, ◌==◌, if◌then◌else◌, List, [], ◌∷◌}
use Rattle.std.specs.Prelude.{◌++◌, codes, decimal, map, get_or, All}
use Rattle.std.specs.List.{flat_map, list_any}
use Rattle.std.specs.Option.{option_map_or}
use Rattle.ad_bytes.specs.Puts.{spaced, ended, labelled}
use Rattle.ad_ids.specs.SidText.{sid_text}
use Rattle.ad_dir_model.specs.Directory.{Directory}
use Rattle.ad_dir_model.specs.Names.{name_text}
use Rattle.ad_dir_model.specs.Identity.{self_sid}
use Rattle.ad_both.specs.declared.both.Both.{Both}
use Rattle.ad_both.specs.Both.{objects_of_both}
use Rattle.ad_diff_rights.specs.Both.{principals_of_both}
use Rattle.ad_causes.specs.Cause.{causes_text}
use Rattle.ad_causes.specs.Causes.{causes}
use Rattle.ad_diff_rights.specs.Changes.{Differs}
use Rattle.ad_diff.specs.declared.numbering.Grouped.{Grouped}

-- ---- groups

abbrev pub members : List Grouped → List Both
members groups = map (λ (g : Grouped). g.both) groups

-- one is in the group of this number
abbrev pub has_member : List Grouped → ℕ → Bool
has_member groups group = list_any (λ (g : Grouped). g.group == group) groups

-- the number of the group is one of 32 bits
abbrev pub HasNumber : Grouped → Type 0
HasNumber g = g.group < 2 ^ 32

-- the lines of a group of objects and a group of principals, in a table of both; those that aren't in it have none
unfoldable pub cell : List (List (List ℕ)) → ℕ → ℕ → List ℕ
cell table objects principals = get_or (get_or table objects []) principals []

-- ---- lines of groups

-- the identifier that it has in the second directory, and a blank
abbrev pub sid_of : Directory → ℕ → List ℕ
sid_of dir number = option_map_or (λ sid. spaced (sid_text sid)) (self_sid dir number) []

-- the number of the group, the identifier and the name; who is in group 0 isn't told
unfoldable pub principal_line : Directory → Grouped → List ℕ
principal_line after g = if g.group == 0 then []
    else codes "principal " ++ (spaced (decimal g.group) ++ (sid_of after g.both.after
    ++ ended (name_text after g.both.after)))

unfoldable pub object_line : Directory → Grouped → List ℕ
object_line after g = if g.group == 0 then []
    else codes "object " ++ (spaced (decimal g.group) ++ ended (name_text after g.both.after))

-- ---- lines of differences

-- of a group of each, where there are any: the numbers of both, and the lines
abbrev pub cell_text : ℕ → ℕ → List ℕ → List ℕ
cell_text objects principals [] = []
cell_text objects principals (b ∷ bytes) = codes "principals " ++ (spaced (decimal principals)
    ++ (labelled (codes "objects ") (decimal objects) ++ (b ∷ bytes)))

-- of the groups of principals from this number on
unfoldable pub row_text : ℕ → ℕ → List (List ℕ) → List ℕ
row_text objects principals [] = []
row_text objects principals (lines ∷ others) = cell_text objects principals lines
    ++ row_text objects (principals + 1) others

-- of the groups of objects from this number on
unfoldable pub table_text : ℕ → List (List (List ℕ)) → List ℕ
table_text objects [] = []
table_text objects (row ∷ rows) = row_text objects 0 row ++ table_text (objects + 1) rows

-- ---- all

-- The lines of principals and of objects in groups, and those of the table. Where the table has none, there are none.
abbrev pub blocks_text : Directory → List Grouped → List Grouped → List ℕ → List ℕ
blocks_text after principals objects [] = []
blocks_text after principals objects (b ∷ bytes) =
    flat_map (principal_line after) principals ++ (flat_map (object_line after) objects ++ (b ∷ bytes))

-- The causes stand first. Each principal and each object of both is in a group, which has a number. On each object each
-- principal gains and loses exactly what the lines of their groups say. Group 0 of either has no lines, nor has a group that
-- nobody, or nothing, is in.
pub record IsDiffText (before after : Directory) (text : List ℕ) : Type 0 where
  pub principals : List Grouped
  pub objects : List Grouped
  pub table : List (List (List ℕ))
  pub are_principals : members principals ≡ principals_of_both before after
  pub are_objects : members objects ≡ objects_of_both before after
  pub numbered_principals : All HasNumber principals
  pub numbered_objects : All HasNumber objects
  pub exact : All (λ (p : Grouped). All (λ (o : Grouped). Differs before after p.both o.both
      (cell table o.group p.group)) objects) principals
  pub unlisted_objects : (principals : ℕ) → cell table 0 principals ≡ []
  pub unlisted_principals : (objects : ℕ) → cell table objects 0 ≡ []
  pub of_members : (objects_group principals_group : ℕ) → (cell table objects_group principals_group ≡ [])
      ⊎ ((has_member objects objects_group ≡ true) × (has_member principals principals_group ≡ true))
  pub lines : text ≡ causes_text (causes before after)
      ++ blocks_text after principals objects (table_text 0 table)
