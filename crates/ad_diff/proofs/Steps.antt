-- The text of columns.
use Rattle.std.proofs.Common.{◌≡◌, ◌∙◌, ℕ, List, get_or, map, sym}
use Rattle.std.proofs.Common.{◌<◌, ◌+◌, ◌++◌, length, take, ap, append_assoc, arith}
use Rattle.std.proofs.lemmas.List.{map_more, length-map, length-take-le}
use Rattle.ad_diff.specs.declared.columns.Column.{Column}
use Rattle.ad_diff.specs.declared.bases.Frame.{Frame}
use Rattle.ad_diff.specs.Text.{cell_text, row_text, table_text}
use Rattle.ad_diff.specs.Frames.{lines_at}
use Rattle.ad_diff.specs.Table.{row_of}
use Rattle.ad_diff.proofs.Texts.{row_more, table_more}

-- ---- the text of columns

pub row_step : (objects k principals : ℕ) (frame : Frame) (column : Column) (leaders : List ℕ)
    (before mid after line : List ℕ)
    → k < length leaders
    → mid ≡ before ++ row_text objects 1 (map (λ (leader : ℕ). lines_at frame column leader) (take k leaders))
    → principals ≡ k + 1 → line ≡ lines_at frame column (get_or leaders k 0)
    → after ≡ mid ++ cell_text objects principals line
    → after ≡ before ++ row_text objects 1 (map (λ (leader : ℕ). lines_at frame column leader) (take (k + 1) leaders))
row_step objects k principals frame column leaders before mid after line lt is count same put =
    let f = λ (leader : ℕ). lines_at frame column leader in
    let row = map f (take k leaders) in
    let few : length row ≡ k = length-map (take k leaders) f ∙ length-take-le k leaders (omega (arith, lt)) in
    let own : principals ≡ 1 + length row = omega (arith, count, few) in
    put
    ∙ ap (λ (t : List ℕ). t ++ cell_text objects principals line) is
    ∙ append_assoc before (row_text objects 1 row) (cell_text objects principals line)
    ∙ ap (λ (t : List ℕ). before ++ (row_text objects 1 row ++ cell_text objects principals t)) same
    ∙ ap (λ (t : List ℕ). before ++ t) (sym (row_more objects 1 principals row (f (get_or leaders k 0)) own))
    ∙ ap (λ (all : List (List ℕ)). before ++ row_text objects 1 all) (sym (map_more f leaders k 0 lt))

pub table_step : (i objects : ℕ) (frame : Frame) (leaders : List ℕ) (columns : List Column) (column : Column)
    (before mid after : List ℕ) → i < length columns
    → mid ≡ before ++ table_text 1 (map (λ (c : Column). row_of leaders (lines_at frame c)) (take i columns))
    → objects ≡ i + 1 → column ≡ get_or columns i column
    → after ≡ mid ++ row_text objects 1 (map (λ (leader : ℕ). lines_at frame column leader) leaders)
    → after ≡ before ++ table_text 1 (map (λ (c : Column). row_of leaders (lines_at frame c)) (take (i + 1) columns))
unfolding row_text
table_step i objects frame leaders columns column before mid after lt is count same put =
    let f = λ (c : Column). row_of leaders (lines_at frame c) in
    let rows = map f (take i columns) in
    let few : length rows ≡ i = length-map (take i columns) f ∙ length-take-le i columns (omega (arith, lt)) in
    let own : objects ≡ 1 + length rows = omega (arith, count, few) in
    put
    ∙ ap (λ (t : List ℕ). t ++ row_text objects 0 (f column)) is
    ∙ append_assoc before (table_text 1 rows) (row_text objects 0 (f column))
    ∙ ap (λ (c : Column). before ++ (table_text 1 rows ++ row_text objects 0 (f c))) same
    ∙ ap (λ (t : List ℕ). before ++ t) (sym (table_more 1 objects rows (f (get_or columns i column)) own))
    ∙ ap (λ (all : List (List (List ℕ))). before ++ table_text 1 all) (sym (map_more f columns i column lt))
