-- The rows that the edits of one commit change.
use Rattle.std.specs.Prelude.{◌≡◌, ℕ, ◌==◌, ◌&&◌, Bool, if◌then◌else◌, Option, Some, None, List, [], ◌∷◌, find}
use Rattle.std.specs.Prelude.{MatchOption}
use Rattle.row_store.specs.declared.row.Row.{Row}
use Rattle.row_store.specs.Table.{is_of, ComesBefore}
use Rattle.ad_dir_model.specs.Directory.{Edit, put_object, remove_object, put_queue, put_meta}
use Rattle.ad_rows_write.specs.Rows.{IsRowOf}

-- the kind and the number of the row that an edit changes
abbrev pub kind_of : Edit → ℕ
kind_of (put_object o) = 1
kind_of (remove_object number) = 1
kind_of (put_queue pending) = 2
kind_of (put_meta meta) = 3

abbrev pub number_of : Edit → ℕ
number_of (put_object o) = o.number
number_of (remove_object number) = number
number_of (put_queue pending) = 0
number_of (put_meta meta) = 0

abbrev pub changes : ℕ → ℕ → Edit → Bool
changes kind number edit = (kind_of edit == kind) && (number_of edit == number)

-- the last of the edits that changes the row of a kind and number, or the one from before
abbrev pub last_change : ℕ → ℕ → Option Edit → List Edit → Option Edit
last_change kind number before [] = before
last_change kind number before (edit ∷ edits) = last_change kind number
    (if changes kind number edit then Some edit else before) edits

abbrev pub row_at : ℕ → ℕ → List Row → Option Row
row_at kind number rows = find (is_of kind number) rows

-- by rising kind and number, none twice
abbrev pub RowsRise : List Row → Type 0
RowsRise [] = Unit {0}
RowsRise (row ∷ rows) = ComesBefore row rows × RowsRise rows

-- a row of the edit is the one of this kind and number
abbrev pub HasRowOf : List Row → ℕ → ℕ → Edit → Type 0
HasRowOf rows kind number edit = (row : Row) × (row_at kind number rows ≡ Some row) × IsRowOf edit row

-- The rows of a batch: by rising kind and number, one for each that an edit changes, and that of the last such edit.
pub record AreRowsOfEdits (edits : List Edit) (rows : List Row) : Type 0 where
  pub rise : RowsRise rows
  pub last : (kind number : ℕ) → MatchOption (last_change kind number None edits) (row_at kind number rows ≡ None)
      (HasRowOf rows kind number)
