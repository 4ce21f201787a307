-- How the rows of a directory are listed, kind after kind.
use Rattle.std.specs.Prelude.{◌≡◌, ℕ, suc, List, [], ◌∷◌, ◌++◌, map}
use Rattle.row_store.specs.declared.row.Row.{Row}
use Rattle.row_store.specs.Table.{AreListed, table_of}
use Rattle.ad_dir_model.specs.Directory.{Directory}
use Rattle.ad_dir_model.specs.Object.{Object}
use Rattle.ad_dir_model.specs.Objects.{object_at}
use Rattle.ad_rows_write.specs.Rows.{AreRowsOf, HasBody}

-- such rows were put after those that were there
abbrev pub Adds : (List Row → Type 0) → List Row → List Row → Type 0
Adds Are old new = (more : List Row) × Are more × (new ≡ old ++ more)

-- the row of a kind, with a number and a value
abbrev pub IsRowAt : {A : Type 0} → ℕ → (A → List ℕ → Type 0) → ℕ × A → Row → Type 0
IsRowAt kind Spells pair row = (row.kind ≡ kind) × (row.number ≡ pair.0) × HasBody (Spells pair.1) row.body

-- one row for each number with its value
abbrev pub AreRowsAt : {A : Type 0} → ℕ → (A → List ℕ → Type 0) → List (ℕ × A) → List Row → Type 0
AreRowsAt kind Spells [] rows = rows ≡ []
AreRowsAt kind Spells (pair ∷ pairs) [] = ⊥
AreRowsAt kind Spells (pair ∷ pairs) (row ∷ rows) = IsRowAt kind Spells pair row × AreRowsAt kind Spells pairs rows

-- an object with its number
abbrev pub numbered : Object → ℕ × Object
numbered o = (o.number, o)

-- the objects of these numbers
abbrev pub objects_at : List Object → List ℕ → List (ℕ × Object)
objects_at objects numbers = map (λ n. (n, object_at objects n)) numbers

-- values with their places, from this one on
abbrev pub counted : {A : Type 0} → ℕ → List A → List (ℕ × A)
counted from [] = []
counted from (x ∷ xs) = (from, x) ∷ counted (suc from) xs

-- all rows of a directory, in their order
abbrev pub AreAllOf : Directory → List Row → Type 0
AreAllOf dir rows = AreRowsOf dir (table_of rows) × AreListed rows
