-- How a batch is read.
use Rattle.std.specs.Prelude.{ℕ, zero, suc, Bool, true, false, List, [], ◌∷◌, Option, Some, None, Ok, Err}
use Rattle.ad_bytes.specs.Reading.{Reading, ◌>>=◌, or_fault, many_at}
use Rattle.ad_bytes.specs.Numbers.{byte_at, be_at, part_at}
use Rattle.row_store.specs.declared.row.Row.{Row}
use Rattle.row_store.specs.declared.reading.RowFault.{RowFault}
use Rattle.row_store.specs.declared.reading.RowFault.TheVariants.{Bad, Memory}

-- the one fault that no bytes have
abbrev pub is_memory : RowFault → Bool
is_memory Bad = false
is_memory Memory = true

-- a body of a given length after that length
unfoldable pub put_at : List ℕ → Reading (Option (List ℕ)) RowFault
put_at bytes = do
  size ← or_fault Bad (be_at 8 bytes)
  body ← or_fault Bad (part_at size.0 size.1)
  Ok (Some body.0, body.1)

-- by the byte that says what is done
abbrev pub body_at : ℕ → List ℕ → Reading (Option (List ℕ)) RowFault
body_at zero bytes = Err Bad
body_at (suc zero) bytes = put_at bytes
body_at (suc (suc zero)) bytes = Ok (None, bytes)
body_at (suc (suc (suc n))) bytes = Err Bad

unfoldable pub row_at : List ℕ → Reading Row RowFault
row_at bytes = do
  what ← or_fault Bad (byte_at bytes)
  kind ← or_fault Bad (byte_at what.1)
  number ← or_fault Bad (be_at 8 kind.1)
  body ← body_at what.0 number.1
  Ok (record { kind = kind.0; number = number.0; body = body.0 }, body.1)

-- nothing may be left
abbrev pub ended : List Row → List ℕ → Reading (List Row) RowFault
ended rows [] = Ok (rows, [])
ended rows (b ∷ bytes) = Err Bad

unfoldable pub batch_at : List ℕ → Reading (List Row) RowFault
batch_at bytes = do
  count ← or_fault Bad (be_at 8 bytes)
  rows ← many_at row_at count.0 count.1
  ended rows.0 rows.1
