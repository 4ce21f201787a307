-- The hash of a name below a parent.
use Rattle.std.specs.Prelude.{ℕ, List, [], ◌∷◌, fold}
use Rattle.std.specs.declared.hash.DefaultHasher.{DefaultHasher}
use Rattle.std.specs.Hash as fed
use Rattle.std.specs.Hash.DefaultHasher.{initial, write, finish}

-- the state of std's hasher behind a number, and behind one more byte
abbrev pub with_number : DefaultHasher → ℕ → DefaultHasher
with_number state number = fold write state (fed.u32 number)

abbrev pub with_byte : DefaultHasher → ℕ → DefaultHasher
with_byte state byte = fold write state (fed.u8 byte)

-- behind these bytes
unfoldable pub with_all : DefaultHasher → List ℕ → DefaultHasher
with_all state [] = state
with_all state (byte ∷ bytes) = with_all (with_byte state byte) bytes

-- the hash of a folded naming value below a parent
unfoldable pub name_hash : ℕ → List ℕ → ℕ
name_hash parent folded = finish (with_all (with_number initial parent) folded)
