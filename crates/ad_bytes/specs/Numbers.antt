-- Numbers of a fixed width and parts of a given length, as they are written and as they are read.
use Rattle.std.specs.Prelude.{◌≡◌, ℕ, ◌<◌, ◌^◌, List, [], ◌∷◌, length, take, drop, Ok, Err, nat_lt, if◌then◌else◌}
use Rattle.byteorder.specs.Endian.{big_bytes, big_number, little_bytes, little_number}
use Rattle.ad_bytes.specs.declared.input.Short.{Short}
use Rattle.ad_bytes.specs.Reading.{Reading}

-- the n bytes of a number, the most significant first
unfoldable pub be_bytes : ℕ → ℕ → List ℕ
be_bytes n x = big_bytes n x

-- the n bytes of a number, the least significant first
unfoldable pub le_bytes : ℕ → ℕ → List ℕ
le_bytes n x = little_bytes n x

-- the only fault of a primitive: the bytes end before it does
abbrev pub short : Short
short = record {}

-- the byte at the start
unfoldable pub byte_at : List ℕ → Reading ℕ Short
byte_at [] = Err short
byte_at (b ∷ bytes) = Ok (b, bytes)

-- the number in the n bytes at the start, the most significant first
unfoldable pub be_at : ℕ → List ℕ → Reading ℕ Short
be_at n bytes = if nat_lt (length bytes) n then Err short else Ok (big_number n bytes, drop n bytes)

-- the number in the n bytes at the start, the least significant first
unfoldable pub le_at : ℕ → List ℕ → Reading ℕ Short
le_at n bytes = if nat_lt (length bytes) n then Err short else Ok (little_number n bytes, drop n bytes)

-- the n bytes at the start
unfoldable pub part_at : ℕ → List ℕ → Reading (List ℕ) Short
part_at n bytes = if nat_lt (length bytes) n then Err short else Ok (take n bytes, drop n bytes)

-- the encodings that these readers are of
abbrev pub SpellsBe : ℕ → ℕ → List ℕ → Type 0
SpellsBe n x text = (x < 256 ^ n) × (text ≡ be_bytes n x)

abbrev pub SpellsLe : ℕ → ℕ → List ℕ → Type 0
SpellsLe n x text = (x < 256 ^ n) × (text ≡ le_bytes n x)

abbrev pub SpellsByte : ℕ → List ℕ → Type 0
SpellsByte b text = (b < 256) × (text ≡ b ∷ [])

abbrev pub SpellsPart : ℕ → List ℕ → List ℕ → Type 0
SpellsPart n part text = (length part ≡ n) × (text ≡ part)
