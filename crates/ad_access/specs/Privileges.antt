-- The places of the privileges of a token that decide of rights (docs/profile/identifiers.md).
use Rattle.std.specs.Prelude.{ℕ}

-- to read and write the SACL of any object
abbrev pub security : ℕ
security = 0

-- to write the owner of any object
abbrev pub take_ownership : ℕ
take_ownership = 1
