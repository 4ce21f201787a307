-- The place of the privilege of a token that changes ask for (docs/profile/identifiers.md). Those that decide of rights
-- stand in ad_access.
use Rattle.std.specs.Prelude.{ℕ}

-- to make anyone an owner
abbrev pub restore : ℕ
restore = 2
