-- The limits of a message.
use Rattle.std.specs.Prelude.{ℕ}

-- the deepest filter
unfoldable pub most_levels : ℕ
most_levels = 64

-- the greatest number of a message, of a size limit and of a time limit (RFC 4511 4.1.1: maxInt)
unfoldable pub most_int : ℕ
most_int = 2147483647
