-- The limits of frames.
use Rattle.std.specs.Prelude.{ℕ}

unfoldable pub max_body : ℕ
max_body = 1048576

unfoldable pub max_connections : ℕ
max_connections = 1024

unfoldable pub max_steps : ℕ
max_steps = 1000000

unfoldable pub max_frames : ℕ
max_frames = 1000000
