-- The kinds of frames, by their first byte (docs/profile/frames.md).
use Rattle.std.specs.Prelude.{ℕ}

abbrev pub token_byte : ℕ
token_byte = 1

abbrev pub message_byte : ℕ
message_byte = 2

abbrev pub steps_byte : ℕ
steps_byte = 3

abbrev pub run_byte : ℕ
run_byte = 4

-- the bytes of a number of steps
abbrev pub bytes_of_steps : ℕ
bytes_of_steps = 4
