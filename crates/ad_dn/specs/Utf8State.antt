-- UTF-8 a byte at a time (RFC 3629 4): what may follow within a character.
use Rattle.std.specs.Prelude.{ℕ, ◌+◌, ◌-◌, nat_le, nat_lt, ◌==◌, ◌&&◌, ◌||◌, if◌then◌else◌, Option, Some, None}
use Rattle.ad_dn.specs.declared.utf8_state.Utf8State.{Utf8State}

-- So many bytes are due, and the next of them lies between these two.
abbrev pub due : ℕ → ℕ → ℕ → Utf8State
due more low high = record { more = more; low = low; high = high }

abbrev pub nothing_due : Utf8State
nothing_due = due 0 128 191

-- how many bytes a character has that begins with this one, or 0 where none does
abbrev pub size : ℕ → ℕ
size b =
    if nat_lt b 128 then 1
    else if nat_lt b 194 then 0
    else if nat_lt b 224 then 2
    else if nat_lt b 240 then 3
    else if nat_lt b 245 then 4
    else 0

-- the least and the greatest byte after a first one
abbrev pub least_after : ℕ → ℕ
least_after b = if b == 224 then 160 else if b == 240 then 144 else 128

abbrev pub most_after : ℕ → ℕ
most_after b = if b == 237 then 159 else if b == 244 then 143 else 191

-- A character begins after so many bytes of a value, and has all its bytes within 1,024.
abbrev pub begun : ℕ → ℕ → Option Utf8State
begun used b = if (size b == 0) || nat_lt 1024 (used + size b) then None
    else Some (due (size b - 1) (least_after b) (most_after b))

abbrev pub continued : Utf8State → ℕ → Option Utf8State
continued d b = if nat_le d.low b && nat_le b d.high then Some (due (d.more - 1) 128 191) else None

-- what is due after one more byte, where that byte may stand
abbrev pub due_after : ℕ → Utf8State → ℕ → Option Utf8State
due_after used d b = if d.more == 0 then begun used b else continued d b
