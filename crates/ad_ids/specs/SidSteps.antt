-- How a text of a security identifier is read, a byte a step.
use Rattle.std.specs.Prelude.{ℕ, ◌+◌, ◌-◌, ◌*◌, ◌^◌, ◌==◌, ◌&&◌, ◌||◌, not, nat_lt, nat_le, Bool, if◌then◌else◌}
use Rattle.std.specs.Prelude.{List, [], ◌∷◌, ◌++◌, length, Option, Some, None}
use Rattle.uuid.specs.Text.{is_hex_digit, value_of}
use Rattle.ad_bytes.specs.Machine.{run, StopsAt}
use Rattle.ad_ids.specs.SidValue.{SidValue}
use Rattle.ad_ids.specs.declared.sid.reading.State.{State}
use Rattle.ad_ids.specs.declared.sid.reading.Before.{Before}
use Rattle.ad_ids.specs.declared.sid.reading.Before.TheVariants.{Nothing, Letter, LetterHyphen, Revision, Front}
use Rattle.ad_ids.specs.declared.sid.reading.Before.TheVariants.{Decimal, Hex, Hyphen, Number}

abbrev pub is_digit : ℕ → Bool
is_digit b = nat_le 48 b && nat_le b 57

-- the state with these parts, where the test passes
abbrev pub state : Before → ℕ → ℕ → List ℕ → State
state before authority number done = record { before = before; authority = authority; number = number; done = done }

-- a number with one more digit: none begins with 0, and none is 2^32 or above
abbrev pub more_digits : ℕ → ℕ → Option ℕ
more_digits n b = if is_digit b && nat_lt 0 n && nat_lt (n * 10 + (b - 48)) (2 ^ 32) then Some (n * 10 + (b - 48))
    else None

abbrev pub with_number : State → Option ℕ → Option State
with_number s (Some n) = Some (state s.before s.authority n s.done)
with_number s None = None

abbrev pub hex_with : ℕ → State → ℕ → Option State
hex_with k s n = if (k == 3) && (n == 0) then None else Some (state (Hex (k + 1)) n s.number s.done)

-- A digit of the authority in hexadecimal. Its first four aren't all 0, since it is no smaller than 2^32.
unfoldable pub hex_step : ℕ → State → ℕ → Option State
hex_step k s b =
    if k == 12 then (if b == 45 then Some (state Hyphen s.authority s.number s.done) else None)
    else if not (is_hex_digit b) then None
    else if nat_le (2 ^ 44) s.authority || nat_lt 12 k then None
    else hex_with k s (s.authority * 16 + value_of b)

abbrev pub decimal_step : State → ℕ → Option State
decimal_step s b =
    if b == 45 then Some (state Hyphen s.number s.number s.done)
    else if (b == 120) && (s.number == 0) then Some (state (Hex 0) 0 s.number s.done)
    else with_number s (more_digits s.number b)

abbrev pub number_step : State → ℕ → Option State
number_step s b =
    if not (b == 45) then with_number s (more_digits s.number b)
    else if nat_le 14 (length s.done) then None
    else Some (state Hyphen s.authority s.number (s.done ++ s.number ∷ []))

unfoldable pub step_from : Before → State → ℕ → Option State
step_from Nothing s b = if (b == 83) || (b == 115) then Some (state Letter s.authority s.number s.done) else None
step_from Letter s b = if b == 45 then Some (state LetterHyphen s.authority s.number s.done) else None
step_from LetterHyphen s b = if b == 49 then Some (state Revision s.authority s.number s.done) else None
step_from Revision s b = if b == 45 then Some (state Front s.authority s.number s.done) else None
step_from Front s b = if is_digit b then Some (state Decimal s.authority (b - 48) s.done) else None
step_from Decimal s b = decimal_step s b
step_from (Hex k) s b = hex_step k s b
step_from Hyphen s b = if is_digit b then Some (state Number s.authority (b - 48) s.done) else None
step_from Number s b = number_step s b

abbrev pub step : State → ℕ → Option State
step s b = step_from s.before s b

-- the identifier, where its text may end here
abbrev pub finished_from : Before → State → Option SidValue
finished_from Number s = if nat_le (2 ^ 48) s.authority || nat_le 15 (length s.done) then None
    else Some (record { authority = s.authority; sub_authorities = s.done ++ s.number ∷ [] })
finished_from _ s = None

abbrev pub finished : State → Option SidValue
finished s = finished_from s.before s

-- step after step
abbrev pub from_there : Option State → List ℕ → Option State
from_there o bytes = run step o bytes

abbrev pub start : State
start = state Nothing 0 0 []

-- the bytes before the offset are steps, and the byte there is none
abbrev pub Stops : ℕ → List ℕ → Type 0
Stops offset text = StopsAt step start offset text

abbrev pub finished_if : Option State → Option SidValue
finished_if None = None
finished_if (Some s) = finished s

-- the identifier that the steps of the whole text finish with
unfoldable pub read_by_steps : List ℕ → Option SidValue
read_by_steps text = finished_if (from_there (Some start) text)
