-- How the text of a name is read, a byte a step.
use Rattle.std.specs.Prelude.{◌≡◌, ℕ, ◌+◌, ◌*◌, nat_lt, Bool, true, false, not, ◌==◌, ◌&&◌, ◌||◌, if◌then◌else◌}
use Rattle.std.specs.Prelude.{is_some, List, [], ◌∷◌, ◌++◌, length, take, Option, Some, None}
use Rattle.std.specs.Char.{to_ascii_uppercase}
use Rattle.ad_bytes.specs.Machine.{run, StopsAt}
use Rattle.ad_dn.specs.declared.rdn.Rdn.{Rdn}
use Rattle.ad_dn.specs.declared.utf8_state.Utf8State.{Utf8State}
use Rattle.ad_dn.specs.declared.steps.State.{State}
use Rattle.ad_dn.specs.declared.steps.ParserPhase.{ParserPhase}
use Rattle.ad_dn.specs.declared.steps.ParserPhase.TheVariants.{Nothing, Comma, Kind, KindEnd, Equals, Value, Mark}
use Rattle.ad_dn.specs.declared.steps.ParserPhase.TheVariants.{Digit}
use Rattle.ad_dn.specs.declared.fault.DnFault.{DnFault}
use Rattle.ad_dn.specs.declared.fault.DnFault.TheVariants.{Bad, Memory}
use Rattle.ad_dn.specs.AttributeType.{is_letter, is_type_byte}
use Rattle.uuid.specs.Text.{is_hex_digit, value_of}
use Rattle.ad_dn.specs.Grammar.{is_reserved, is_special}
use Rattle.ad_dn.specs.Utf8State.{nothing_due, due_after}

abbrev pub state : ParserPhase → List Rdn → List ℕ → List ℕ → ℕ → Utf8State → State
state phase rdns kind value kept due = record {
  phase = phase;
  rdns = rdns;
  kind = kind;
  value = value;
  kept
      = kept;
  due = due;
}

abbrev pub start : State
start = state Nothing [] [] [] 0 nothing_due

-- the state with this before the next byte
abbrev pub moved : ParserPhase → State → State
moved phase s = record s { phase = phase }

-- one more byte of a type
abbrev pub with_letter : State → ℕ → State
with_letter s b = record s { phase = Kind; kind = s.kind ++ to_ascii_uppercase b ∷ [] }

-- one more byte of a value, up to which it is kept whatever follows
abbrev pub with_byte : State → ℕ → Utf8State → State
with_byte s b due = record s { phase = Value; value = s.value ++ b ∷ []; kept = length (s.value ++ b ∷ []); due = due }

-- one more blank of a value, which is kept only if more of the value follows
abbrev pub with_blank : State → State
with_blank s = record s { value = s.value ++ 32 ∷ [] }

abbrev pub rdn_of : State → Rdn
rdn_of s = record { kind = s.kind; value = take s.kept s.value }

-- the comma after a value
abbrev pub with_rdn : State → State
with_rdn s = state Comma (s.rdns ++ rdn_of s ∷ []) [] [] 0 nothing_due

-- a whole part with this value, of which nothing is due
abbrev pub with_part : State → List ℕ → List ℕ → State
with_part s kind value = state Value s.rdns kind value (length value) nothing_due

-- a whole part and the comma after it
abbrev pub with_next : State → List ℕ → List ℕ → State
with_next s kind value = record s { phase = Comma; rdns = s.rdns ++ record { kind = kind; value = value } ∷ [] }

abbrev pub may_stand : State → ℕ → Bool
may_stand s b = is_some (due_after (length s.value) s.due b)

abbrev pub byte_taken : State → ℕ → Option Utf8State → Option State
byte_taken s b (Some due) = Some (with_byte s b due)
byte_taken s b None = None

abbrev pub byte_step : State → ℕ → Option State
byte_step s b = byte_taken s b (due_after (length s.value) s.due b)

-- a byte by itself
abbrev pub plain_step : State → ℕ → Option State
plain_step s b = if is_reserved b || (b == 0) then None else byte_step s b

-- \ stands where some byte may stand
abbrev pub mark_step : State → Option State
mark_step s = if (s.due.more == 0) && nat_lt 1023 (length s.value) then None else Some (moved Mark s)

abbrev pub kind_step : State → ℕ → Option State
kind_step s b =
    if is_type_byte b then Some (with_letter s b)
    else if b == 32 then Some (moved KindEnd s)
    else if b == 61 then Some (moved Equals s)
    else None

abbrev pub value_step : State → ℕ → Option State
value_step s b =
    if b == 92 then mark_step s
    else if not (s.due.more == 0) then plain_step s b
    else if b == 32 then Some (with_blank s)
    else if b == 44 then Some (with_rdn s)
    else plain_step s b

-- After a first digit one of 16 bytes may stand, and if any, the least or the greatest of them.
abbrev pub digit_step : State → ℕ → Option State
digit_step s high =
    if may_stand s (16 * value_of high) || may_stand s (16 * value_of high + 15) then Some (moved (Digit high) s)
    else None

abbrev pub mark_next : State → ℕ → Option State
mark_next s b = if is_special b then byte_step s b else if is_hex_digit b then digit_step s b else None

abbrev pub second_step : State → ℕ → ℕ → Option State
second_step s high b = if is_hex_digit high && is_hex_digit b then byte_step s (16 * value_of high + value_of b)
    else None

abbrev pub first_step : State → ℕ → Option State
first_step s b = if is_letter b then Some (with_letter s b) else None

abbrev pub comma_step : State → ℕ → Option State
comma_step s b = if b == 32 then Some s else first_step s b

abbrev pub kind_end_step : State → ℕ → Option State
kind_end_step s b = if b == 32 then Some s else if b == 61 then Some (moved Equals s) else None

abbrev pub equals_step : State → ℕ → Option State
equals_step s b = if b == 32 then Some s else if b == 35 then None else if b == 92 then mark_step s else plain_step s b

unfoldable pub step_from : ParserPhase → State → ℕ → Option State
step_from Nothing s b = first_step s b
step_from Comma s b = comma_step s b
step_from Kind s b = kind_step s b
step_from KindEnd s b = kind_end_step s b
step_from Equals s b = equals_step s b
step_from Value s b = value_step s b
step_from Mark s b = mark_next s b
step_from (Digit high) s b = second_step s high b

abbrev pub step : State → ℕ → Option State
step s b = step_from s.phase s b

abbrev pub finished_value : State → Option (List Rdn)
finished_value s = if (s.due.more == 0) && (s.kept == length s.value)
    then Some (s.rdns ++ record { kind = s.kind; value = s.value } ∷ []) else None

-- the parts of the name, where its text may end here
abbrev pub finished_from : ParserPhase → State → Option (List Rdn)
finished_from Nothing s = Some s.rdns
finished_from Value s = finished_value s
finished_from _ s = None

abbrev pub finished : State → Option (List Rdn)
finished s = finished_from s.phase s

-- whether the step went well, and if so what it led to
abbrev pub Moves : Bool → Option State → State → Type 0
Moves true next s = next ≡ Some s
Moves false next s = next ≡ None

-- step after step
abbrev pub from_there : Option State → List ℕ → Option State
from_there o bytes = run step o bytes

-- what a fault says of the steps; where memory ran out, nothing
abbrev pub IsStop : DnFault → List ℕ → Type 0
IsStop (Bad place) text = StopsAt step start place text
IsStop Memory text = Unit {0}
