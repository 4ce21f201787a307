-- Each state of the reader can be gone on from to a whole name, and so the place of a fault is exact.
use Rattle.std.proofs.Common.{Bool, eqb, ◌≡◌, ◌⊎◌, inl, inr, ℕ, zero, suc, ◌+◌, ◌-◌, ◌*◌, ◌<◌, ◌≤◌, true, false}
use Rattle.std.proofs.Common.{if◌then◌else◌, Option, Some, None, is_some, List, [], ◌∷◌, ◌++◌, length, refl, sym, ap}
use Rattle.std.proofs.Common.{subst, ◌∙◌, arith}
use Rattle.std.specs.Prelude.{◌&&◌, ◌||◌, not, option_map}
use Rattle.std.proofs.lemmas.Bool.{cases_Bool, cases_lt}
use Rattle.std.proofs.lemmas.Bool.Decides.{nat_tests}
use Rattle.ad_bytes.specs.Prefix.{BeginsOne}
use Rattle.ad_bytes.proofs.Machines.{run_append, run_step, Finishes, IsMachineOf, offset_of_stop, stop_spells_none}
use Rattle.ad_dn.specs.declared.rdn.Rdn.{Rdn}
use Rattle.ad_dn.specs.declared.rdn.Dn.{Dn}
use Rattle.ad_dn.specs.declared.utf8_state.Utf8State.{Utf8State}
use Rattle.ad_dn.specs.declared.steps.State.{State}
use Rattle.ad_dn.specs.declared.steps.ParserPhase.{ParserPhase}
use Rattle.ad_dn.specs.declared.steps.ParserPhase.TheVariants.{Nothing, Comma, Kind, KindEnd, Equals, Value, Mark}
use Rattle.ad_dn.specs.declared.steps.ParserPhase.TheVariants.{Digit}
use Rattle.ad_dn.specs.declared.fault.DnFault.{DnFault}
use Rattle.ad_dn.specs.declared.fault.DnFault.TheVariants.{Bad, Memory}
use Rattle.ad_dn.specs.Utf8State.{due, nothing_due, due_after}
use Rattle.uuid.specs.Text.{is_hex_digit, value_of}
use Rattle.ad_dn.specs.Grammar.{is_reserved, is_special, SpellsRdns, SpellsDn, IsFault, is_memory}
use Rattle.ad_dn.specs.Reading.{name, finished_name}
use Rattle.ad_dn.specs.Steps.{state, start, moved, with_byte, with_blank, with_rdn, may_stand, byte_taken, byte_step}
use Rattle.ad_dn.specs.Steps.{plain_step, mark_step, digit_step, step, step_from, from_there, finished, IsStop, Moves}
use Rattle.ad_dn.proofs.Utf8.{at_first, at_later, begun_is, continued_is}
use Rattle.ad_dn.proofs.NameRuns.{fresh, text_read}
use Rattle.ad_dn.proofs.Lifts.{Held, InMark, InDigit, Well, held_byte}
use Rattle.ad_dn.proofs.ValueLifts.{finished_spells, kept_well}

-- some bytes lead on to a whole name
pub record GoesOn (s : State) : Type 0 where
  pub text : List ℕ
  pub last : State
  pub steps : from_there (Some s) text ≡ Some last
  pub all : List Rdn
  pub whole : finished last ≡ Some all

-- one step on the way
by_step : (s u : State) (b : ℕ) → step s b ≡ Some u → GoesOn u → GoesOn s
by_step s u b e g = record {
  text = b ∷ g.text;
  last = g.last;
  steps = run_step step s u b g.text e ∙ g.steps;
  all
      = g.all;
  whole = g.whole;
}

-- ---- before a value

from_equals : (rdns : List Rdn) (kind : List ℕ) → GoesOn (fresh Equals rdns kind)
unfolding step_from
from_equals rdns kind = record {
  text = 97 ∷ [];
  last = state Value rdns kind (97 ∷ []) 1 nothing_due;
  steps = refl;
  all = rdns ++ record { kind = kind; value = 97 ∷ [] } ∷ [];
  whole = refl;
}

from_kind_end : (rdns : List Rdn) (kind : List ℕ) → GoesOn (fresh KindEnd rdns kind)
unfolding step_from
from_kind_end rdns kind = by_step (fresh KindEnd rdns kind) (fresh Equals rdns kind) 61 refl (from_equals rdns kind)

from_kind : (rdns : List Rdn) (kind : List ℕ) → GoesOn (fresh Kind rdns kind)
unfolding step_from
from_kind rdns kind = by_step (fresh Kind rdns kind) (fresh Equals rdns kind) 61 refl (from_equals rdns kind)

from_comma : (rdns : List Rdn) → GoesOn (fresh Comma rdns [])
unfolding step_from
from_comma rdns = by_step (fresh Comma rdns []) (fresh Kind rdns (65 ∷ [])) 65 refl (from_kind rdns (65 ∷ []))

from_nothing : (rdns : List Rdn) → GoesOn (fresh Nothing rdns [])
from_nothing rdns = record { text = []; last = fresh Nothing rdns []; steps = refl; all = rdns; whole = refl }

-- ---- within a value

from_closed : (s : State) → s.phase ≡ Value → s.due.more ≡ 0 → GoesOn s
unfolding step_from
from_closed s is none =
    by_step s (with_rdn s) 44 (ap (λ (x : ParserPhase). step_from x s 44) is
    ∙ ap (λ (m : ℕ). if not (eqb m 0) then plain_step s 44 else Some (with_rdn s)) none)
    (from_comma (with_rdn s).rdns)

-- the least byte that may come next does
least_follows : (s : State) → Held s → 0 < s.due.more → due_after (length s.value) s.due s.due.low
    ≡ Some (due (s.due.more - 1) 128 191)
least_follows s h some = at_later (length s.value) s.due.low s.due some ∙ continued_is s.due s.due.low (omega arith)
    h.is_due.ordered

high_is_plain : (b : ℕ) → 128 ≤ b → (is_reserved b || eqb b 0) ≡ false
high_is_plain b h = grind (arith, nat_tests)

least_step : (s : State) → s.phase ≡ Value → Held s → 0 < s.due.more → step s s.due.low
    ≡ Some (with_byte s s.due.low (due (s.due.more - 1) 128 191))
unfolding step_from
least_step s is h some =
    let b = s.due.low in
    let low : 128 ≤ b = omega (arith, h.is_due.low) in
    let no_mark : eqb b 92 ≡ false = grind (arith, nat_tests) in
    let open_one : eqb s.due.more 0 ≡ false = grind (arith, nat_tests) in
    let closed = if eqb b 32 then Some (with_blank s) else if eqb b 44 then Some (with_rdn s) else plain_step s b in
    ap (λ (x : ParserPhase). step_from x s b) is
    ∙ ap (λ (t : Bool). if t then mark_step s else if not (eqb s.due.more 0) then plain_step s b else closed) no_mark
    ∙ ap (λ (t : Bool). if not t then plain_step s b else closed) open_one
    ∙ ap (λ (t : Bool). if t then None else byte_step s b) (high_is_plain b low)
    ∙ ap (byte_taken s b) (least_follows s h some)

from_value : (more : ℕ) (s : State) → s.phase ≡ Value → Held s → s.due.more ≡ more → GoesOn s
from_value zero s is h e = from_closed s is e
from_value (suc more) s is h e =
    let some : 0 < s.due.more = omega (arith, e) in
    let d = due (s.due.more - 1) 128 191 in
    by_step s (with_byte s s.due.low d) s.due.low (least_step s is h some)
    (from_value more (with_byte s s.due.low d) refl (held_byte s s.due.low d h (least_follows s h some))
    (omega (arith, e)))

-- after a byte that was taken
from_byte : (s : State) (b : ℕ) (d : Utf8State) → Held s → due_after (length s.value) s.due b ≡ Some d
    → GoesOn (with_byte s b d)
from_byte s b d h is = from_value d.more (with_byte s b d) refl (held_byte s b d h is) refl

-- ---- after \

-- a digit, after which 0 or F may stand
stands_by : (s : State) (b : ℕ) → may_stand s b ≡ true → (d : Utf8State) × (due_after (length s.value) s.due b ≡ Some d)
stands_by s b e = by (due_after (length s.value) s.due b) refl e
  where
    by : (o : Option Utf8State) → due_after (length s.value) s.due b ≡ o → is_some o ≡ true → (d : Utf8State)
        × (due_after (length s.value) s.due b ≡ Some d)
    by None is q = absurd cc
    by (Some d) is q = (d, is)

second_is : (high low b : ℕ) (s : State) (d : Utf8State) → s.phase ≡ Digit high → is_hex_digit high ≡ true
    → is_hex_digit low ≡ true → 16 * value_of high + value_of low ≡ b → due_after (length s.value) s.due b ≡ Some d
    → step s low ≡ Some (with_byte s b d)
unfolding step_from
second_is high low b s d is hex hex2 same stands =
    ap (λ (x : ParserPhase). step_from x s low) is
    ∙ ap (λ (t : Bool). if t && is_hex_digit low then byte_step s (16 * value_of high + value_of low) else None) hex
    ∙ ap (λ (t : Bool). if t then byte_step s (16 * value_of high + value_of low) else None) hex2
    ∙ ap (byte_step s) same
    ∙ ap (byte_taken s b) stands

from_digit : (high : ℕ) (s : State) → InDigit high s → GoesOn s
from_digit high s w = elim (cases_Bool (may_stand s (16 * value_of high))) [
  | inl least ↦
      let d = stands_by s (16 * value_of high) least in
      by_step s (with_byte s (16 * value_of high) d.0) 48
      (second_is high 48 (16 * value_of high) s d.0 w.is w.hex refl (omega arith) d.1)
      (from_byte s (16 * value_of high) d.0 w.held d.1)
  | inr not_least ↦
      let most : may_stand s (16 * value_of high + 15) ≡ true
      = sym (ap (λ (t : Bool). t || may_stand s (16 * value_of high + 15)) not_least) ∙ w.may in
      let d = stands_by s (16 * value_of high + 15) most in
      by_step s (with_byte s (16 * value_of high + 15) d.0) 70
      (second_is high 70 (16 * value_of high + 15) s d.0 w.is w.hex refl refl d.1)
      (from_byte s (16 * value_of high + 15) d.0 w.held d.1)
]

-- the digit of the least byte that may come next
record LeastDigit (low : ℕ) : Type 0 where
  digit : ℕ
  hex : is_hex_digit digit ≡ true
  no_special : is_special digit ≡ false
  says : 16 * value_of digit ≡ low

least_digit : (low : ℕ) → (low ≡ 128) ⊎ ((low ≡ 144) ⊎ (low ≡ 160)) → LeastDigit low
least_digit low (inl e) = record { digit = 56; hex = refl; no_special = refl; says = sym e }
least_digit low (inr (inl e)) = record { digit = 57; hex = refl; no_special = refl; says = sym e }
least_digit low (inr (inr e)) = record { digit = 65; hex = refl; no_special = refl; says = sym e }

from_mark_open : (s : State) → InMark s → 0 < s.due.more → GoesOn s
unfolding step_from
from_mark_open s w some =
    let h = w.held in
    let l = least_digit s.due.low h.is_due.low in
    let u = moved (Digit l.digit) s in
    let least : may_stand s (16 * value_of l.digit) ≡ true = ap (may_stand s) l.says
    ∙ ap is_some (least_follows s h some) in
    let may : (may_stand s (16 * value_of l.digit) || may_stand s (16 * value_of l.digit + 15)) ≡ true
    = ap (λ (t : Bool). t || may_stand s (16 * value_of l.digit + 15)) least in
    by_step s u l.digit
    (ap (λ (x : ParserPhase). step_from x s l.digit) w.is
    ∙ ap (λ (t : Bool). if t then byte_step s l.digit else if is_hex_digit l.digit then digit_step s l.digit
    else None) l.no_special
    ∙ ap (λ (t : Bool). if t then digit_step s l.digit else None) l.hex
    ∙ ap (λ (t : Bool). if t then Some u else None) may)
    (from_digit l.digit u (record {
      is = refl;
      held
          = record { is_due = h.is_due; kept_within = h.kept_within; room = h.room; open_kept = h.open_kept };
      hex
          = l.hex;
      may = may;
    }))

from_mark_closed : (s : State) → InMark s → s.due.more ≡ 0 → GoesOn s
unfolding step_from
from_mark_closed s w none =
    let space : length s.value ≤ 1023 = w.space none in
    let stands : due_after (length s.value) s.due 32 ≡ Some nothing_due = at_first (length s.value) 32 s.due none
    ∙ begun_is (length s.value) 32 0 refl (omega (arith, space)) in
    by_step s (with_byte s 32 nothing_due) 32 (ap (λ (x : ParserPhase). step_from x s 32) w.is
    ∙ ap (byte_taken s 32) stands) (from_byte s 32 nothing_due w.held stands)

from_mark : (s : State) → InMark s → GoesOn s
from_mark s w = elim (cases_lt 0 s.due.more) [
  | inl some ↦ from_mark_open s w some
  | inr over
      ↦ from_mark_closed s w (omega arith)
]

-- ---- each state

goes_on : (phase : ParserPhase) (s : State) → Well phase s → GoesOn s
goes_on Nothing s w = subst GoesOn (sym w) (from_nothing s.rdns)
goes_on Comma s w = subst GoesOn (sym w) (from_comma s.rdns)
goes_on Kind s w = subst GoesOn (sym w) (from_kind s.rdns s.kind)
goes_on KindEnd s w = subst GoesOn (sym w) (from_kind_end s.rdns s.kind)
goes_on Equals s w = subst GoesOn (sym w) (from_equals s.rdns s.kind)
goes_on Value s w = from_value s.due.more s w.0 w.1 refl
goes_on Mark s w = from_mark s w
goes_on (Digit high) s w = from_digit high s w

-- what was read begins some name's text
read_begins : (s : State) (text : List ℕ) → from_there (Some start) text ≡ Some s → BeginsOne SpellsDn text
read_begins s text e =
    let w = kept_well text Nothing start s refl refl e in
    let g = goes_on w.phase s w.well in
    let whole : from_there (Some start) (text ++ g.text) ≡ Some g.last = run_append step (Some start) text g.text
    ∙ ap (λ (o : Option State). from_there o g.text) e ∙ g.steps in
    record { value = name g.all; rest = g.text; spelled = finished_spells g.last (text ++ g.text) g.all whole g.whole }

-- ---- the machine is the grammar's

named : (o : Option (List Rdn)) (text : List ℕ) (dn : Dn) → ((rdns : List Rdn) → o ≡ Some rdns → SpellsRdns rdns text)
    → option_map name o ≡ Some dn → SpellsDn dn text
named None text dn h e = absurd cc
named (Some rdns) text dn h e = let same : name rdns ≡ dn = cc in subst (λ (d : Dn). SpellsDn d text) same (h rdns refl)

whole_name : (dn : Dn) (text : List ℕ) → SpellsDn dn text → Finishes step start finished_name dn text
whole_name dn text spelled =
    let f = text_read dn.rdns text spelled in
    record { last = f.last; steps = f.steps; whole = ap (option_map name) f.whole }

pub reads_names : IsMachineOf SpellsDn step start finished_name
reads_names = record {
  found = λ s text dn e whole. named (finished s) text dn (λ rdns f. finished_spells s text rdns e f) whole;
  read = whole_name;
  begins = read_begins;
}

pub stop_is_fault : (fault : DnFault) (text : List ℕ) → IsStop fault text → IsFault fault text
stop_is_fault (Bad place) text h = offset_of_stop SpellsDn step start finished_name reads_names place text h
stop_is_fault Memory text h = tt

-- where a step failed, the text encodes nothing
pub stop_only : (fault : DnFault) (text : List ℕ) (dn : Dn) → IsStop fault text → SpellsDn dn text → is_memory fault
    ≡ false → ⊥
stop_only (Bad place) text dn h spelled e = stop_spells_none SpellsDn step start finished_name reads_names place text
    dn h spelled
stop_only Memory text dn h spelled e = absurd cc

-- whether a step went well
pub went_well : (m : Bool) (next : Option State) (s : State) → m ≡ true → Moves m next s → next ≡ Some s
went_well true next s e h = h
went_well false next s e h = absurd cc

pub went_wrong : (m : Bool) (next : Option State) (s : State) → m ≡ false → Moves m next s → next ≡ None
went_wrong true next s e h = absurd cc
went_wrong false next s e h = h
