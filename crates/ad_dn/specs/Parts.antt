-- A part of a name whose value is encoded by its own bytes: it is read at once.
use Rattle.std.specs.Prelude.{◌≡◌, ℕ, zero, suc, ◌-◌, ◌<◌, ◌≤◌, nat_lt, Bool, true, false, not, ◌==◌, ◌&&◌, IsTrue}
use Rattle.std.specs.Prelude.{List, [], ◌∷◌, ◌++◌, length, take, slice_index, Some, None}
use Rattle.std.specs.List.{list_all}
use Rattle.ad_dn.specs.declared.steps.State.{State}
use Rattle.ad_dn.specs.declared.steps.ParserPhase.{ParserPhase}
use Rattle.ad_dn.specs.declared.steps.ParserPhase.TheVariants.{Nothing, Comma}
use Rattle.ad_dn.specs.AttributeType.{is_type}
use Rattle.ad_dn.specs.Grammar.{is_reserved}
use Rattle.ad_dn.specs.Utf8State.{nothing_due}
use Rattle.ad_dn.specs.Steps.{state, step, from_there}

-- a byte of ASCII that stands by itself within a value
abbrev pub is_ordinary : ℕ → Bool
is_ordinary b = nat_lt b 128 && not (b == 0) && not (is_reserved b)

-- the ends of a value that is encoded by its own bytes
pub record HasOrdinaryEnds (value : List ℕ) : Type 0 where
  pub some : 0 < length value
  pub most : length value ≤ 1024
  pub no_blank : (slice_index value 0 == 32) ≡ false
  pub no_hash : (slice_index value 0 == 35) ≡ false
  pub last : (slice_index value (length value - 1) == 32) ≡ false

-- The text begins with a type, = and a value of such bytes, and a comma follows where it is told so.
pub record BeginsOrdinary (kind value : List ℕ) (comma : Bool) (text : List ℕ) : Type 0 where
  pub is_type : IsTrue (is_type kind)
  pub ordinary : list_all is_ordinary value ≡ true
  pub ends : HasOrdinaryEnds value
  pub rest : List ℕ
  pub parts : text ≡ kind ++ 61 ∷ (value ++ rest)
  pub follows : IsTrue comma → slice_index rest 0 ≡ 44

-- where a part may begin
abbrev pub begins_part : ParserPhase → Bool
begins_part Nothing = true
begins_part Comma = true
begins_part _ = false

-- Nothing of a part was read where one may begin.
abbrev pub IsReady : State → Type 0
IsReady s = begins_part s.phase ≡ true → s ≡ state s.phase s.rdns [] [] 0 nothing_due

-- so many bytes of the text are steps
pub record Passes (n : ℕ) (s : State) (text : List ℕ) (u : State) : Type 0 where
  pub within : n ≤ length text
  pub steps : from_there (Some s) (take n text) ≡ Some u

-- the same where some are; where none are, the first byte is no step
abbrev pub Advances : ℕ → State → List ℕ → State → Type 0
Advances zero s text u = step s (slice_index text 0) ≡ None
Advances (suc n) s text u = Passes (suc n) s text u
