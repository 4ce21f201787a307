-- A reader of texts as a machine, a byte a step: what it read and where it stopped, whatever its states are.
use Rattle.std.proofs.Common.{◌≡◌, ℕ, ◌+◌, ◌<◌, ◌≤◌, Option, Some, None, List, [], ◌∷◌, ◌++◌, length, take, drop}
use Rattle.std.proofs.Common.{get_or, refl, sym, ap, subst, ◌∙◌, append_assoc, arith}
use Rattle.std.proofs.lemmas.List.{take_more, take_all, take-take, take-append-drop}
use Rattle.std.proofs.lemmas.Option.{same_Some}
use Rattle.ad_bytes.specs.Prefix.{BeginsOne, IsFaultOffset}
use Rattle.ad_bytes.specs.Machine.{run, StopsAt}

-- ---- runs

pub run_none : {S : Type 0} (step : S → ℕ → Option S) (bytes : List ℕ) → run step None bytes ≡ None
run_none step [] = refl
run_none step (b ∷ bytes) = refl

-- nothing that is read after a byte that was no step leads to a state
pub none_ends : {S : Type 0} (step : S → ℕ → Option S) (bytes : List ℕ) (t : S) → run step None bytes ≡ Some t → ⊥
none_ends step [] t e = absurd cc
none_ends step (b ∷ bytes) t e = absurd cc

pub run_nil : {S : Type 0} (step : S → ℕ → Option S) (o : Option S) → run step o [] ≡ o
run_nil step None = refl
run_nil step (Some s) = refl

-- some bytes and then others
pub run_append : {S : Type 0} (step : S → ℕ → Option S) (o : Option S) (xs ys : List ℕ) → run step o (xs ++ ys)
    ≡ run step (run step o xs) ys
run_append step None [] ys = refl
run_append step None (x ∷ xs) ys = refl
run_append step (Some s) [] ys = refl
run_append step (Some s) (x ∷ xs) ys = run_append step (step s x) xs ys

-- one step before others
pub run_step : {S : Type 0} (step : S → ℕ → Option S) (s t : S) (b : ℕ) (bytes : List ℕ) → step s b ≡ Some t
    → run step (Some s) (b ∷ bytes) ≡ run step (Some t) bytes
run_step step s t b bytes e = ap (λ (o : Option _). run step o bytes) e

-- one more byte of a text, as a loop over its bytes reads it
pub step_more : {S : Type 0} (step : S → ℕ → Option S) (start : Option S) (text : List ℕ) (i : ℕ) (s : S) → i
    < length text
    → run step start (take i text) ≡ Some s → run step start (take (i + 1) text) ≡ step s (get_or text i 0)
step_more step start text i s lt so_far =
    ap (run step start) (take_more text i 0 lt)
    ∙ run_append step start (take i text) (get_or text i 0 ∷ [])
    ∙ ap (λ (o : Option _). run step o (get_or text i 0 ∷ [])) so_far
    ∙ run_nil step (step s (get_or text i 0))

-- ---- formats

-- What a machine finishes with after a text.
pub record Finishes {S A : Type 0} (step : S → ℕ → Option S) (start : S) (finish : S → Option A) (value : A)
    (text : List ℕ) : Type 0 where
  pub last : S
  pub steps : run step (Some start) text ≡ Some last
  pub whole : finish last ≡ Some value

-- A machine reads a format. What it finishes with is encoded by the bytes that it read, what is encoded so leads to
-- a state that it finishes with that value, and whatever it read can be gone on from.
pub record IsMachineOf {S A : Type 0} (Spells : A → List ℕ → Type 0) (step : S → ℕ → Option S) (start : S)
    (finish : S → Option A) : Type 0 where
  pub found : (s : S) (text : List ℕ) (value : A) → run step (Some start) text ≡ Some s → finish s ≡ Some value
      → Spells value text
  pub read : (value : A) (text : List ℕ) → Spells value text → Finishes step start finish value text
  pub begins : (s : S) (text : List ℕ) → run step (Some start) text ≡ Some s → BeginsOne Spells text

-- a prefix of a prefix
pub begins_shorter : {A : Type 0} (Spells : A → List ℕ → Type 0) (shorter longer : ℕ) (text : List ℕ) → shorter
    ≤ longer → BeginsOne Spells (take longer text) → BeginsOne Spells (take shorter text)
begins_shorter Spells shorter longer text le b =
    let prefix = take longer text in
    let split : prefix ++ b.rest ≡ take shorter text ++ (drop shorter prefix ++ b.rest) =
    ap (λ (t : List ℕ). t ++ b.rest) (sym (take-append-drop shorter prefix))
    ∙ append_assoc (take shorter prefix) (drop shorter prefix) b.rest
    ∙ ap (λ (t : List ℕ). t ++ (drop shorter prefix ++ b.rest)) (take-take shorter longer text le) in
    record { value = b.value; rest = drop shorter prefix ++ b.rest; spelled = subst (Spells b.value) split b.spelled }

module _ {S A : Type 0} (Spells : A → List ℕ → Type 0) (step : S → ℕ → Option S) (start : S) (finish : S → Option A)
    (m : IsMachineOf Spells step start finish) where
  -- a text that was read whole is finished with the one value that it encodes
  pub finished_once : (s : S) (text : List ℕ) (value : A) → run step (Some start) text ≡ Some s → Spells value text
      → finish s ≡ Some value
  finished_once s text value e spelled =
      let f = m.read value text spelled in
      let same : s ≡ f.last = same_Some s f.last (sym e ∙ f.steps) in
      ap finish same ∙ f.whole

  -- a text that was not read begins no text of the format
  pub no_text_goes_on : (value : A) (text rest : List ℕ) → run step (Some start) text ≡ None
      → Spells value (text ++ rest) → ⊥
  no_text_goes_on value text rest e spelled =
      let f = m.read value (text ++ rest) spelled in
      none_ends step rest f.last (sym (ap (λ (o : Option S). run step o rest) e)
      ∙ sym (run_append step (Some start) text rest) ∙ f.steps)

  -- where it stopped is the fault
  pub offset_of_stop : (offset : ℕ) (text : List ℕ) → StopsAt step start offset text → IsFaultOffset Spells offset text
  offset_of_stop offset text h =
      let within : offset < length text = h.within in
      record {
        within = omega (arith, within);
        begins = m.begins h.last (take offset text) h.steps;
        longest = λ longer more most b. (
            let c = begins_shorter Spells (offset + 1) longer text (omega (arith, more)) b in
            no_text_goes_on c.value (take (offset + 1) text) c.rest h.stops c.spelled
            );
      }

  -- where it was not done at the end, the end is
  pub offset_of_end : (s : S) (text : List ℕ) → run step (Some start) text ≡ Some s
      → IsFaultOffset Spells (length text) text
  offset_of_end s text e = record {
    within = omega arith;
    begins = subst (BeginsOne Spells) (sym (take_all (length text) text (omega arith))) (m.begins s text e);
    longest = λ longer more most b. absurd (omega (arith, more, most));
  }

  -- where it stopped, the text encodes nothing
  pub stop_spells_none : (offset : ℕ) (text : List ℕ) (value : A) → StopsAt step start offset text → Spells value text
      → ⊥
  stop_spells_none offset text value h spelled =
      no_text_goes_on value (take (offset + 1) text) (drop (offset + 1) text) h.stops
      (subst (Spells value) (sym (take-append-drop (offset + 1) text)) spelled)
