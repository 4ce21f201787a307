-- What `adsd access` answers.
use Rattle.std.specs.Prelude.{◌≡◌, ◌⊎◌, ℕ, ◌<◌, ◌^◌, ◌&&◌, Option, None, List, [], ◌∷◌, ◌++◌, take}
use Rattle.hex.specs.Hex.{encode_lower}
use Rattle.ad_bytes.specs.Numbers.{be_bytes}
use Rattle.site_io.specs.Told.{BothTold, StaysTold}
use Rattle.ad_acl.specs.Mask.{has_bit, mapped_has}
use Rattle.ad_access.specs.Grant.{granted}
use Rattle.cmd_call.specs.Call.{Call, Healthy, IsSourceHealthy, IsTold}
use Rattle.cmd_call.specs.Outcome.{IsEarly}
use Rattle.cmd_call.specs.declared.outcome.Outcome.{Outcome}
use Rattle.cmd_call.specs.declared.outcome.Outcome.TheVariants.{Done, NotOfForm, SiteFailed, NoMemory}
use Rattle.cmd_plain.specs.Request.{Question, SpellsQuestion}

-- The mask has the wanted rights, after generic mapping, that the rules grant: for the empty path, and for an object
-- that has no identifier of its own.
pub record IsGrantedMask (q : Question) (mask : ℕ) : Type 0 where
  pub fits : mask < 2 ^ 32
  pub bits : (bit : ℕ) → bit < 32 → has_bit mask bit
      ≡ (mapped_has q.want bit && granted q.owner q.dacl q.token None [] bit)

-- eight lower-case hexadecimal digits and a line end
abbrev pub access_line : ℕ → List ℕ
access_line mask = encode_lower (be_bytes 4 mask) ++ 10 ∷ []

-- the bytes are a question, and the line is its answer
pub record Answers (input line : List ℕ) : Type 0 where
  pub question : Question
  pub mask : ℕ
  pub spelled : SpellsQuestion question input
  pub granted : IsGrantedMask question mask
  pub line_is : line ≡ access_line mask

-- the bytes are a question
abbrev pub IsQuestion : List ℕ → Type 0
IsQuestion input = (question : Question) × SpellsQuestion question input

-- The line answers the whole input, which was read to its end.
abbrev pub IsLineFor : Option (List ℕ) → Option (List ℕ) → List ℕ → Type 0
IsLineFor rest left line = BothTold rest left (λ input behind. (behind ≡ []) × Answers input line)

-- What was emitted is the line that answers the whole input, which was read to its end.
abbrev pub IsAnswered : Option (List ℕ) → Option (List ℕ) → Option (List ℕ) → Option (List ℕ) → Type 0
IsAnswered rest left before after =
    BothTold rest left (λ input behind. (behind ≡ [])
    × BothTold before after (λ old new. (line : List ℕ) × Answers input line × (new ≡ old ++ line)))

abbrev pub NoQuestion : List ℕ → Type 0
NoQuestion input = IsQuestion input → ⊥

-- the whole input, where it is told, is no question
abbrev pub IsRefused : Option (List ℕ) → Option (List ℕ) → Type 0
IsRefused rest left = BothTold rest left (λ input behind. NoQuestion input)

-- Where the output failed, a prefix of the answer to the whole input was emitted.
abbrev pub IsPartlyAnswered : Option (List ℕ) → Option (List ℕ) → Option (List ℕ) → Option (List ℕ) → Type 0
IsPartlyAnswered rest left before after =
    BothTold rest left (λ input behind. (behind ≡ []) × BothTold before after
    (λ old new. (line : List ℕ) × Answers input line × (n : ℕ) × (new ≡ old ++ take n line)))

pub record AccessDoes (call : Call) (outcome : Outcome) : Type 0 where
  -- what was emitted is the answer to the whole input, which was read to its end
  pub answered : outcome ≡ Done → IsAnswered call.input call.left call.emitted_before call.emitted_after
  -- refused is what is no question
  pub refused : outcome ≡ NotOfForm → IsRefused call.input call.left
  -- a question is answered, and what is none is refused, unless something fails outside or memory runs out
  pub complete : IsTold IsQuestion call.input → Healthy call → (outcome ≡ Done) ⊎ (outcome ≡ NoMemory)
  pub refuses : IsTold NoQuestion call.input → IsSourceHealthy call → (outcome ≡ NotOfForm) ⊎ (outcome ≡ NoMemory)
  -- where the output fails, a prefix of the answer was emitted
  pub partly : outcome ≡ SiteFailed → IsPartlyAnswered call.input call.left call.emitted_before call.emitted_after
  -- with any other outcome nothing is
  pub quiet : IsEarly outcome → StaysTold call.emitted_before call.emitted_after
