-- What `adsd change` answers.
use Rattle.std.specs.Prelude.{◌≡◌, ◌⊎◌, ℕ, suc, Bool, nat_lt, nat_le, if◌then◌else◌, Option, Some, None, Result, Ok}
use Rattle.std.specs.Prelude.{Err}
use Rattle.std.specs.Prelude.{List, [], ◌∷◌, ◌++◌, length, take, codes}
use Rattle.site_io.specs.Told.{BothTold, StaysTold}
use Rattle.ad_bytes.specs.Numbers.{be_bytes}
use Rattle.ad_ldif.specs.declared.fault.LdifKind.{LdifKind}
use Rattle.ad_ldif.specs.declared.fault.LdifKind.TheVariants as kind
use Rattle.ad_ldif.specs.Records.{Fault}
use Rattle.ad_ldif.specs.Change.{Change}
use Rattle.ad_ldif.specs.Changes.{changes}
use Rattle.ad_ldifmod_message.specs.Asked.{message_asked}
use Rattle.ad_ldifmod_message.specs.Written.{message_bytes}
use Rattle.cmd_call.specs.Call.{Call, Healthy, IsTold}
use Rattle.cmd_call.specs.Lines.{fault_line}
use Rattle.cmd_call.specs.Outcome.{IsStopped}
use Rattle.cmd_call.specs.declared.outcome.Outcome.{Outcome}
use Rattle.cmd_call.specs.declared.outcome.Outcome.TheVariants.{Done, NotOfForm, SiteFailed, NoMemory}

-- the longest input, in bytes
abbrev pub limit : ℕ
limit = 67108864

-- ---- frames

-- The frame of a message on connection 0: its kind (2), the connection, the length of the body in four bytes, the
-- most significant first, and the body.
unfoldable pub frame : List ℕ → List ℕ
frame body = (2 ∷ 0 ∷ 0 ∷ []) ++ (be_bytes 4 (length body) ++ body)

-- the bytes of the message that a change record asks, with this number
abbrev pub body_of : Change → ℕ → List ℕ
body_of c n = message_bytes (message_asked c n)

-- a frame has room for the message
abbrev pub fits : List ℕ → Bool
fits body = nat_le (length body) 1048576

-- ---- what is refused

-- a word for the first fault, by the number of the line where it stands
pub record Refusal : Type 0 where
  pub line : ℕ
  pub word : List ℕ

abbrev pub word_of : LdifKind → List ℕ
word_of kind.Line = codes "line"
word_of kind.Base64 = codes "base64"
word_of kind.NoDn = codes "no dn"
word_of kind.Version = codes "version"
word_of kind.Url = codes "url"
word_of kind.ChangeType = codes "changetype"
word_of kind.TooLong = codes "too long"

abbrev pub refusal : ℕ → List ℕ → Refusal
refusal line word = record { line = line; word = word }

-- the line that is emitted
abbrev pub line_of : Refusal → List ℕ
line_of r = fault_line r.line r.word

-- ---- the answer

-- bytes before, where there is no fault
abbrev pub behind : List ℕ → Result (List ℕ) Refusal → Result (List ℕ) Refusal
behind front (Ok frames) = Ok (front ++ frames)
behind front (Err r) = Err r

-- no more records: the end of the input, or its fault
abbrev pub at_end : Option Fault → Result (List ℕ) Refusal
at_end None = Ok []
at_end (Some f) = Err (refusal f.line (word_of f.kind))

-- The frames of these records, whose messages have numbers from n on, each with the message of its record. The
-- first fault wins: a message that no frame has room for, at the record's line of `dn`, or the fault after the
-- records.
unfoldable pub frames_from : ℕ → List Change → Option Fault → Result (List ℕ) Refusal
frames_from n [] stop = at_end stop
frames_from n (c ∷ cs) stop =
    if fits (body_of c n) then behind (frame (body_of c n)) (frames_from (suc n) cs stop)
    else Err (refusal c.line (codes "long"))

-- the frames of an input's records, with numbers from 1, or its first fault
unfoldable pub answer_to : List ℕ → Result (List ℕ) Refusal
answer_to input =
    if nat_lt limit (length input) then Err (refusal 0 (codes "too long"))
    else frames_from 1 (changes input).changes (changes input).stop

-- these are the frames, or the line of the refusal
abbrev pub Asks : List ℕ → List ℕ → Type 0
Asks input frames = answer_to input ≡ Ok frames

abbrev pub Refuses : List ℕ → List ℕ → Type 0
Refuses input line = (r : Refusal) × (answer_to input ≡ Err r) × (line ≡ line_of r)

-- an input of change records whose messages have room in frames, and any other
abbrev pub AreChanges : List ℕ → Type 0
AreChanges input = (frames : List ℕ) × Asks input frames

abbrev pub NoChanges : List ℕ → Type 0
NoChanges input = (r : Refusal) × (answer_to input ≡ Err r)

-- ---- what is emitted

-- the frames for the whole input, which was read to its end
abbrev pub IsAsked : Option (List ℕ) → Option (List ℕ) → Option (List ℕ) → Option (List ℕ) → Type 0
IsAsked rest left before after =
    BothTold rest left (λ input behind. (behind ≡ [])
    × BothTold before after (λ old new. (frames : List ℕ) × Asks input frames × (new ≡ old ++ frames)))

-- the line of the refusal
abbrev pub IsRefusedSo : Option (List ℕ) → Option (List ℕ) → Option (List ℕ) → Option (List ℕ) → Type 0
IsRefusedSo rest left before after =
    BothTold rest left (λ input behind. NoChanges input
    × BothTold before after (λ old new. (line : List ℕ) × Refuses input line × (new ≡ old ++ line)))

-- where the output failed, a prefix of the frames or of the refusal
abbrev pub IsPartlyEmitted : Option (List ℕ) → Option (List ℕ) → Option (List ℕ) → Option (List ℕ) → Type 0
IsPartlyEmitted rest left before after =
    BothTold rest left (λ input behind. BothTold before after
    (λ old new. (text : List ℕ) × (Asks input text ⊎ Refuses input text) × (n : ℕ)
    × (new ≡ old ++ take n text)))

pub record ChangeDoes (call : Call) (outcome : Outcome) : Type 0 where
  -- what was emitted are the frames of the records of the whole input, which was read to its end
  pub asked : outcome ≡ Done → IsAsked call.input call.left call.emitted_before call.emitted_after
  -- refused is what has a fault, by the line for the one that comes first
  pub refused : outcome ≡ NotOfForm → IsRefusedSo call.input call.left call.emitted_before call.emitted_after
  -- records without a fault are done, and any other input is refused, unless something fails outside or memory runs
  -- out
  pub complete : IsTold AreChanges call.input → Healthy call → (outcome ≡ Done) ⊎ (outcome ≡ NoMemory)
  pub refuses : IsTold NoChanges call.input → Healthy call → (outcome ≡ NotOfForm) ⊎ (outcome ≡ NoMemory)
  -- where the output fails, a prefix of the frames or of the refusal was emitted
  pub partly : outcome ≡ SiteFailed → IsPartlyEmitted call.input call.left call.emitted_before call.emitted_after
  -- with any other outcome nothing is
  pub quiet : IsStopped outcome → StaysTold call.emitted_before call.emitted_after
