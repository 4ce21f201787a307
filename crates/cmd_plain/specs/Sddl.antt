-- What `adsd sddl` answers.
use Rattle.std.specs.Prelude.{◌≡◌, ◌⊎◌, ℕ, Bool, ◌-◌, ◌<◌, ◌≤◌, ◌==◌, ◌&&◌, nat_lt, if◌then◌else◌, Option, None}
use Rattle.std.specs.Prelude.{List, [], ◌∷◌, ◌++◌, length, take, slice_index, codes, decimal, Ok, Err}
use Rattle.hex.specs.Hex.{encode_lower}
use Rattle.site_io.specs.Told.{BothTold, StaysTold}
use Rattle.ad_acl.specs.declared.write_fault.AclWriteFault.TheVariants.{TooLong}
use Rattle.ad_sd.specs.declared.parts.SdParts.{SdParts}
use Rattle.ad_sd.specs.Writing.{written}
use Rattle.ad_sddl.specs.declared.fault.SddlKind.{SddlKind}
use Rattle.ad_sddl.specs.declared.fault.SddlKind.TheVariants as kind
use Rattle.ad_sddl.specs.declared.fault.SddlFault.TheVariants.{Bad}
use Rattle.ad_sddl.specs.Grammar.{SpellsSddl}
use Rattle.ad_sddl.specs.Canonical.{canonical}
use Rattle.ad_sddl.specs.Reading.{read_of}
use Rattle.cmd_call.specs.Call.{Call, Healthy, IsTold}
use Rattle.cmd_call.specs.Outcome.{IsStopped}
use Rattle.cmd_call.specs.declared.outcome.Outcome.{Outcome}
use Rattle.cmd_call.specs.declared.outcome.Outcome.TheVariants.{Done, NotOfForm, SiteFailed, NoMemory}

-- the longest text, in bytes
abbrev pub limit : ℕ
limit = 1048576

-- the last byte is a line end (10)
abbrev pub ends_a_line : List ℕ → Bool
ends_a_line input = nat_lt 0 (length input) && (slice_index input (length input - 1) == 10)

-- the text: the input without one line end at its end
unfoldable pub text_of : List ℕ → List ℕ
text_of input = if ends_a_line input then take (length input - 1) input else input

-- ---- a text that is read

-- The text encodes these parts, is within the limit, and its lists have room in a descriptor of these bytes.
pub record IsSddl (text : List ℕ) (parts : SdParts) (bytes : List ℕ) : Type 0 where
  pub within : length text ≤ limit
  pub spelled : SpellsSddl None parts text
  pub written_so : written parts ≡ Ok bytes

-- the bytes in hexadecimal, and the canonical text, each with a line end
abbrev pub lines_of : SdParts → List ℕ → List ℕ
lines_of parts bytes = encode_lower bytes ++ (10 ∷ (canonical parts ++ 10 ∷ []))

abbrev pub TranslatesText : List ℕ → List ℕ → Type 0
TranslatesText text lines = (parts : SdParts) × (bytes : List ℕ) × IsSddl text parts bytes
    × (lines ≡ lines_of parts bytes)

abbrev pub IsDescriptorText : List ℕ → Type 0
IsDescriptorText text = (parts : SdParts) × (bytes : List ℕ) × IsSddl text parts bytes

abbrev pub NoDescriptorText : List ℕ → Type 0
NoDescriptorText text = IsDescriptorText text → ⊥

-- ---- a text that is refused

abbrev pub word_of : SddlKind → List ℕ
word_of kind.Part = codes "part"
word_of kind.Repeated = codes "repeated"
word_of kind.Sid = codes "sid"
word_of kind.Domain = codes "domain"
word_of kind.AceKind = codes "type"
word_of kind.Flag = codes "flag"
word_of kind.Rights = codes "rights"
word_of kind.Guid = codes "guid"
word_of kind.Shape = codes "shape"

-- a word for the fault, its place, and a line end
abbrev pub refusal : List ℕ → ℕ → List ℕ
refusal word place = codes "refused " ++ (word ++ (32 ∷ (decimal place ++ 10 ∷ [])))

-- a text above the limit
pub record IsLong (text line : List ℕ) : Type 0 where
  pub above : limit < length text
  pub line_is : line ≡ refusal (codes "long") limit

-- a text within the limit that goes wrong
pub record GoesWrong (text line : List ℕ) : Type 0 where
  pub within : length text ≤ limit
  pub fault : SddlKind
  pub place : ℕ
  pub stands_first : read_of None text ≡ Err (Bad place fault)
  pub line_is : line ≡ refusal (word_of fault) place

-- a text within the limit with a list that has no room in a descriptor
pub record HasLongList (text line : List ℕ) : Type 0 where
  pub within : length text ≤ limit
  pub parts : SdParts
  pub spelled : SpellsSddl None parts text
  pub too_long : written parts ≡ Err TooLong
  pub line_is : line ≡ refusal (codes "long") (length text)

-- the line for the fault that comes first
abbrev pub RefusesText : List ℕ → List ℕ → Type 0
RefusesText text line = IsLong text line ⊎ (GoesWrong text line ⊎ HasLongList text line)

-- ---- an input, of which a line end is no part of the text

abbrev pub IsText : List ℕ → Type 0
IsText input = IsDescriptorText (text_of input)

abbrev pub NoText : List ℕ → Type 0
NoText input = NoDescriptorText (text_of input)

abbrev pub Translates : List ℕ → List ℕ → Type 0
Translates input lines = TranslatesText (text_of input) lines

abbrev pub Refuses : List ℕ → List ℕ → Type 0
Refuses input line = RefusesText (text_of input) line

-- ---- what is emitted

-- the lines for the whole input, which was read to its end
abbrev pub IsTranslated : Option (List ℕ) → Option (List ℕ) → Option (List ℕ) → Option (List ℕ) → Type 0
IsTranslated rest left before after =
    BothTold rest left (λ input behind. (behind ≡ [])
    × BothTold before after (λ old new. (lines : List ℕ) × Translates input lines × (new ≡ old ++ lines)))

-- the line of the refusal
abbrev pub IsRefusedSo : Option (List ℕ) → Option (List ℕ) → Option (List ℕ) → Option (List ℕ) → Type 0
IsRefusedSo rest left before after =
    BothTold rest left (λ input behind. NoText input
    × BothTold before after (λ old new. (line : List ℕ) × Refuses input line × (new ≡ old ++ line)))

-- where the output failed, a prefix of the lines or of the refusal
abbrev pub IsPartlyEmitted : Option (List ℕ) → Option (List ℕ) → Option (List ℕ) → Option (List ℕ) → Type 0
IsPartlyEmitted rest left before after =
    BothTold rest left (λ input behind. BothTold before after
    (λ old new. (line : List ℕ) × (Translates input line ⊎ Refuses input line) × (n : ℕ)
    × (new ≡ old ++ take n line)))

pub record SddlDoes (call : Call) (outcome : Outcome) : Type 0 where
  -- what was emitted are the lines of the whole input, which was read to its end
  pub translated : outcome ≡ Done → IsTranslated call.input call.left call.emitted_before call.emitted_after
  -- refused is what is no text of a descriptor, by the line for the fault that comes first
  pub refused : outcome ≡ NotOfForm → IsRefusedSo call.input call.left call.emitted_before call.emitted_after
  -- such a text is done, and any other input is refused, unless something fails outside or memory runs out
  pub complete : IsTold IsText call.input → Healthy call → (outcome ≡ Done) ⊎ (outcome ≡ NoMemory)
  pub refuses : IsTold NoText call.input → Healthy call → (outcome ≡ NotOfForm) ⊎ (outcome ≡ NoMemory)
  -- where the output fails, a prefix of the lines or of the refusal was emitted
  pub partly : outcome ≡ SiteFailed → IsPartlyEmitted call.input call.left call.emitted_before call.emitted_after
  -- with any other outcome nothing is
  pub quiet : IsStopped outcome → StaysTold call.emitted_before call.emitted_after
