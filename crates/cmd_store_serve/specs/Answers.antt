-- The answers to a list of frames, and the numbers that stand in them.
use Rattle.std.specs.Prelude.{ℕ, zero, suc, ◌+◌, ◌==◌, Bool, false, if◌then◌else◌, Option, List, [], ◌∷◌, length}
use Rattle.std.specs.Prelude.{Result, Ok, Err, slice_get, unwrap_or}
use Rattle.ad_bytes.specs.Reading.{Reading, ◌>>=◌}
use Rattle.ad_bytes.specs.Numbers.{part_at, be_at}
use Rattle.ad_bytes.specs.declared.input.Short.{Short}
use Rattle.ad_ber.specs.Reading.{element_at}
use Rattle.ad_ber.specs.declared.finding.Tagged.{Tagged}
use Rattle.ad_ber.specs.declared.fault.BerFault.{BerFault}
use Rattle.ad_ldap.specs.Tags.{search_entry}
use Rattle.ad_ids.specs.declared.token.Token.{Token}
use Rattle.ad_frames.specs.declared.frame.Frame.{Frame}
use Rattle.ad_dir_model.specs.Directory.{Directory}
use Rattle.ad_engine.specs.Answer.{answer}
use Rattle.ad_engine.specs.Runs.{no_tokens}

-- ---- the answers, one by one

unfoldable pub outputs_from : Directory → List (Option Token) → List Frame → List (List ℕ)
outputs_from dir tokens [] = []
outputs_from dir tokens (frame ∷ frames) =
    (answer dir tokens frame).output ∷ outputs_from (answer dir tokens frame).directory
    (answer dir tokens frame).tokens frames

abbrev pub outputs : Directory → List Frame → List (List ℕ)
outputs dir frames = outputs_from dir no_tokens frames

-- that of a place, and none after the last
abbrev pub output_at : List (List ℕ) → ℕ → List ℕ
output_at answers place = unwrap_or (slice_get answers place) []

-- ---- numbers of four bytes

abbrev pub or_zero : Result ℕ Short → ℕ
or_zero (Ok n) = n
or_zero (Err e) = 0

-- the one after so many bytes
unfoldable pub number_behind : ℕ → List ℕ → Result ℕ Short
number_behind places bytes = do
  head ← part_at places bytes
  n ← be_at 4 head.1
  Ok n.0

-- what stands before a body: its kind, its connection and its length
abbrev pub header_length : ℕ
header_length = 7

-- the first number of a body, and the second
abbrev pub first_number : List ℕ → ℕ
first_number output = or_zero (number_behind header_length output)

abbrev pub second_number : List ℕ → ℕ
second_number output = or_zero (number_behind (header_length + 4) output)

-- ---- the entries of a search

-- the tag of what a message is, which stands after its number
unfoldable pub operation_of : List ℕ → Result ℕ BerFault
operation_of message = do
  id ← element_at message
  operation ← element_at id.1
  Ok operation.0.tag

-- an entry that was found
abbrev pub is_entry : Result ℕ BerFault → Bool
is_entry (Ok tag) = tag == search_entry
is_entry (Err e) = false

abbrev pub one_if : Bool → ℕ
one_if test = if test then 1 else 0

-- a message, and those after it
abbrev pub with_message : Reading Tagged BerFault → (List ℕ → ℕ) → ℕ
with_message (Ok message) others = one_if (is_entry (operation_of message.0.body)) + others message.1
with_message (Err e) others = 0

-- among the first n messages
unfoldable pub entries_within : ℕ → List ℕ → ℕ
entries_within zero bytes = 0
entries_within (suc n) bytes = with_message (element_at bytes) (entries_within n)

-- among all messages of a reply
abbrev pub entries_of : List ℕ → ℕ
entries_of reply = entries_within (length reply) reply

abbrev pub entries_behind : Reading (List ℕ) Short → ℕ
entries_behind (Ok head) = entries_of head.1
entries_behind (Err e) = 0

-- in the body of an answer
unfoldable pub found_in : List ℕ → ℕ
found_in output = entries_behind (part_at header_length output)
