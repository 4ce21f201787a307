-- What the lines of audit tell, and how they are read back.
use Rattle.std.specs.Prelude.{◌≡◌, ◌⊎◌, ℕ, ◌^◌, ◌<◌, Bool, true, false, Option, Some, None, option_map, option_and_then}
use Rattle.std.specs.Prelude.{List, [], ◌∷◌, if◌then◌else◌, codes, IfSome}
use Rattle.std.specs.List.{flat_map}
use Rattle.std.specs.Str.{bytes_eq}
use Rattle.ad_ids.specs.SidValue.{SidValue}
use Rattle.ad_ids.specs.Sid.{IsSid}
use Rattle.ad_ids.specs.SidFront.{sid_of_text}
use Rattle.ad_ids.specs.Guid.{IsGuid}
use Rattle.ad_ids.specs.GuidText.{guid_of_text}
use Rattle.ad_ids.specs.declared.guid.Guid.{Guid}
use Rattle.ad_acl.specs.declared.codes.Code.{Code}
use Rattle.ad_acl.specs.Mask.{access_system_security}
use Rattle.ad_acl.specs.Codes.{right_codes}
use Rattle.ad_audit.specs.declared.event.Event.{Event}
use Rattle.ad_audit.specs.Line.{event_line}
use Rattle.ad_text_laws.specs.Lines.{is_line, word_of, number_of}

abbrev pub outcome_of : List ℕ → Option Bool
outcome_of word =
    if bytes_eq word (codes "success") then Some true
    else if bytes_eq word (codes "failure") then Some false
    else None

-- the bits of the first code with these letters
abbrev pub bits_in : List Code → List ℕ → Option ℕ
bits_in [] word = None
bits_in (code ∷ table) word = if bytes_eq word code.letters then Some code.bits else bits_in table word

unfoldable pub right_of : List ℕ → Option ℕ
right_of word = if bytes_eq word (codes "AS") then Some (2 ^ access_system_security) else bits_in right_codes word

abbrev pub guid_of : List ℕ → Option (Option Guid)
guid_of word = if bytes_eq word (codes "-") then Some None else option_map Some (guid_of_text word)

abbrev pub event_by : ℕ → ℕ → Bool → ℕ → Option Guid → SidValue → List ℕ → Event
event_by frame connection success right guid user dn = record {
  frame = frame;
  connection = connection;
  success = success;
  right = right;
  guid = guid;
  user = user;
  dn = dn;
}

-- the six words of a line, and the rest
abbrev pub words_in : List ℕ → (List ℕ → List ℕ → Option Event) → Option Event
words_in line next = option_and_then (λ (w : List ℕ × List ℕ). next w.0 w.1) (word_of line)

unfoldable pub event_of : List ℕ → Option Event
event_of line =
    words_in line (λ frame_word after_frame. words_in after_frame (λ connection_word after_connection.
    words_in after_connection (λ outcome_word after_outcome. words_in after_outcome (λ right_word after_right.
    words_in after_right (λ guid_word after_guid. words_in after_guid (λ user_word dn.
    option_and_then (λ (frame : ℕ). option_and_then (λ (connection : ℕ). option_and_then (λ (success : Bool).
    option_and_then (λ (right : ℕ). option_and_then (λ (guid : Option Guid). option_map (λ (user : SidValue).
    event_by frame connection success right guid user dn) (sid_of_text user_word)) (guid_of guid_word))
    (right_of right_word)) (outcome_of outcome_word)) (number_of connection_word)) (number_of frame_word)))))))

-- one of the rights that have letters
abbrev pub IsBitsOf : List Code → ℕ → Type 0
IsBitsOf [] right = ⊥
IsBitsOf (code ∷ table) right = (right ≡ code.bits) ⊎ IsBitsOf table right

pub record IsEvent (event : Event) : Type 0 where
  pub frame : event.frame < 2 ^ 64
  pub connection : event.connection < 2 ^ 64
  pub right : (event.right ≡ 2 ^ access_system_security) ⊎ IsBitsOf right_codes event.right
  pub guid : IfSome event.guid IsGuid
  pub user : IsSid event.user
  pub dn : is_line event.dn ≡ true

-- the lines of events, one after the other
abbrev pub event_text : List Event → List ℕ
event_text events = flat_map event_line events
