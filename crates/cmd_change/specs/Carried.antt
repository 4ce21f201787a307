-- The frames that carry the messages of change records.
use Rattle.std.specs.Prelude.{◌≡◌, ℕ, suc, List, [], ◌∷◌}
use Rattle.ad_bytes.specs.Reading.{StartsWith}
use Rattle.ad_frames.specs.declared.frame.Frame.{Frame}
use Rattle.ad_frames.specs.declared.frame.FrameBody.TheVariants.{Message}
use Rattle.ad_frames.specs.Frame.{SpellsFrame}
use Rattle.ad_ldap.specs.Messages.{SpellsMessage}
use Rattle.ad_ldif.specs.Change.{Change}
use Rattle.ad_ldifmod_message.specs.Asked.{message_asked}

-- a message on connection 0
abbrev pub frame_with : List ℕ → Frame
frame_with body = record { connection = 0; body = Message body }

-- One frame for each record, in order, whose bytes encode the record's message with its number, from n on.
abbrev pub CarriesEach : ℕ → List Change → List ℕ → Type 0
CarriesEach n [] text = text ≡ []
CarriesEach n (c ∷ cs) text =
    (body : List ℕ) × SpellsMessage (message_asked c n) body
    × StartsWith SpellsFrame (frame_with body) (CarriesEach (suc n) cs) text
