-- The line of an event.
use Rattle.std.specs.Prelude.{ℕ, Bool, true, false, codes, decimal, List, ◌++◌}
use Rattle.ad_ids.specs.GuidText.{guid_or_hyphen}
use Rattle.ad_ids.specs.SidText.{sid_text}
use Rattle.ad_bytes.specs.Puts.{spaced}
use Rattle.ad_acl.specs.Codes.{letters_of}
use Rattle.ad_audit.specs.declared.event.Event.{Event}

abbrev pub outcome_word : Bool → List ℕ
outcome_word true = codes "success"
outcome_word false = codes "failure"

-- the frame's number, its connection, whether the access was granted, the right, the last GUID of the path, the
-- user and the name of the object, each but the last with a blank after it, and a line end
unfoldable pub event_line : Event → List ℕ
event_line event = spaced (decimal event.frame)
    ++ (spaced (decimal event.connection) ++ (spaced (outcome_word event.success)
    ++ (spaced (letters_of event.right) ++ (spaced (guid_or_hyphen event.guid) ++ (spaced (sid_text event.user)
    ++ (event.dn ++ codes "\n"))))))
