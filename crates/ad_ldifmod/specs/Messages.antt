-- The message that a line gives: a modification of its object, of the descriptor's list alone.
use Rattle.std.specs.Prelude.{ℕ, ◌^◌, nat_le, true, Option, List, [], ◌∷◌, length, codes, Result, Ok}
use Rattle.ad_bytes.specs.Reading.{◌>>=◌, need, or_fault}
use Rattle.ad_sd.specs.declared.parts.AceList.{AceList}
use Rattle.ad_sd.specs.declared.parts.SdParts.{SdParts}
use Rattle.ad_sd.specs.Writing.{written}
use Rattle.ad_ldap.specs.declared.controls.Control.{Control}
use Rattle.ad_ldap.specs.declared.items.Item.{Item}
use Rattle.ad_ldap.specs.declared.requests.Message.{Message}
use Rattle.ad_ldap.specs.declared.requests.Op.TheVariants.{Modify}
use Rattle.ad_ldap.specs.MessageValue.{message_seen}
use Rattle.ad_ldap.specs.Settings.{sd_flags}
use Rattle.ad_ldap.specs.Tags.{sequence, integer}
use Rattle.ad_ldap.specs.Choices.{replace_values, dacl_part}
use Rattle.ad_ldifmod_message.specs.Written.{message_bytes}
use Rattle.ad_ldifmod.specs.declared.fault.GrantKind.TheVariants as kind
use Rattle.ad_ldifmod.specs.declared.fault.Refusal.{Refusal}
use Rattle.ad_ldifmod.specs.declared.fault.Refusal.TheVariants.{Bad}

-- the most bytes of a message
unfoldable pub max_message : ℕ
max_message = 1048576

-- a descriptor with the list and nothing else
abbrev pub list_alone : AceList → SdParts
list_alone list = record { owner = Option.None; group = Option.None; dacl = Option.Some list; sacl = Option.None }

-- the descriptor's list alone is meant: a sequence of three bytes, which are an integer of one byte
abbrev pub list_flag : List ℕ
list_flag = sequence ∷ 3 ∷ integer ∷ 1 ∷ 2 ^ dacl_part ∷ []

abbrev pub flags_control : Control
flags_control = record { oid = sd_flags; critical = true; value = Option.Some list_flag }

-- the descriptor is replaced by these bytes
abbrev pub sd_item : List ℕ → Item
sd_item sd = record { op = replace_values; attr = codes "nTSecurityDescriptor"; values = sd ∷ [] }

abbrev pub modify : ℕ → List ℕ → List ℕ → Message
modify id name sd = record {
  id = id;
  op = Modify (record { dn = name; items = sd_item sd ∷ [] });
  controls
      = flags_control ∷ [];
}

-- the message is no longer than a frame's body
abbrev pub fits : Message → Result (Unit {0}) Refusal
fits message = need (nat_le (length (message_bytes (message_seen message))) max_message) (Bad kind.TooLong)

-- The message with this number that gives the object of the name the list. None where the list takes more than
-- 65,535 bytes, or the message more than a frame has room for.
unfoldable pub message_of : ℕ → List ℕ → AceList → Result Message Refusal
message_of id name list = do
  sd ← or_fault (Bad kind.TooLong) (written (list_alone list))
  _ ← fits (modify id name sd)
  Ok (modify id name sd)
