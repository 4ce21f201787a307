-- Which bytes encode a message (RFC 4511 4.1.1 and 4.1.11).
use Rattle.std.specs.Prelude.{◌≡◌, ◌⊎◌, ℕ, ◌<◌, List, []}
use Rattle.ad_bytes.specs.Reading.{StartsWith, SpellsEach}
use Rattle.ad_ldap.specs.declared.controls.Control.{Control}
use Rattle.ad_ldap.specs.Limits.{most_int}
use Rattle.ad_ldap.specs.MessageValue.{MessageValue}
use Rattle.ad_ldap.specs.Elements.{IsEmpty, Tagged, SpellsOctets, SpellsNumber, SpellsOption, SpellsDefault}
use Rattle.ad_ldap.specs.Requests.{SpellsOp}
use Rattle.ad_ldap.specs.Tags.{sequence, octet_string, boolean, tag_of_controls, integer}

-- the identifier, whether it is critical, which may be left out where it isn't, and a value, which may be left out
abbrev pub SpellsControl : Control → List ℕ → Type 0
SpellsControl c text = Tagged sequence (StartsWith (SpellsOctets octet_string) c.oid
    (StartsWith (SpellsDefault boolean) c.critical (SpellsOption octet_string c.value))) text

-- the controls, which may be left out where there is none
abbrev pub SpellsControls : List Control → List ℕ → Type 0
SpellsControls controls text = Tagged tag_of_controls (SpellsEach SpellsControl controls) text ⊎
    ((controls ≡ []) × IsEmpty text)

-- the number, which isn't 0, the request, and the controls
pub record SpellsBody (m : MessageValue) (text : List ℕ) : Type 0 where
  pub some : 0 < m.id
  pub text_is : StartsWith (SpellsNumber integer most_int) m.id
      (StartsWith SpellsOp m.op (SpellsControls m.controls)) text

-- all of the bytes
abbrev pub SpellsMessage : MessageValue → List ℕ → Type 0
SpellsMessage m text = Tagged sequence (SpellsBody m) text
