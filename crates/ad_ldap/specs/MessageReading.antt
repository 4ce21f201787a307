-- How a message is read, with the fault that stands first.
use Rattle.std.specs.Prelude.{ℕ, nat_lt, ◌==◌, List, [], length, Result, Ok, if◌then◌else◌}
use Rattle.ad_bytes.specs.Reading.{Reading, ◌>>=◌, need}
use Rattle.ad_ldap.specs.declared.fault.LdapFault.{LdapFault}
use Rattle.ad_ldap.specs.declared.controls.Control.{Control}
use Rattle.ad_ldap.specs.Limits.{most_int}
use Rattle.ad_ldap.specs.MessageValue.{MessageValue}
use Rattle.ad_ldap.specs.Reading.{form, begins, body_at, ended, number_at, option_at, default_at, inside_at, each_of}
use Rattle.ad_ldap.specs.RequestReading.{op_at}
use Rattle.ad_ldap.specs.Tags.{octet_string, boolean, tag_of_controls, sequence, integer}

unfoldable pub control_of : ℕ → List ℕ → Result Control LdapFault
control_of end bytes = do
  oid ← body_at octet_string end bytes
  critical ← default_at boolean end oid.1
  value ← option_at octet_string end critical.1
  _ ← ended end value.1
  Ok (record { oid = oid.0; critical = critical.0; value = value.0 })

-- the controls, where they begin here
unfoldable pub controls_at : ℕ → List ℕ → Reading (List Control) LdapFault
controls_at end bytes = if begins tag_of_controls bytes then inside_at tag_of_controls
    (each_of (inside_at sequence control_of)) end bytes
    else Ok ([], bytes)

-- the number of a message, which isn't 0
unfoldable pub id_at : ℕ → List ℕ → Reading ℕ LdapFault
id_at end bytes = do
  id ← number_at integer most_int end bytes
  _ ← need (nat_lt 0 id.0) (form end bytes)
  Ok id

unfoldable pub body_of : ℕ → List ℕ → Result MessageValue LdapFault
body_of end bytes = do
  id ← id_at end bytes
  op ← op_at end id.1
  controls ← controls_at end op.1
  _ ← ended end controls.1
  Ok (record { id = id.0; op = op.0; controls = controls.0 })

-- a message that all of the bytes encode
unfoldable pub message_of : List ℕ → Result MessageValue LdapFault
message_of bytes = do
  message ← inside_at sequence body_of (length bytes) bytes
  _ ← ended (length bytes) message.1
  Ok message.0
