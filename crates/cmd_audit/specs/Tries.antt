-- What a message tries.
use Rattle.std.specs.Prelude.{ℕ, Bool, true, false, List, [], Result, Ok, Err}
use Rattle.ad_ids.specs.declared.token.Token.{Token}
use Rattle.ad_ldap.specs.declared.fault.LdapFault.{LdapFault}
use Rattle.ad_ldap.specs.declared.controls.Settings.{Settings}
use Rattle.ad_ldap.specs.MessageValue.{MessageValue, OpValue, Bind, Unbind, SearchOf, ModifyOf, AddOf, DeleteOf}
use Rattle.ad_ldap.specs.MessageValue.{RenameOf, CompareOf, Abandon, Extended}
use Rattle.ad_ldap.specs.MessageReading.{message_of}
use Rattle.ad_ldap.specs.Settings.{settings_of}
use Rattle.ad_dir_model.specs.Directory.{Directory}
use Rattle.ad_types.specs.Tried.{TriedValue}
use Rattle.ad_needs.specs.Traces.{trace_of}
use Rattle.ad_search.specs.Reads.{reads_of}
use Rattle.ad_search.specs.Compared.{compared_of}

-- nothing where the controls are faulty
abbrev pub with_settings : (Settings → List TriedValue) → Result Settings ℕ → List TriedValue
with_settings tries (Err code) = []
with_settings tries (Ok settings) = tries settings

abbrev pub change_tries : Directory → Token → MessageValue → List TriedValue
change_tries dir token m = with_settings (λ settings. trace_of dir token m.op settings) (settings_of m)

-- A search and a compare try what they read, and a change what it needs. Nothing else tries anything.
abbrev pub op_tries : Directory → Token → MessageValue → OpValue → List TriedValue
op_tries dir token m (SearchOf s) = with_settings (λ settings. reads_of dir token m.id s settings.sd_flags)
    (settings_of m)
op_tries dir token m (CompareOf c) = with_settings (λ settings. compared_of dir token c) (settings_of m)
op_tries dir token m (ModifyOf _) = change_tries dir token m
op_tries dir token m (AddOf _) = change_tries dir token m
op_tries dir token m (DeleteOf _) = change_tries dir token m
op_tries dir token m (RenameOf _) = change_tries dir token m
op_tries dir token m Bind = []
op_tries dir token m Unbind = []
op_tries dir token m Abandon = []
op_tries dir token m Extended = []

-- bytes that encode no message try nothing
abbrev pub reading_tries : Directory → Token → Result MessageValue LdapFault → List TriedValue
reading_tries dir token (Ok m) = op_tries dir token m m.op
reading_tries dir token (Err fault) = []

unfoldable pub message_tries : Directory → Token → List ℕ → List TriedValue
message_tries dir token bytes = reading_tries dir token (message_of bytes)

-- ---- the operations that only look

abbrev pub looks : OpValue → Bool
looks (SearchOf s) = true
looks (CompareOf c) = true
looks (ModifyOf _) = false
looks (AddOf _) = false
looks (DeleteOf _) = false
looks (RenameOf _) = false
looks Bind = false
looks Unbind = false
looks Abandon = false
looks Extended = false

abbrev pub reading_looks : Result MessageValue LdapFault → Bool
reading_looks (Ok m) = looks m.op
reading_looks (Err fault) = false

unfoldable pub message_looks : List ℕ → Bool
message_looks bytes = reading_looks (message_of bytes)
