-- What a message is answered (RFC 4511), and what it makes of the directory and of the connection.
use Rattle.std.specs.Prelude.{ℕ, Bool, true, false, Option, None, Some, List, [], Result, Ok, Err}
use Rattle.ad_ids.specs.declared.token.Token.{Token}
use Rattle.ad_ldap.specs.declared.fault.LdapFault.{LdapFault}
use Rattle.ad_ldap.specs.declared.controls.Settings.{Settings}
use Rattle.ad_ldap.specs.declared.reply.Reply.TheVariants as reply
use Rattle.ad_ldap.specs.Reply.{reply_bytes}
use Rattle.ad_ldap.specs.MessageValue.{MessageValue, OpValue, Bind, Unbind, SearchOf, ModifyOf, AddOf, DeleteOf}
use Rattle.ad_ldap.specs.MessageValue.{RenameOf, CompareOf, Abandon, Extended}
use Rattle.ad_ldap.specs.MessageReading.{message_of}
use Rattle.ad_ldap.specs.Settings.{settings_of}
use Rattle.ad_ldap.specs.Tags.{bind_response, search_done, modify_response, add_response, delete_response}
use Rattle.ad_ldap.specs.Tags.{rename_response, compare_response, extended_response}
use Rattle.ad_ldap.specs.ResultCodes.{success, protocol_error, auth_method_not_supported}
use Rattle.ad_dir_model.specs.Directory.{Directory}
use Rattle.ad_search.specs.Search.{search_answer}
use Rattle.ad_search.specs.Compare.{compare_answer}
use Rattle.ad_change.specs.Effects.{Effect, answered, changes_to, effect}

-- The reply, the new directory where the message is a change that is made, and whether the connection's token is
-- dropped.
pub record Decision : Type 0 where
  pub reply : List ℕ
  pub change : Option Directory
  pub drops : Bool

-- nothing but a reply
abbrev pub replies : List ℕ → Decision
replies bytes = record { reply = bytes; change = None; drops = false }

-- the message of a result: the response's tag, its code, the matched name and the text
abbrev pub done : ℕ → ℕ → ℕ → List ℕ → List ℕ → List ℕ
done id tag code matched text = reply_bytes (reply.Done id tag code matched text)

-- ---- by what the controls ask for: a faulty one gives the code, and nothing else is looked at

-- the answer to a search, from the parts of a descriptor that are asked for
abbrev pub searched : ℕ → (ℕ → List ℕ) → Result Settings ℕ → List ℕ
searched id answer (Err code) = done id search_done code [] []
searched id answer (Ok settings) = answer settings.sd_flags

abbrev pub compared : ℕ → List ℕ → Result Settings ℕ → List ℕ
compared id answer (Err code) = done id compare_response code [] []
compared id answer (Ok settings) = answer

-- what a change is answered, with the tag of its response
abbrev pub by_effect : ℕ → ℕ → Effect → Decision
by_effect id tag (answered code matched text) = replies (done id tag code matched text)
by_effect id tag (changes_to dir) = record { reply = done id tag success [] []; change = Some dir; drops = false }

abbrev pub changed : Directory → Token → MessageValue → ℕ → Result Settings ℕ → Decision
changed dir token m tag (Err code) = replies (done m.id tag code [] [])
changed dir token m tag (Ok settings) = by_effect m.id tag (effect dir token m.op settings)

-- ---- by operation

-- A bind isn't supported, and no extended request is known. The controls of these two, of an unbind and of an
-- abandon aren't looked at.
abbrev pub op_decided : Directory → Token → MessageValue → OpValue → Decision
op_decided dir token m Bind = replies (done m.id bind_response auth_method_not_supported [] [])
op_decided dir token m Unbind = record { reply = []; change = None; drops = true }
op_decided dir token m (SearchOf s) = replies (searched m.id (search_answer dir token m.id s) (settings_of m))
op_decided dir token m (CompareOf c) = replies (compared m.id (compare_answer dir token m.id c) (settings_of m))
op_decided dir token m (ModifyOf _) = changed dir token m modify_response (settings_of m)
op_decided dir token m (AddOf _) = changed dir token m add_response (settings_of m)
op_decided dir token m (DeleteOf _) = changed dir token m delete_response (settings_of m)
op_decided dir token m (RenameOf _) = changed dir token m rename_response (settings_of m)
op_decided dir token m Abandon = replies []
op_decided dir token m Extended = replies (done m.id extended_response protocol_error [] [])

-- Bytes that encode no message are answered by the Notice of Disconnection; the connection keeps its token.
abbrev pub reading_decided : Directory → Token → Result MessageValue LdapFault → Decision
reading_decided dir token (Ok m) = op_decided dir token m m.op
reading_decided dir token (Err fault) = replies (reply_bytes reply.Notice)

unfoldable pub message_decided : Directory → Token → List ℕ → Decision
message_decided dir token bytes = reading_decided dir token (message_of bytes)
