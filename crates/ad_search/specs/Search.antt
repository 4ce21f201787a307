-- The answer to a search, from what the token sees (RFC 4511 4.5.2).
use Rattle.std.specs.Prelude.{ℕ, suc, ◌+◌, nat_lt, nat_le, Bool, false, not, ◌&&◌, ◌||◌, ◌==◌, if◌then◌else◌, Option}
use Rattle.std.specs.Prelude.{Some, None}
use Rattle.std.specs.Prelude.{List, [], ◌∷◌, ◌++◌, length, map, filter}
use Rattle.ad_ids.specs.declared.token.Token.{Token}
use Rattle.ad_dn.specs.declared.rdn.Dn.{Dn}
use Rattle.ad_dn.specs.Reading.{dn_of}
use Rattle.ad_schema.specs.declared.line.SchemaRecord.{SchemaRecord}
use Rattle.ad_ldap.specs.declared.reply.Reply.TheVariants as reply
use Rattle.ad_ldap.specs.Reply.{reply_bytes}
use Rattle.ad_ldap.specs.Tags.{search_done}
use Rattle.ad_ldap.specs.ResultCodes.{success, size_limit_exceeded, admin_limit_exceeded, no_such_object}
use Rattle.ad_ldap.specs.ResultCodes.{invalid_dn_syntax}
use Rattle.ad_ldap.specs.MessageValue.{SearchValue}
use Rattle.ad_filter.specs.ThreeValues.{is_true}
use Rattle.ad_filter.specs.Filtering.{truth}
use Rattle.ad_dir_model.specs.Directory.{Directory}
use Rattle.ad_entries.specs.Seen.{Seen, reads, view}
use Rattle.ad_search.specs.Scope.{in_scope, is_there, matched}
use Rattle.ad_entries.specs.Entry.{Entry, entry_of}

-- the bytes of all entries together
unfoldable pub most_joined : ℕ
most_joined = 16777216

-- the message at the end: its code and the matched name
abbrev pub done : ℕ → ℕ → List ℕ → List ℕ
done id code name = reply_bytes (reply.Done id search_done code name [])

-- ---- the entries

-- The code with which a search ends before its next entry: where as many as the size limit were given, and where its
-- message would bring all of them above the limit.
unfoldable pub stop_code : ℕ → ℕ → ℕ → ℕ → Option ℕ
stop_code size given joined next =
    if not (size == 0) && nat_le size given then Some size_limit_exceeded
    else (if nat_lt most_joined (joined + next) then Some admin_limit_exceeded
    else None)

-- the code at the end, which tells where a descriptor was left out
abbrev pub end_code : Bool → ℕ
end_code is_short = if is_short then admin_limit_exceeded else success

-- an entry and those after it, or the end
abbrev pub entry_or_end : ℕ → Option ℕ → List ℕ → List ℕ → List ℕ
entry_or_end id (Some code) message others = done id code []
entry_or_end id None message others = message ++ others

-- The messages of these entries and the one at the end, where so many were given before with so many bytes, and a
-- descriptor of them was left out or none.
unfoldable pub entries_from : ℕ → ℕ → ℕ → ℕ → Bool → List Entry → List ℕ
entries_from id size given joined is_short [] = done id (end_code is_short) []
entries_from id size given joined is_short (entry ∷ entries) =
    entry_or_end id (stop_code size given joined (length entry.message)) entry.message
    (entries_from id size (suc given) (joined + length entry.message) (is_short || entry.is_short) entries)

-- ---- the answer

-- the object is in scope, and the filter is true of it
unfoldable pub is_found : List SchemaRecord → SearchValue → Dn → Seen → Bool
is_found schema search base seen = in_scope search.scope base.rdns seen.name
    && is_true (truth (reads schema seen) search.filter)

-- the entries of these objects
unfoldable pub entries_of : List SchemaRecord → ℕ → SearchValue → ℕ → Dn → List Seen → List Entry
entries_of schema id search flags base seen = map (entry_of schema id search flags)
    (filter (is_found schema search base) seen)

abbrev pub answer_at : List SchemaRecord → List Seen → ℕ → SearchValue → ℕ → Option Dn → List ℕ
answer_at schema seen id search flags None = done id invalid_dn_syntax []
answer_at schema seen id search flags (Some base) =
    if is_there seen base.rdns then entries_from id search.size 0 0 false (entries_of schema id search flags base seen)
    else done id no_such_object (matched seen base.rdns)

-- A base that can't be read has a code of its own, and one that no object has that is seen; else there are entries.
unfoldable pub answer_seen : List SchemaRecord → List Seen → ℕ → SearchValue → ℕ → List ℕ
answer_seen schema seen id search flags = answer_at schema seen id search flags (dn_of search.base)

-- The answer comes from the schema and from what the token sees, and from nothing else of the directory.
unfoldable pub search_answer : Directory → Token → ℕ → SearchValue → ℕ → List ℕ
search_answer dir token id search flags = answer_seen dir.schema (view dir token) id search flags
