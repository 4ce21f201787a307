-- The answer to a compare, from what the token sees (RFC 4511 4.10).
use Rattle.std.specs.Prelude.{ℕ, Bool, ◌&&◌, ◌==◌, if◌then◌else◌, Option, Some, None, find, List, [], length, Result}
use Rattle.std.specs.Prelude.{Ok, Err}
use Rattle.std.specs.List.{list_any}
use Rattle.ad_ids.specs.declared.token.Token.{Token}
use Rattle.ad_dn.specs.declared.rdn.Rdn.{Rdn}
use Rattle.ad_dn.specs.declared.rdn.Dn.{Dn}
use Rattle.ad_dn.specs.Reading.{dn_of}
use Rattle.ad_value.specs.declared.value.Key.{Key}
use Rattle.ad_value.specs.Value.{Value, same_key}
use Rattle.ad_value.specs.declared.fault.ValueFault.{ValueFault}
use Rattle.ad_value.specs.ValueOf.{normal_or_fault}
use Rattle.ad_schema.specs.declared.line.SchemaRecord.{SchemaRecord}
use Rattle.ad_ldap.specs.Tags.{compare_response}
use Rattle.ad_ldap.specs.ResultCodes.{compare_true, compare_false, invalid_attribute_syntax, no_such_attribute}
use Rattle.ad_ldap.specs.ResultCodes.{no_such_object, invalid_dn_syntax}
use Rattle.ad_ldap.specs.declared.requests.Compare.{Compare}
use Rattle.ad_ldap.specs.declared.reply.Reply.TheVariants as reply
use Rattle.ad_ldap.specs.Reply.{reply_bytes}
use Rattle.ad_filter.specs.Filtering.{Readable, is_compared}
use Rattle.ad_dir_model.specs.Directory.{Directory}
use Rattle.ad_entries.specs.Seen.{Seen, reads, view}
use Rattle.ad_search.specs.Scope.{is_named, matched}

-- the message: its code and the matched name
abbrev pub done : ℕ → ℕ → List ℕ → List ℕ
done id code name = reply_bytes (reply.Done id compare_response code name [])

-- some value has the key; one that its syntax doesn't read is equal to nothing
unfoldable pub has_key : Readable → Key → Bool
has_key readable key = list_any (λ v. is_compared readable.syntax v && same_key v.key key) readable.values

-- of a value that can't be read, and else by whether some value is equal
abbrev pub code_by : Readable → Result Value ValueFault → ℕ
code_by readable (Ok v) = if has_key readable v.key then compare_true else compare_false
code_by readable (Err fault) = invalid_attribute_syntax

-- first of an attribute that is unknown, may not be read, or has no value
abbrev pub code_of : List ℕ → Option Readable → ℕ
code_of sent None = no_such_attribute
code_of sent (Some readable) = if length readable.values == 0 then no_such_attribute
    else code_by readable (normal_or_fault readable.syntax sent)

-- first of a name that no object has that is seen
abbrev pub compared : List SchemaRecord → List Seen → ℕ → Compare → List Rdn → Option Seen → List ℕ
compared schema seen id request rdns None = done id no_such_object (matched seen rdns)
compared schema seen id request rdns (Some object)
    = done id (code_of request.value (reads schema object request.attr)) []

abbrev pub compare_at : List SchemaRecord → List Seen → ℕ → Compare → Option Dn → List ℕ
compare_at schema seen id request None = done id invalid_dn_syntax []
compare_at schema seen id request (Some name) = compared schema seen id request name.rdns
    (find (is_named name.rdns) seen)

-- first of a name that can't be read
unfoldable pub compare_seen : List SchemaRecord → List Seen → ℕ → Compare → List ℕ
compare_seen schema seen id request = compare_at schema seen id request (dn_of request.dn)

-- The answer comes from the schema and from what the token sees, and from nothing else of the directory.
unfoldable pub compare_answer : Directory → Token → ℕ → Compare → List ℕ
compare_answer dir token id request = compare_seen dir.schema (view dir token) id request
