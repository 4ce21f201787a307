-- The one encoding of a reply that is written: lengths and numbers have no byte more than they need (RFC 4511
-- 4.1.9, 4.4.1, 4.5.2).
use Rattle.std.specs.Prelude.{ℕ, List, [], ◌++◌, codes}
use Rattle.std.specs.List.{flat_map}
use Rattle.ad_ber.specs.Writing.{element_bytes, number_element}
use Rattle.ad_ldap.specs.declared.reply.Reply.{Reply}
use Rattle.ad_ldap.specs.declared.reply.Reply.TheVariants as reply
use Rattle.ad_ldap.specs.Tags.{octet_string, set, sequence, enumerated, response_name, integer, search_entry}
use Rattle.ad_ldap.specs.Tags.{extended_response}
use Rattle.ad_ldap.specs.ResultCodes.{protocol_error}
use Rattle.ad_ldap.specs.Choices.{unsolicited}

-- octet strings, one after the other
abbrev pub values_bytes : List (List ℕ) → List ℕ
values_bytes values = flat_map (element_bytes octet_string) values

-- an attribute's name, and its values
abbrev pub attr_body : List ℕ × List (List ℕ) → List ℕ
attr_body attr = element_bytes octet_string attr.0 ++ element_bytes set (values_bytes attr.1)

abbrev pub attr_bytes : List ℕ × List (List ℕ) → List ℕ
attr_bytes attr = element_bytes sequence (attr_body attr)

abbrev pub attrs_bytes : List (List ℕ × List (List ℕ)) → List ℕ
attrs_bytes attrs = flat_map attr_bytes attrs

-- an entry: its name, and its attributes
abbrev pub entry_body : List ℕ → List (List ℕ × List (List ℕ)) → List ℕ
entry_body dn attrs = element_bytes octet_string dn ++ element_bytes sequence (attrs_bytes attrs)

-- a result: its code, the matched name, and a text
abbrev pub result_body : ℕ → List ℕ → List ℕ → List ℕ
result_body code matched text = number_element enumerated code ++ element_bytes octet_string matched
    ++ element_bytes octet_string text

-- the name of the Notice of Disconnection
abbrev pub notice_oid : List ℕ
notice_oid = codes "1.3.6.1.4.1.1466.20036"

abbrev pub notice_body : List ℕ
notice_body = result_body protocol_error [] [] ++ element_bytes response_name notice_oid

-- a message with this number and response
abbrev pub message_bytes : ℕ → ℕ → List ℕ → List ℕ
message_bytes id tag body = element_bytes sequence (number_element integer id ++ element_bytes tag body)

abbrev pub reply_bytes : Reply → List ℕ
reply_bytes (reply.Entry id dn attrs) = message_bytes id search_entry (entry_body dn attrs)
reply_bytes (reply.Done id tag code matched text) = message_bytes id tag (result_body code matched text)
reply_bytes reply.Notice = message_bytes unsolicited extended_response notice_body
