-- What an answer unfolds to compute what is read of a record of LDIF.
use Rattle.std.specs.Prelude.{⊤}
use Rattle.ad_ldif.specs.Records.{record_of, from_dn, dn_at, body_of, is_fixed, name_at, value_at, short_value_at}
use Rattle.ad_ldif.specs.Records.{value_is, field_at, fields_of}
use Rattle.ad_ldif.specs.Records.{fields_behind, opening_of}
use Rattle.ad_ldif.specs.Fields.{is_line, name_of, behind_colon, without_blanks, decoded, value_of}
use Rattle.base64.proofs.OnLiterals.{base64_on_literals}
use Rattle.ad_dn.specs.Text.{rdns_text, value_text}
use Rattle.ad_gen_laws.proofs.Blocks.{numbered}
use Rattle.ad_gen_laws.specs.Plain.{fields_from}

unfoldable pub on_records : ⊤
unfolding record_of from_dn dn_at body_of is_fixed name_at value_at short_value_at value_is field_at fields_of
    fields_behind opening_of
on_records = tt

unfoldable pub on_lines : ⊤
unfolding is_line name_of behind_colon without_blanks decoded value_of base64_on_literals rdns_text value_text
    numbered fields_from
on_lines = tt
