-- How the bodies of rows are read.
use Rattle.std.specs.Prelude.{ℕ, zero, suc, ◌==◌, ◌&&◌, nat_le, nat_lt, Bool, true, false, codes}
use Rattle.std.specs.Prelude.{length, List, [], ◌∷◌, Option, Some, None, Result, Ok, Err, if◌then◌else◌}
use Rattle.std.specs.Str.{bytes_eq}
use Rattle.ad_bytes.specs.Reading.{Reading, ◌>>=◌, need, or_fault, many_at}
use Rattle.ad_bytes.specs.Numbers.{byte_at, be_at, part_at}
use Rattle.ad_dn.specs.declared.rdn.Rdn.{Rdn}
use Rattle.ad_dn.specs.declared.rdn.Dn.{Dn}
use Rattle.ad_dn.specs.Reading.{dn_of}
use Rattle.ad_dn.specs.Text.{rdns_text}
use Rattle.ad_sd.specs.declared.parts.Sd.{Sd}
use Rattle.ad_sd.specs.SdIn.{is_normal, sd_in}
use Rattle.ad_value.specs.Value.{as_shown}
use Rattle.ad_schema.specs.Attributes.{attrs_of}
use Rattle.ad_schema.specs.Meaning.{attr_is_link}
use Rattle.ad_schema.specs.declared.line.SchemaKind.{SchemaKind}
use Rattle.ad_schema.specs.declared.line.SchemaKind.TheVariants.{Attribute, Class, Right}
use Rattle.ad_schema.specs.declared.line.SchemaRecord.{SchemaRecord}
use Rattle.ad_schema.specs.declared.line.Line.{Line}
use Rattle.prop_queue.specs.declared.pending.Pending.{Pending}
use Rattle.ad_dir_model.specs.Attributes.{is_named, syntax_at}
use Rattle.ad_dir_model.specs.Object.{Stored, plain, link, Held, Object}
use Rattle.ad_dir_model.specs.Directory.{Meta}
use Rattle.ad_rows.specs.Form.{value_by}
use Rattle.ad_rows.specs.declared.parsing.BodyFault.{BodyFault}
use Rattle.ad_rows.specs.declared.parsing.BodyFault.TheVariants.{Bad, Memory}

-- the one fault that no bytes have
abbrev pub is_memory : BodyFault → Bool
is_memory Bad = false
is_memory Memory = true

-- nothing may be left
abbrev pub ended : {A : Type 0} → A → List ℕ → Result A BodyFault
ended x [] = Ok x
ended x (b ∷ bytes) = Err Bad

unfoldable pub text_at : List ℕ → Reading (List ℕ) BodyFault
text_at bytes = do
  size ← or_fault Bad (be_at 8 bytes)
  or_fault Bad (part_at size.0 size.1)

-- ---- values

unfoldable pub link_of : List ℕ → Result ℕ BodyFault
link_of bytes = do
  number ← or_fault Bad (be_at 4 bytes)
  ended number.0 number.1

unfoldable pub stored_of : List SchemaRecord → ℕ → List ℕ → Result Stored BodyFault
stored_of schema attr bytes = if attr_is_link schema attr
    then (link_of bytes >>= λ number. Ok (link number))
    else Ok (plain (value_by (is_named schema (codes "unicodePwd") attr) (syntax_at schema attr) bytes))

-- where the attribute isn't of the schema, or there is no schema, no value is a link
abbrev pub any_stored_of : Option (List SchemaRecord) → ℕ → List ℕ → Result Stored BodyFault
any_stored_of None attr bytes = Ok (plain (as_shown bytes))
any_stored_of (Some schema) attr bytes = if nat_lt attr (length (attrs_of schema)) then stored_of schema attr bytes
    else Ok (plain (as_shown bytes))

unfoldable pub stored_at : Option (List SchemaRecord) → ℕ → List ℕ → Reading Stored BodyFault
stored_at schema attr bytes = do
  shown ← text_at bytes
  stored ← any_stored_of schema attr shown.0
  Ok (stored, shown.1)

-- ---- attributes

unfoldable pub values_at : Option (List SchemaRecord) → ℕ → List ℕ → Reading (List Stored) BodyFault
values_at schema attr bytes = do
  count ← or_fault Bad (be_at 8 bytes)
  if count.0 == 0 then Err Bad else many_at (stored_at schema attr) count.0 count.1

unfoldable pub held_at : Option (List SchemaRecord) → List ℕ → Reading Held BodyFault
held_at schema bytes = do
  attr ← or_fault Bad (be_at 4 bytes)
  values ← values_at schema attr.0 attr.1
  Ok (record { attr = attr.0; values = values.0 }, values.1)

-- whether the attributes rise, from this one on
unfoldable pub attrs_rise : ℕ → List Held → Bool
attrs_rise least [] = true
attrs_rise least (held ∷ others) = nat_le least held.attr && attrs_rise (suc held.attr) others

unfoldable pub helds_at : Option (List SchemaRecord) → List ℕ → Reading (List Held) BodyFault
helds_at schema bytes = do
  count ← or_fault Bad (be_at 8 bytes)
  many_at (held_at schema) count.0 count.1

unfoldable pub attributes_at : Option (List SchemaRecord) → List ℕ → Reading (List Held) BodyFault
attributes_at schema bytes = do
  all ← helds_at schema bytes
  _ ← need (attrs_rise 0 all.0) Bad
  Ok all

-- ---- bodies

abbrev pub sd_of : List ℕ → Result Sd BodyFault
sd_of bytes = if is_normal bytes then Ok (sd_in bytes) else Err Bad

unfoldable pub object_in : Option (List SchemaRecord) → ℕ → List ℕ → Result Object BodyFault
object_in schema number bytes = do
  parent ← or_fault Bad (be_at 4 bytes)
  class ← or_fault Bad (be_at 4 parent.1)
  name ← text_at class.1
  values ← attributes_at schema name.1
  sd ← sd_of values.1
  Ok (record { number = number; parent = parent.0; class = class.0; name = name.0; values = values.0; sd = sd })

unfoldable pub pending_at : List ℕ → Reading Pending BodyFault
pending_at bytes = do
  parent ← or_fault Bad (be_at 4 bytes)
  cursor ← or_fault Bad (be_at 4 parent.1)
  Ok (record { parent = parent.0; cursor = cursor.0 }, cursor.1)

unfoldable pub queue_in : List ℕ → Result (List Pending) BodyFault
queue_in bytes = do
  count ← or_fault Bad (be_at 8 bytes)
  entries ← many_at pending_at count.0 count.1
  ended entries.0 entries.1

-- a name whose canonical text this is
abbrev pub canonical_of : List ℕ → Option Dn → Result (List Rdn) BodyFault
canonical_of text None = Err Bad
canonical_of text (Some dn) = if bytes_eq (rdns_text dn.rdns) text then Ok dn.rdns else Err Bad

unfoldable pub suffix_of : List ℕ → Result (List Rdn) BodyFault
suffix_of text = canonical_of text (dn_of text)

unfoldable pub meta_in : List ℕ → Result Meta BodyFault
meta_in bytes = do
  next_number ← or_fault Bad (be_at 4 bytes)
  next_rid ← or_fault Bad (be_at 4 next_number.1)
  text ← text_at next_rid.1
  alone ← ended text.0 text.1
  suffix ← suffix_of alone
  Ok (record { next_number = next_number.0; next_rid = next_rid.0; suffix = suffix })

abbrev pub kind_of : ℕ → Result SchemaKind BodyFault
kind_of zero = Ok Attribute
kind_of (suc zero) = Ok Class
kind_of (suc (suc zero)) = Ok Right
kind_of (suc (suc (suc n))) = Err Bad

unfoldable pub line_at : List ℕ → Reading Line BodyFault
line_at bytes = do
  name ← text_at bytes
  value ← text_at name.1
  Ok (record { name = name.0; value = value.0 }, value.1)

unfoldable pub record_in : List ℕ → Result SchemaRecord BodyFault
record_in bytes = do
  byte ← or_fault Bad (byte_at bytes)
  kind ← kind_of byte.0
  count ← or_fault Bad (be_at 8 byte.1)
  lines ← many_at line_at count.0 count.1
  all ← ended lines.0 lines.1
  Ok (record { kind = kind; lines = all })
