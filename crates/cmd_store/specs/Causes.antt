-- What is wrong with a text that is no directory, as a line.
use Rattle.std.specs.Prelude.{ℕ, nat_lt, Bool, ◌/◌, ◌%◌, ◌==◌, ◌&&◌, not, if◌then◌else◌, List, [], ◌∷◌, ◌++◌, codes}
use Rattle.std.specs.List.{flat_map}
use Rattle.uuid.specs.Text.{hex_digit, upper}
use Rattle.ad_load_records.specs.declared.fault.LoadCause.{LoadCause}
use Rattle.ad_load_records.specs.declared.fault.LoadCause.TheVariants as cause
use Rattle.cmd_call.specs.Lines.{fault_line}

-- ---- names

-- a printable character of ASCII, but the blank and the backslash (92)
abbrev pub is_plain : ℕ → Bool
is_plain b = nat_lt 32 b && (nat_lt b 127 && not (b == 92))

-- such a one as it is, any other byte in two upper-case digits after a backslash
abbrev pub shown_byte : ℕ → List ℕ
shown_byte b =
    if is_plain b then b ∷ []
    else 92 ∷ hex_digit upper (b / 16) ∷ hex_digit upper (b % 16) ∷ []

-- a name of any bytes, as a word
abbrev pub shown_name : List ℕ → List ℕ
shown_name name = flat_map shown_byte name

-- ---- causes

abbrev pub cause_text : LoadCause → List ℕ
cause_text cause.Line = codes "line"
cause_text cause.Base64 = codes "base64"
cause_text cause.NoDn = codes "no dn"
cause_text cause.Version = codes "version"
cause_text cause.Url = codes "url"
cause_text cause.ChangeType = codes "changetype"
cause_text cause.TooLong = codes "too long"
cause_text cause.Dn = codes "dn"
cause_text cause.Root = codes "root"
cause_text cause.Parent = codes "parent"
cause_text cause.NameTaken = codes "name taken"
cause_text cause.Naming = codes "naming"
cause_text (cause.SchemaMissing name) = codes "schema missing " ++ name
cause_text (cause.SchemaRepeated name) = codes "schema repeated " ++ shown_name name
cause_text (cause.SchemaValue name) = codes "schema value " ++ name
cause_text (cause.SchemaUnknown name) = codes "schema unknown " ++ shown_name name
cause_text (cause.SchemaLoop name) = codes "schema loop " ++ name
cause_text (cause.SchemaDefault name) = codes "schema default " ++ name
cause_text cause.Class = codes "class"
cause_text (cause.Attribute name) = codes "attribute " ++ name
cause_text (cause.Value name) = codes "value " ++ name
cause_text (cause.Link name) = codes "link " ++ name
cause_text cause.Descriptor = codes "descriptor"
cause_text cause.Sid = codes "sid"
cause_text cause.Limit = codes "limit"

-- its line and what is wrong
abbrev pub load_line : ℕ → LoadCause → List ℕ
load_line line what = fault_line line (cause_text what)
