-- Records of LDIF as data: a name, and lines of a name and a value.
use Rattle.std.specs.Prelude.{ℕ, ◌+◌, List, [], ◌∷◌, length}
use Rattle.ad_dn.specs.declared.rdn.Rdn.{Rdn}
use Rattle.ad_ldif.specs.Records.{Field, Entry}
use Rattle.ad_dn.specs.Text.{rdns_text}
use Rattle.ad_load_records.specs.Records.{Record, kind_of}
use Rattle.ad_schema.specs.declared.line.SchemaKind.{SchemaKind}
use Rattle.ad_schema.specs.declared.line.SchemaRecord.{SchemaRecord}
use Rattle.ad_schema.specs.declared.line.Line.{Line}

pub record Plain : Type 0 where
  pub rdns : List Rdn
  pub lines : List Line

-- ---- what records, names and lines are made of

abbrev pub rdn : List ℕ → List ℕ → Rdn
rdn kind value = record { kind = kind; value = value }

abbrev pub line : List ℕ → List ℕ → Line
line name value = record { name = name; value = value }

-- ---- as records of a text: each begins at its line, has one more for each of its own, and an empty line after it

unfoldable pub fields_from : ℕ → List Line → List Field
fields_from k [] = []
fields_from k (l ∷ lines) = record { line = k; name = l.name; value = l.value } ∷ fields_from (k + 1) lines

-- the line after a record that begins at this one
abbrev pub next_at : ℕ → Plain → ℕ
next_at k p = k + length p.lines + 2

-- as the grammar of LDIF has it, and as loading has it: what kind of record it is is said by its lines
abbrev pub entry_at : ℕ → Plain → Entry
entry_at k p = record { line = k; dn = rdns_text p.rdns; fields = fields_from (k + 1) p.lines }

abbrev pub record_at : ℕ → Plain → Record
record_at k p = record {
  line = k;
  rdns = p.rdns;
  kind = kind_of (fields_from (k + 1) p.lines);
  fields = fields_from (k + 1) p.lines;
}

unfoldable pub entries_from : ℕ → List Plain → List Entry
entries_from k [] = []
entries_from k (p ∷ ps) = entry_at k p ∷ entries_from (next_at k p) ps

unfoldable pub records_from : ℕ → List Plain → List Record
records_from k [] = []
records_from k (p ∷ ps) = record_at k p ∷ records_from (next_at k p) ps

-- ---- as a record of a schema

abbrev pub defined : SchemaKind → Plain → SchemaRecord
defined kind p = record { kind = kind; lines = p.lines }
