-- The bodies of the rows of a directory. Numbers are big-endian; a text or a value has its length in eight bytes
-- before it, and a list its count.
use Rattle.std.specs.Prelude.{◌≡◌, ℕ, List, length}
use Rattle.ad_bytes.specs.Reading.{StartsWith, SpellsEach}
use Rattle.ad_bytes.specs.Numbers.{SpellsByte, SpellsBe}
use Rattle.ad_dn.specs.declared.rdn.Rdn.{Rdn}
use Rattle.ad_dn.specs.Value.{AreRdns}
use Rattle.ad_dn.specs.Text.{rdns_text}
use Rattle.ad_sd.specs.Normal.{SpellsNormal}
use Rattle.ad_schema.specs.declared.line.SchemaKind.{SchemaKind}
use Rattle.ad_schema.specs.declared.line.SchemaKind.TheVariants.{Attribute, Class, Right}
use Rattle.ad_schema.specs.declared.line.SchemaRecord.{SchemaRecord}
use Rattle.ad_schema.specs.declared.line.Line.{Line}
use Rattle.prop_queue.specs.declared.pending.Pending.{Pending}
use Rattle.ad_dir_model.specs.Object.{Stored, plain, link, Held, Object}
use Rattle.ad_dir_model.specs.Directory.{Meta}

abbrev pub SpellsText : List ℕ → List ℕ → Type 0
SpellsText bytes text = StartsWith (SpellsBe 8) (length bytes) (λ rest. rest ≡ bytes) text

abbrev pub SpellsList : {A : Type 0} → (A → List ℕ → Type 0) → List A → List ℕ → Type 0
SpellsList Spells xs text = StartsWith (SpellsBe 8) (length xs) (SpellsEach Spells xs) text

-- a value by the bytes that it shows, a link by the number of its object, after the length 4
abbrev pub SpellsStored : Stored → List ℕ → Type 0
SpellsStored (plain value) text = SpellsText value.shown text
SpellsStored (link number) text = StartsWith (SpellsBe 8) 4 (SpellsBe 4 number) text

-- an attribute by its place in the schema, and its values
abbrev pub SpellsHeld : Held → List ℕ → Type 0
SpellsHeld held text = StartsWith (SpellsBe 4) held.attr (SpellsList SpellsStored held.values) text

-- the parent, 0 for the root; the class by its place; the naming value; the attributes; and the descriptor's normal
-- bytes
abbrev pub SpellsObject : Object → List ℕ → Type 0
SpellsObject o text = StartsWith (SpellsBe 4) o.parent (StartsWith (SpellsBe 4) o.class (StartsWith SpellsText o.name
    (StartsWith (SpellsList SpellsHeld) o.values (SpellsNormal o.sd)))) text

abbrev pub SpellsPending : Pending → List ℕ → Type 0
SpellsPending entry text = StartsWith (SpellsBe 4) entry.parent (SpellsBe 4 entry.cursor) text

-- the pending list, in its order
abbrev pub SpellsQueue : List Pending → List ℕ → Type 0
SpellsQueue pending text = SpellsList SpellsPending pending text

-- parts that are those of a name, by its canonical text
abbrev pub SpellsName : List Rdn → List ℕ → Type 0
SpellsName rdns text = AreRdns rdns × SpellsText (rdns_text rdns) text

-- the counters, and the name above the root
abbrev pub SpellsMeta : Meta → List ℕ → Type 0
SpellsMeta meta text = StartsWith (SpellsBe 4) meta.next_number
    (StartsWith (SpellsBe 4) meta.next_rid (SpellsName meta.suffix)) text

abbrev pub kind_byte : SchemaKind → ℕ
kind_byte Attribute = 0
kind_byte Class = 1
kind_byte Right = 2

abbrev pub SpellsLine : Line → List ℕ → Type 0
SpellsLine line text = StartsWith SpellsText line.name (SpellsText line.value) text

-- the kind, and the lines with their names and values
abbrev pub SpellsRecord : SchemaRecord → List ℕ → Type 0
SpellsRecord r text = StartsWith SpellsByte (kind_byte r.kind) (SpellsList SpellsLine r.lines) text
