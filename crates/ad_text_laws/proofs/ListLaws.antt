-- The lines of list are read back.
use Rattle.std.proofs.Common.{Bool, ◌≡◌, ℕ, true, false, if◌then◌else◌, Option, Some, List, [], ◌∷◌, ◌++◌, codes, refl}
use Rattle.std.proofs.Common.{sym, ap, subst, ◌∙◌, append_assoc}
use Rattle.std.proofs.lemmas.List.{append-nil}
use Rattle.std.specs.Prelude.{option_map}
use Rattle.std.specs.List.{AllByRecursion, flat_map}
use Rattle.ad_bytes.specs.Puts.{spaced}
use Rattle.ad_ids.specs.SidValue.{SidValue}
use Rattle.ad_ids.specs.Sid.{IsSid}
use Rattle.ad_ids.specs.SidText.{sid_text}
use Rattle.ad_acl.specs.declared.kind.AceKind.{AceKind}
use Rattle.ad_acl.specs.declared.kind.AceKind.TheVariants.{Allow, Deny, Audit}
use Rattle.ad_dn.specs.declared.rdn.Dn.{Dn}
use Rattle.ad_dn.specs.Text.{dn_text}
use Rattle.ad_acl.specs.Entry.{Entry}
use Rattle.ad_sd.specs.declared.parts.Sd.{Sd}
use Rattle.ad_schema.specs.declared.line.SchemaRecord.{SchemaRecord}
use Rattle.ad_schema.specs.Sound.{MakeSchema}
use Rattle.ad_dsacls.specs.Words.{kind_text}
use Rattle.ad_dsacls.specs.Listing.{entry_line, list_lines, lines_of}
use Rattle.ad_text_laws.specs.Lines.{is_line, is_word, word_of, facts_of}
use Rattle.ad_text_laws.specs.Listings.{EntryWords, ListLine, object, owned_by, grouped_by, dacl, sacl, entry, entry_text}
use Rattle.ad_text_laws.specs.Listings.{list_line, protection_of, origin_of, entry_of, list_line_of, IsEntryWords}
use Rattle.ad_text_laws.specs.Listings.{IsListLine, list_text, protection_word, origin_word, words_at, entries_at}
use Rattle.ad_text_laws.specs.Listings.{lines_at, IsListed}
use Rattle.ad_text_laws.proofs.LineLaws.{IsRead, two_lines, facts_back}
use Rattle.ad_text_laws.proofs.WordLaws.{word_then, sid_word, sid_back, name_line, name_back}
use Rattle.ad_text_laws.proofs.FactLaws.{all_read, spaced_line}
use Rattle.ad_text_laws.proofs.TokenLaws.{sid_line}
use Rattle.ad_text_laws.proofs.CodeWords.{rights_word, flags_word}
use Rattle.ad_text_laws.proofs.SchemaWords.{type_word}

protection_line : (label : List ℕ) (protected : Bool) → is_line label ≡ true
    → is_line (label ++ protection_word protected) ≡ true
protection_line label true e = two_lines label (codes "protected") e refl
protection_line label false e = two_lines label (codes "inherits") e refl

protection_back : (make : Bool → ListLine) (protected : Bool)
    → option_map make (protection_of (protection_word protected)) ≡ Some (make protected)
protection_back make true = refl
protection_back make false = refl

origin_line : (passed : Bool) → is_line (origin_word passed) ≡ true
origin_line true = refl
origin_line false = refl

origin_back : (passed : Bool) → origin_of (origin_word passed) ≡ Some passed
origin_back true = refl
origin_back false = refl

then_line : (word rest : List ℕ) → is_word word ≡ true → is_line rest ≡ true → is_line (spaced word ++ rest) ≡ true
then_line word rest e f = two_lines (spaced word) rest (spaced_line word e) f

entry_one_line : (e : EntryWords) → IsEntryWords e → is_line (entry_text e) ≡ true
entry_one_line e is =
    then_line (sid_text e.sid) _ (sid_word e.sid is.sid)
    (then_line e.rights _ is.rights (then_line e.object _ is.object
    (then_line e.inherited _ is.inherited (then_line e.flags (origin_word e.passed) is.flags (origin_line e.passed)))))

entry_back : (kind : AceKind) (e : EntryWords) → IsEntryWords e → entry_of kind (entry_text e)
    ≡ Some (entry (record e { kind = kind }))
unfolding entry_of
entry_back kind e is =
    let origin = origin_word e.passed in
    rw (
      word_then (sid_text e.sid) (spaced e.rights ++ (spaced e.object ++ (spaced e.inherited ++ (spaced e.flags
          ++ origin_word e.passed)))) (sid_word e.sid is.sid),
      word_then e.rights (spaced e.object ++ (spaced e.inherited ++ (spaced e.flags ++ origin_word e.passed))) is.rights,
      word_then e.object (spaced e.inherited ++ (spaced e.flags ++ origin_word e.passed)) is.object,
      word_then e.inherited (spaced e.flags ++ origin_word e.passed) is.inherited,
      word_then e.flags (origin_word e.passed) is.flags,
      sid_back e.sid is.sid,
      origin_back e.passed,
    ) refl

kind_word : (kind : AceKind) → is_word (kind_text kind) ≡ true
kind_word Allow = refl
kind_word Deny = refl
kind_word Audit = refl

-- the first word of an entry's line is its kind
kind_back : (kind : AceKind) (text : List ℕ) → list_line_of (spaced (kind_text kind) ++ text) ≡ entry_of kind text
unfolding list_line_of word_of
kind_back Allow text = refl
kind_back Deny text = refl
kind_back Audit text = refl

line_read : (line : ListLine) → IsListLine line → IsRead list_line_of list_line line
unfolding list_line_of word_of
line_read (object dn) is = record {
  one_line = two_lines (codes "object ") (dn_text dn) refl (name_line dn is);
  back = ap (λ (o : Option Dn). option_map object o) (name_back dn is);
}
line_read (owned_by sid) is = record {
  one_line = sid_line (codes "owner ") sid refl is;
  back = ap (λ (o : Option SidValue). option_map owned_by o) (sid_back sid is);
}
line_read (grouped_by sid) is = record {
  one_line = sid_line (codes "group ") sid refl is;
  back = ap (λ (o : Option SidValue). option_map grouped_by o) (sid_back sid is);
}
line_read (dacl protected) is = record {
  one_line = protection_line (codes "dacl ") protected refl;
  back = protection_back dacl protected;
}
line_read (sacl protected) is = record {
  one_line = protection_line (codes "sacl ") protected refl;
  back = protection_back sacl protected;
}
line_read (entry e) is = record {
  one_line = then_line (kind_text e.kind) (entry_text e) (kind_word e.kind) (entry_one_line e is);
  back = kind_back e.kind (entry_text e) ∙ entry_back e.kind e is;
}

pub list_back : (lines : List ListLine) → AllByRecursion IsListLine lines
    → facts_of list_line_of (list_text lines) ≡ Some lines
list_back lines all = facts_back list_line_of list_line lines (all_read list_line_of list_line line_read lines all)

-- ---- a descriptor

ended_entry : (schema : List SchemaRecord) (e : Entry) → entry_line schema e
    ≡ list_line (entry (words_at schema e)) ++ 10 ∷ []
unfolding entry_line
ended_entry schema e =
    let w = words_at schema e in
    let end = 10 ∷ [] in
    let flags = spaced w.flags in
    let child = spaced w.inherited in
    let type = spaced w.object in
    let rights = spaced w.rights in
    let sid = spaced (sid_text w.sid) in
    let kind = spaced (kind_text w.kind) in
    let origin = origin_word w.passed in
    sym (append_assoc kind (sid ++ (rights ++ (type ++ (child ++ (flags ++ origin))))) end
    ∙ ap (λ (t : List ℕ). kind ++ t) (append_assoc sid (rights ++ (type ++ (child ++ (flags ++ origin)))) end
    ∙ ap (λ (t : List ℕ). sid ++ t) (append_assoc rights (type ++ (child ++ (flags ++ origin))) end
    ∙ ap (λ (t : List ℕ). rights ++ t) (append_assoc type (child ++ (flags ++ origin)) end
    ∙ ap (λ (t : List ℕ). type ++ t) (append_assoc child (flags ++ origin) end
    ∙ ap (λ (t : List ℕ). child ++ t) (append_assoc flags origin end))))))

entries_text : (schema : List SchemaRecord) (entries : List Entry) (rest : List ListLine)
    → flat_map (entry_line schema) entries ++ list_text rest ≡ list_text (entries_at schema entries ++ rest)
entries_text schema [] rest = refl
entries_text schema (e ∷ entries) rest =
    append_assoc (entry_line schema e) (flat_map (entry_line schema) entries) (list_text rest)
    ∙ ap (λ (t : List ℕ). t ++ (flat_map (entry_line schema) entries ++ list_text rest)) (ended_entry schema e)
    ∙ ap (λ (t : List ℕ). (list_line (entry (words_at schema e)) ++ 10 ∷ []) ++ t) (entries_text schema entries rest)

protection : (label : List ℕ) (protected : Bool) → label ++ ((if protected then codes " protected"
    else codes " inherits") ++ 10 ∷ []) ≡ (label ++ (32 ∷ protection_word protected)) ++ 10 ∷ []
protection label true = sym (append_assoc label (codes " protected") (10 ∷ []))
protection label false = sym (append_assoc label (codes " inherits") (10 ∷ []))

all_entries : (schema : List SchemaRecord) (entries : List Entry) (rest : List ListLine)
    → AllByRecursion (λ e. IsEntryWords (words_at schema e)) entries → AllByRecursion IsListLine rest
    → AllByRecursion IsListLine (entries_at schema entries ++ rest)
all_entries schema [] rest all others = others
all_entries schema (e ∷ entries) rest all others = (all.0, all_entries schema entries rest all.1 others)

-- the words of entries are words
entries_are : (schema : List SchemaRecord) → MakeSchema schema → (entries : List Entry)
    → AllByRecursion (λ (e : Entry). IsSid e.sid) entries
    → AllByRecursion (λ e. IsEntryWords (words_at schema e)) entries
entries_are schema makes [] all = tt
entries_are schema makes (e ∷ entries) all = (
  record {
    sid = all.0;
    rights = rights_word e.mask;
    object = type_word schema makes e.object;
    inherited = type_word schema makes e.inherited;
    flags = flags_word e.flags;
  },
  entries_are schema makes entries all.1,
)

-- the text of list is that of its lines
lines_text : (schema : List SchemaRecord) (dn : Dn) (sd : Sd) → lines_of schema (dn_text dn) sd
    ≡ list_text (lines_at schema dn sd)
unfolding lines_of
lines_text schema dn sd =
    let dacl_line = list_line (dacl sd.dacl.protected) ++ 10 ∷ [] in
    let sacl_line = list_line (sacl sd.sacl.protected) ++ 10 ∷ [] in
    let dacl_entries = flat_map (entry_line schema) sd.dacl.entries in
    let sacl_entries = flat_map (entry_line schema) sd.sacl.entries in
    let last : sacl_entries ≡ list_text (entries_at schema sd.sacl.entries)
    = sym (append-nil sacl_entries) ∙ entries_text schema sd.sacl.entries []
    ∙ ap list_text (append-nil (entries_at schema sd.sacl.entries)) in
    ap (λ (t : List ℕ). (codes "object " ++ (dn_text dn ++ 10 ∷ [])) ++ ((codes "owner " ++ (sid_text sd.owner ++ 10 ∷ []))
    ++ ((codes "group " ++ (sid_text sd.group ++ 10 ∷ [])) ++ t)))
    (
    ap (λ (t : List ℕ). (t ++ dacl_entries) ++ list_lines schema (codes "sacl") sd.sacl)
    (protection (codes "dacl") sd.dacl.protected)
    ∙ append_assoc dacl_line dacl_entries (list_lines schema (codes "sacl") sd.sacl)
    ∙ ap (λ (t : List ℕ). dacl_line ++ (dacl_entries ++ (t ++ sacl_entries)))
    (protection (codes "sacl") sd.sacl.protected)
    ∙ ap (λ (t : List ℕ). dacl_line ++ (dacl_entries ++ (sacl_line ++ t))) last
    ∙ ap (λ (t : List ℕ). dacl_line ++ t)
    (entries_text schema sd.dacl.entries (sacl sd.sacl.protected ∷ entries_at schema sd.sacl.entries))
    )

pub listed_back : (schema : List SchemaRecord) (dn : Dn) (sd : Sd) → MakeSchema schema → IsListed dn sd
    → facts_of list_line_of (lines_of schema (dn_text dn) sd) ≡ Some (lines_at schema dn sd)
listed_back schema dn sd makes is = ap (facts_of list_line_of) (lines_text schema dn sd)
    ∙ list_back (lines_at schema dn sd) (
      is.name,
      (
        is.owner,
        (
          is.group,
          (
            tt,
            all_entries schema sd.dacl.entries (sacl sd.sacl.protected ∷ entries_at schema sd.sacl.entries)
                (entries_are schema makes sd.dacl.entries is.dacl) (
                  tt,
                  subst (AllByRecursion IsListLine) (append-nil (entries_at schema sd.sacl.entries))
                      (all_entries schema sd.sacl.entries [] (entries_are schema makes sd.sacl.entries is.sacl) tt),
                ),
          ),
        ),
      ),
    )
