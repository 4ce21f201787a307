-- The values that are read of a text of bytes are bytes.
use Rattle.std.proofs.Common.{◌≡◌, ℕ, zero, suc, ◌+◌, ◌<◌, Bool, true, false, List, [], ◌∷◌, ◌++◌, eqb, Option, Some}
use Rattle.std.proofs.Common.{None, Result, Ok, Err, refl, subst}
use Rattle.std.specs.Prelude.{◌&&◌, if◌then◌else◌, ok_or, nat_le, length, not}
use Rattle.std.specs.List.{AllByRecursion, prefix_len}
use Rattle.base64.specs.Engines.{standard}
use Rattle.base64.specs.GeneralPurpose.{decode_of}
use Rattle.ad_bytes.specs.Reading.{IsBytes, ◌>>=◌}
use Rattle.ad_bytes.proofs.NumberBytes.{IsBytes-rest, IsBytes-drop}
use Rattle.ad_bytes.proofs.Steps.{from_fault_as, from_or_fault}
use Rattle.ad_dn.specs.declared.rdn.Dn.{Dn}
use Rattle.ad_dn.specs.Reading.{dn_of}
use Rattle.ad_dn.proofs.ReadOff.{dn_read}
use Rattle.ad_dn.proofs.Spelled.{spelled_are}
use Rattle.ad_ldif.specs.declared.fault.LdifKind.TheVariants as kind
use Rattle.ad_ldif.specs.Lines.{Line, Block, begins_with, is_empty, behind_first, lengthened, physical, continuation}
use Rattle.ad_ldif.specs.Lines.{logical, lines_from, lines_before_empty, blocks}
use Rattle.ad_ldif.specs.Fields.{is_colon, is_blank, behind_colon, without_blanks, decoded, value_of}
use Rattle.ad_ldif.specs.Records.{Field, Entry, Fault, is_short, name_at, value_at, short_value_at, fault}
use Rattle.ad_ldif.specs.Records.{is_changetype, is_version, field_at, behind_line, from_dn, dn_at, fields_of}
use Rattle.ad_ldif.specs.Records.{fields_behind, opening_of, body_of, record_of as entry_at}
use Rattle.ad_ldif.specs.Story.{Story, told, story_of, story}
use Rattle.ad_load_records.specs.declared.fault.LoadCause.TheVariants as cause
use Rattle.ad_load_records.specs.Faults.{at, of_all}
use Rattle.ad_load_records.specs.Good.{HasBytes, IsGoodRecord}
use Rattle.ad_load_records.specs.Records.{Record, kind_of, may_be_named, max_text, record_of, records_of, all_of}
use Rattle.ad_load_records.specs.Records.{records_in}
use Rattle.ad_load_records.proofs.Inverting.{bind_ok, need_ok, ok_or_ok, load_is}
use Rattle.ad_load_laws.proofs.Symbols.{nothing_below, more_below, decoded_bytes}

-- ---- lists of bytes

either : {A : Type 0} (P : A → Type 0) (t : Bool) (x y : A) → P x → P y → P (if t then x else y)
either P true x y p q = p
either P false x y p q = q

one_more : (b : ℕ) (bytes : List ℕ) → b < 256 → IsBytes bytes → IsBytes (b ∷ bytes)
one_more b bytes below fits zero = below
one_more b bytes below fits (suc i) = fits i

-- ---- lines

abbrev AllBytes : List (List ℕ) → Type 0
AllBytes lines = AllByRecursion IsBytes lines

abbrev LinesFit : List Line → Type 0
LinesFit lines = AllByRecursion (λ (line : Line). IsBytes line.text) lines

lengthened_fits : (b : ℕ) (lines : List (List ℕ)) → b < 256 → AllBytes lines → AllBytes (lengthened b lines)
lengthened_fits b [] below all = (one_more b [] below nothing_below, tt)
lengthened_fits b (line ∷ lines) below all = (one_more b line below all.0, all.1)

physical_fits : (text : List ℕ) → IsBytes text → AllBytes (physical text)
unfolding physical
physical_fits [] fits = tt
physical_fits (b ∷ rest) fits =
    let more = physical_fits rest (IsBytes-rest b rest fits) in
    either AllBytes (eqb b 13 && begins_with 10 rest) (physical rest)
    (if eqb b 10 then [] ∷ physical rest else lengthened b (physical rest)) more
    (either AllBytes (eqb b 10) ([] ∷ physical rest) (lengthened b (physical rest)) (nothing_below, more)
    (lengthened_fits b (physical rest) (fits 0) more))

behind_fits : (line : List ℕ) → IsBytes line → IsBytes (behind_first line)
behind_fits [] fits = fits
behind_fits (b ∷ line) fits = IsBytes-rest b line fits

continuation_fits : (lines : List (List ℕ)) → AllBytes lines → IsBytes (continuation lines)
unfolding continuation
continuation_fits [] all = nothing_below
continuation_fits (line ∷ lines) all = either IsBytes (begins_with 32 line) (behind_first line ++ continuation lines) []
    (more_below (behind_first line) (continuation lines) (behind_fits line all.0) (continuation_fits lines all.1))
    nothing_below

logical_fits : (open_line : Bool) (n : ℕ) (lines : List (List ℕ)) → AllBytes lines
    → LinesFit (logical open_line n lines)
unfolding logical
logical_fits open_line n [] all = tt
logical_fits open_line n (line ∷ lines) all =
    let inside = logical_fits true (n + 1) lines all.1 in
    let outside = logical_fits false (n + 1) lines all.1 in
    let blank : List Line = record { number = n; text = [] } ∷ logical false (n + 1) lines in
    let whole : List Line = record { number = n; text = line ++ continuation lines } ∷ logical true (n + 1) lines in
    let third : List Line = if is_empty line then blank else whole in
    let second : List Line = if begins_with 35 line then logical true (n + 1) lines else third in
    either LinesFit (open_line && begins_with 32 line) (logical true (n + 1) lines) second inside
    (either LinesFit (begins_with 35 line) (logical true (n + 1) lines) third inside
    (either LinesFit (is_empty line) blank whole (nothing_below, outside)
    (more_below line (continuation lines) all.0 (continuation_fits lines all.1), inside)))

before_fits : (lines : List Line) → LinesFit lines → LinesFit (lines_before_empty lines)
unfolding lines_before_empty
before_fits [] all = tt
before_fits (line ∷ lines) all = either LinesFit (is_empty line.text) [] (line ∷ lines_before_empty lines) tt
    (all.0, before_fits lines all.1)

record BlockFits (b : Block) : Type 0 where
  first : IsBytes b.first.text
  others : LinesFit b.others

abbrev BlocksFit : List Block → Type 0
BlocksFit bs = AllByRecursion BlockFits bs

blocks_fit : (inside : Bool) (lines : List Line) → LinesFit lines → BlocksFit (blocks inside lines)
unfolding blocks
blocks_fit inside [] all = tt
blocks_fit inside (line ∷ lines) all =
    let first = blocks_fit true lines all.1 in
    let other = blocks_fit false lines all.1 in
    let begun : List Block = record { first = line; others = lines_before_empty lines } ∷ blocks true lines in
    let second : List Block = if inside then blocks true lines else begun in
    either BlocksFit (is_empty line.text) (blocks false lines) second other
    (either BlocksFit inside (blocks true lines) begun first
    (record { first = all.0; others = before_fits lines all.1 }, first))

-- ---- values

without_fits : (bytes : List ℕ) → IsBytes bytes → IsBytes (without_blanks bytes)
unfolding without_blanks
without_fits [] fits = fits
without_fits (b ∷ bytes) fits = either IsBytes (is_blank b) (without_blanks bytes) (b ∷ bytes)
    (without_fits bytes (IsBytes-rest b bytes fits)) fits

colon_fits : (text : List ℕ) → IsBytes text → IsBytes (behind_colon text)
unfolding behind_colon
colon_fits text fits = IsBytes-drop (prefix_len (λ (b : ℕ). not (is_colon b)) text + 1) text fits

decoded_fits : (text value : List ℕ) → IsBytes text → decoded text ≡ Ok value → IsBytes value
unfolding decoded
decoded_fits text value fits is = decoded_bytes text value fits
    (from_or_fault kind.Base64 (decode_of standard text) value is)

value_fits : (behind value : List ℕ) → IsBytes behind → value_of behind ≡ Ok value → IsBytes value
unfolding value_of
value_fits behind value fits is = by (begins_with 58 behind) is
  where
    second : (b : Bool) → (if b then Err kind.Url else Ok (without_blanks behind)) ≡ Ok value → IsBytes value
    second true e = absurd cc
    second false e = let same : without_blanks behind ≡ value = cc in subst IsBytes same (without_fits behind fits)

    by : (b : Bool) → (if b then decoded (without_blanks (behind_first behind))
        else (if begins_with 60 behind then Err kind.Url else Ok (without_blanks behind))) ≡ Ok value
        → IsBytes value
    by true e = decoded_fits (without_blanks (behind_first behind)) value
        (without_fits (behind_first behind) (behind_fits behind fits)) e
    by false e = second (begins_with 60 behind) e

short_fits : (n : ℕ) (behind value : List ℕ) → IsBytes behind → short_value_at n behind ≡ Ok value → IsBytes value
unfolding short_value_at value_at
short_fits n behind value fits e =
    let a = bind_ok (value_at n behind) _ value e in
    let b = need_ok (is_short a.0) (fault n kind.TooLong) _ value a.2 in
    let same : a.0 ≡ value = cc in
    subst IsBytes same (value_fits behind a.0 fits (from_fault_as (fault n) (value_of behind) a.0 a.1))

-- ---- fields

abbrev pub FieldsFit : List Field → Type 0
FieldsFit fields = AllByRecursion HasBytes fields

field_fits : (line : Line) (field : Field) → IsBytes line.text → field_at line ≡ Ok field → HasBytes field
unfolding field_at
field_fits line field fits e =
    let a = bind_ok (name_at line) _ field e in
    let b = bind_ok (short_value_at line.number (behind_colon line.text)) _ field a.2 in
    let same : record { line = line.number; name = a.0; value = b.0 } ≡ field = cc in
    subst HasBytes same (short_fits line.number (behind_colon line.text) b.0 (colon_fits line.text fits) b.1)

fields_fit : (lines : List Line) (fields : List Field) → LinesFit lines → fields_of lines ≡ Ok fields → FieldsFit fields
unfolding fields_of
fields_fit [] fields all e = let same : [] ≡ fields = cc in subst FieldsFit same tt
fields_fit (line ∷ lines) fields all e =
    let a = bind_ok (field_at line) _ fields e in
    let b = bind_ok (fields_of lines) _ fields a.2 in
    let same : a.0 ∷ b.0 ≡ fields = cc in
    subst FieldsFit same (field_fits line a.0 all.0 a.1, fields_fit lines b.0 all.1 b.1)

both_fields : (xs ys : List Field) → FieldsFit xs → FieldsFit ys → FieldsFit (xs ++ ys)
both_fields [] ys a b = b
both_fields (x ∷ xs) ys a b = (a.0, both_fields xs ys a.1 b)

opening_fits : (line : Line) (fields : List Field) → IsBytes line.text → opening_of line ≡ Ok fields → FieldsFit fields
unfolding opening_of
opening_fits line fields fits e =
    let a = bind_ok (is_changetype line) _ fields e in
    by a.0 a.2
  where
    by : (test : Bool) → (if test then Ok [] else (field_at line >>= λ field. Ok (field ∷ []))) ≡ Ok fields
        → FieldsFit fields
    by true q = let same : [] ≡ fields = cc in subst FieldsFit same tt
    by false q =
        let b = bind_ok (field_at line) _ fields q in
        let same : b.0 ∷ [] ≡ fields = cc in
        subst FieldsFit same (field_fits line b.0 fits b.1, tt)

body_fits : (lines : List Line) (fields : List Field) → LinesFit lines → body_of lines ≡ Ok fields → FieldsFit fields
unfolding body_of fields_behind
body_fits [] fields all e = let same : [] ≡ fields = cc in subst FieldsFit same tt
body_fits (line ∷ lines) fields all e =
    let a = bind_ok (opening_of line) _ fields e in
    let b = bind_ok (fields_of lines) _ fields a.2 in
    let same : a.0 ++ b.0 ≡ fields = cc in
    subst FieldsFit same (both_fields a.0 b.0 (opening_fits line a.0 all.0 a.1) (fields_fit lines b.0 all.1 b.1))

begun_fits : (line : Line) (others : List Line) (block : Block) → LinesFit others → behind_line line others ≡ Ok block
    → LinesFit block.others
begun_fits line [] block all e = absurd cc
begun_fits line (next ∷ lines) block all e =
    let same : record { first = next; others = lines } ≡ block = cc in subst (λ (b : Block). LinesFit b.others) same
    all.1

from_fits : (first : Line) (others : List Line) (block : Block) → LinesFit others → from_dn first others ≡ Ok block
    → LinesFit block.others
unfolding from_dn
from_fits first others block all e =
    let a = bind_ok (is_version first) _ block e in
    by a.0 a.2
  where
    by : (version : Bool) → (if version then behind_line first others
        else Ok (record { first = first; others = others })) ≡ Ok block → LinesFit block.others
    by true q = begun_fits first others block all q
    by false q = let same : record { first = first; others = others } ≡ block = cc
        in subst (λ (b : Block). LinesFit b.others) same all

abbrev pub EntryFits : Entry → Type 0
EntryFits entry = FieldsFit entry.fields

entry_fits : (block : Block) (entry : Entry) → BlockFits block → entry_at block ≡ Ok entry → EntryFits entry
unfolding entry_at
entry_fits block entry all e =
    let a = bind_ok (from_dn block.first block.others) _ entry e in
    let b = bind_ok (dn_at a.0.first) _ entry a.2 in
    let c = bind_ok (body_of a.0.others) _ entry b.2 in
    let same : record { line = a.0.first.number; dn = b.0; fields = c.0 } ≡ entry = cc in
    subst EntryFits same (body_fits a.0.others c.0 (from_fits block.first block.others a.0 all.others a.1) c.1)

told_fits : (r : Result Entry Fault) (s : Story) → ((entry : Entry) → r ≡ Ok entry → EntryFits entry)
    → AllByRecursion EntryFits s.records → AllByRecursion EntryFits (told r s).records
told_fits (Ok entry) s one all = (one entry refl, all)
told_fits (Err f) s one all = tt

story_fits : (bs : List Block) → BlocksFit bs → AllByRecursion EntryFits (story_of bs).records
unfolding story_of
story_fits [] all = tt
story_fits (b ∷ bs) all = told_fits (entry_at b) (story_of bs) (λ entry e. entry_fits b entry all.0 e)
    (story_fits bs all.1)

-- ---- records

record_good : (entry : Entry) (r : Record) → EntryFits entry → record_of entry ≡ Ok r → IsGoodRecord r
unfolding record_of
record_good entry r fits e =
    let a = bind_ok (ok_or (dn_of entry.dn) (at entry.line cause.Dn)) _ r e in
    let dn : Dn = a.0 in
    let b = need_ok (may_be_named (kind_of entry.fields) dn.rdns) (at entry.line cause.Dn) _ r a.2 in
    let made : Record = record {
      line = entry.line;
      rdns = dn.rdns;
      kind = kind_of entry.fields;
      fields
          = entry.fields;
    } in
    subst IsGoodRecord (load_is made r b.1) (record {
      rdns = spelled_are dn.rdns entry.dn
          (dn_read entry.dn dn (ok_or_ok (dn_of entry.dn) (at entry.line cause.Dn) dn a.1));
      bytes = fits;
    })

records_good : (stop : Option Fault) (entries : List Entry) (rs : List Record) → AllByRecursion EntryFits entries
    → records_of stop entries ≡ Ok rs → AllByRecursion IsGoodRecord rs
unfolding records_of
records_good None [] rs all e = let same : [] ≡ rs = cc in subst (AllByRecursion IsGoodRecord) same tt
records_good (Some f) [] rs all e = absurd cc
records_good stop (entry ∷ entries) rs all e =
    let a = bind_ok (record_of entry) _ rs e in
    let b = bind_ok (records_of stop entries) _ rs a.2 in
    let same : a.0 ∷ b.0 ≡ rs = cc in
    subst (AllByRecursion IsGoodRecord) same (record_good entry a.0 all.0 a.1, records_good stop entries b.0 all.1 b.1)

-- what the lines of a text say are records whose values are bytes
pub entries_good : (text : List ℕ) (rs : List Record) → AllByRecursion EntryFits (story text).records
    → records_in text ≡ Ok rs
    → AllByRecursion IsGoodRecord rs
unfolding records_in
entries_good text rs all e =
    let a = need_ok (nat_le (length text) max_text) (of_all cause.TooLong) (λ (u : Unit {0}). all_of (story text)) rs
    e in
    records_good (story text).stop (story text).records rs all a.1

pub text_fits : (text : List ℕ) → IsBytes text → AllByRecursion EntryFits (story text).records
unfolding story lines_from
text_fits text fits = story_fits (blocks false (lines_from 1 text))
    (blocks_fit false (lines_from 1 text) (logical_fits false 1 (physical text) (physical_fits text fits)))
