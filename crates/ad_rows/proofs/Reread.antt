-- What is encoded is read, and what is read is encoded.
use Rattle.std.proofs.Common.{◌≡◌, ◌∙◌, ℕ, zero, suc, ◌<◌, Bool, true, false, List, [], ◌∷◌, ◌++◌, length, eqb}
use Rattle.std.proofs.Common.{Option, Some, None, Ok, Err, refl, sym, ap, subst, if◌then◌else◌}
use Rattle.std.specs.Prelude.{codes}
use Rattle.std.specs.Str.{bytes_eq}
use Rattle.std.specs.List.{AllByRecursion}
use Rattle.std.proofs.lemmas.List.{append-nil}
use Rattle.std.proofs.lemmas.Bool.{eq-eqb, eqb-true, and_parts, lt-ltb, le-leb}
use Rattle.ad_bytes.specs.Reading.{IsBytes, or_fault, many_at, StartsWith, TakesFront, IsReaderOf}
use Rattle.ad_bytes.specs.Numbers.{byte_at, be_at, SpellsByte, SpellsBe}
use Rattle.ad_bytes.proofs.Codec.{be_reader, byte_reader, again_first, front_then, rest_fits}
use Rattle.ad_bytes.proofs.Steps.{from_bind, from_or_fault, from_ok}
use Rattle.ad_dn.specs.declared.rdn.Rdn.{Rdn}
use Rattle.ad_dn.specs.declared.rdn.Dn.{Dn}
use Rattle.ad_dn.specs.Value.{AreRdns}
use Rattle.ad_dn.specs.Text.{rdns_text}
use Rattle.ad_dn.specs.Reading.{dn_of}
use Rattle.ad_dn.proofs.Spelled.{rdns_spelled, spelled_are}
use Rattle.ad_dn.proofs.ReadOff.{dn_again, dn_read}
use Rattle.ad_sd.specs.declared.parts.Sd.{Sd}
use Rattle.ad_sd.specs.Normal.{SpellsNormal}
use Rattle.ad_sd.specs.SdIn.{is_normal, sd_in}
use Rattle.ad_sd.proofs.NormalReader.{normal_spelled}
use Rattle.ad_value.specs.declared.syntax.Syntax.{Syntax}
use Rattle.ad_value.specs.Value.{Value, as_shown}
use Rattle.ad_schema.specs.Attributes.{attrs_of}
use Rattle.ad_schema.specs.declared.line.SchemaKind.{SchemaKind}
use Rattle.ad_schema.specs.declared.line.SchemaKind.TheVariants.{Attribute, Class, Right}
use Rattle.ad_schema.specs.declared.line.SchemaRecord.{SchemaRecord}
use Rattle.ad_schema.specs.declared.line.Line.{Line}
use Rattle.prop_queue.specs.declared.pending.Pending.{Pending}
use Rattle.ad_dir_model.specs.Attributes.{is_named, syntax_at}
use Rattle.ad_dir_model.specs.Object.{Stored, plain, link, Held, Object}
use Rattle.ad_dir_model.specs.Directory.{Meta}
use Rattle.ad_dir_model.specs.Soundness.{AttrsRiseFrom, IsValueBy, IsStored, IsHeld, IsContent}
use Rattle.ad_rows.specs.declared.parsing.BodyFault.{BodyFault}
use Rattle.ad_rows.specs.declared.parsing.BodyFault.TheVariants.{Bad}
use Rattle.ad_rows_write.specs.Body.{SpellsText, SpellsList, SpellsObject, SpellsPending, SpellsQueue, SpellsName}
use Rattle.ad_rows_write.specs.Body.{SpellsMeta, SpellsLine, SpellsRecord, kind_byte}
use Rattle.ad_rows.specs.Form.{value_kept, value_by}
use Rattle.ad_rows.specs.Parsing.{ended, text_at, attrs_rise, sd_of, object_in, pending_at, queue_in, canonical_of}
use Rattle.ad_rows.specs.Parsing.{suffix_of, meta_in, kind_of, line_at, record_in}
use Rattle.ad_rows.proofs.Codec.{taken_as, taken_whole, from_ended, number_takes, text_takes, text_reader}
use Rattle.ad_rows.proofs.Codec.{counted_takes, count_again, each_again, IsStoredValue, IsKeptHeld, IsReadAs, object_again}

pub sd_not : (text : List ℕ) → IsBytes text → ((sd : Sd) → SpellsNormal sd text → ⊥) → sd_of text ≡ Err Bad
sd_not text fits none = by (is_normal text) refl
  where
    by : (b : Bool) → is_normal text ≡ b → sd_of text ≡ Err Bad
    by true is = absurd (none (sd_in text) (normal_spelled text fits is))
    by false is = ap (λ (b : Bool). if b then Ok (sd_in text) else Err Bad) is

-- ---- objects whose content is of the schema

value_is : (b : Bool) (syntax : Syntax) (v : Value) → IsValueBy b syntax v → v ≡ value_by b syntax v.shown
value_is true syntax v is = is.1
value_is false syntax v is = sym (ap (value_kept v.shown) is)

kept_stored : (schema : List SchemaRecord) (attr : ℕ) → attr < length (attrs_of schema) → (stored : Stored)
    → IsStored schema attr stored → IsStoredValue (Some schema) attr stored
kept_stored schema attr within (plain value) is = (
  is.0,
  value_is (is_named schema (codes "unicodePwd") attr) (syntax_at schema attr) value is.1
      ∙ sym (ap (λ (b : Bool). if b then value_by (is_named schema (codes "unicodePwd") attr) (syntax_at schema attr)
      value.shown else as_shown value.shown) (lt-ltb attr (length (attrs_of schema)) within)),
)
kept_stored schema attr within (link number) is = is

pub all_as : {A : Type 0} (P Q : A → Type 0) → ((x : A) → P x → Q x) → (xs : List A) → AllByRecursion P xs
    → AllByRecursion Q xs
all_as P Q so [] all = tt
all_as P Q so (x ∷ xs) all = (so x all.0, all_as P Q so xs all.1)

kept_held : (schema : List SchemaRecord) (held : Held) → IsHeld schema held → IsKeptHeld (Some schema) held
kept_held schema held is = record {
  some = is.some;
  each = all_as (IsStored schema held.attr)
      (IsStoredValue (Some schema) held.attr) (kept_stored schema held.attr is.of_schema) held.values is.each;
}

pub rise_is : (least : ℕ) (values : List Held) → AttrsRiseFrom least values → attrs_rise least values ≡ true
unfolding attrs_rise
rise_is least [] rise = refl
rise_is least (held ∷ values) rise = rw (le-leb least held.attr rise.0, rise_is (suc held.attr) values rise.1) refl

pub object_kept : (schema : List SchemaRecord) (o : Object) (body : List ℕ) → IsContent schema o → SpellsObject o body
    → IsReadAs (Some schema) o.number o body
object_kept schema o body is s = record {
  number_is = refl;
  spelled = s;
  rise = rise_is 0 o.values is.attrs_rise;
  each
      = all_as (IsHeld schema) (IsKeptHeld (Some schema)) (kept_held schema) o.values is.each;
}

pub object_read : (schema : List SchemaRecord) (o : Object) (body : List ℕ) → IsContent schema o → SpellsObject o body
    → object_in (Some schema) o.number body ≡ Ok o
object_read schema o body is s = object_again (Some schema) o.number o body (object_kept schema o body is s)

-- ---- the pending list

pending_takes : (bytes : List ℕ) (entry : Pending) (rest : List ℕ) → IsBytes bytes → pending_at bytes
    ≡ Ok (entry, rest) → TakesFront SpellsPending bytes entry rest
unfolding pending_at
pending_takes bytes entry rest fits e =
    from_bind (or_fault Bad (be_at 4 bytes)) _ (entry, rest) e (λ (parent : ℕ × List ℕ) e1 f1.
    from_bind (or_fault Bad (be_at 4 parent.1)) _ (entry, rest) f1 (λ (cursor : ℕ × List ℕ) e2 f2.
    let one : Pending = record { parent = parent.0; cursor = cursor.0 } in
    let t1 : TakesFront (SpellsBe 4) bytes parent.0 parent.1 = number_takes 4 bytes parent fits e1 in
    let t2 : TakesFront (SpellsBe 4) parent.1 cursor.0 cursor.1 = number_takes 4 parent.1 cursor
    (rest_fits (SpellsBe 4) bytes parent.0 parent.1 fits t1) e2 in
    subst (λ (p : Pending × List ℕ). TakesFront SpellsPending bytes p.0 p.1)
    (from_ok {E = BodyFault} (one, cursor.1) (entry, rest) f2)
    (taken_as (λ (x : ℕ). StartsWith (SpellsBe 4) parent.0 (SpellsBe 4 x)) SpellsPending bytes cursor.0 one cursor.1
    fits (λ text _ s. s) (front_then (SpellsBe 4) (SpellsBe 4) bytes parent.0 parent.1 cursor.0 cursor.1 t1 t2))))

pending_again : (entry : Pending) (text rest : List ℕ) → SpellsPending entry text → pending_at (text ++ rest)
    ≡ Ok (entry, rest)
unfolding pending_at
pending_again entry text rest s =
    rw (
      again_first (SpellsBe 4) (be_at 4) (be_reader 4) entry.parent (SpellsBe 4 entry.cursor) text rest s,
      (be_reader 4).again entry.cursor s.behind rest s.follows,
    ) refl

pending_reader : IsReaderOf SpellsPending pending_at
pending_reader = record { takes = pending_takes; again = pending_again }

pub queue_takes : (bytes : List ℕ) (pending : List Pending) → IsBytes bytes → queue_in bytes ≡ Ok pending
    → SpellsQueue pending bytes
unfolding queue_in
queue_takes bytes pending fits e =
    from_bind (or_fault Bad (be_at 8 bytes)) _ pending e (λ (count : ℕ × List ℕ) e1 f1.
    from_bind (many_at pending_at count.0 count.1) _ pending f1 (λ (entries : List Pending × List ℕ) e2 f2.
    from_ended entries.0 entries.1 pending f2 (λ none same.
    let Listed : List Pending → List ℕ → Type 0 = λ xs t. (length xs ≡ count.0) × SpellsList SpellsPending xs t in
    let t : TakesFront Listed bytes entries.0 entries.1 = counted_takes SpellsPending pending_at pending_reader bytes
    count entries.0 entries.1 fits e1 e2 in
    subst (λ (xs : List Pending). SpellsQueue xs bytes) same
    (taken_whole Listed bytes entries.0 (subst (TakesFront Listed bytes entries.0) none t)).1)))

queue_again : (pending : List Pending) (text : List ℕ) → SpellsQueue pending text → queue_in (text ++ []) ≡ Ok pending
unfolding queue_in
queue_again pending text s = rw (
  count_again SpellsPending pending_at pending_reader pending text [] s,
  each_again
      SpellsPending pending_at pending_reader pending s.behind [] s.follows,
) refl

pub queue_read : (pending : List Pending) (body : List ℕ) → SpellsQueue pending body → queue_in body ≡ Ok pending
queue_read pending body s = ap queue_in (sym (append-nil body)) ∙ queue_again pending body s

-- ---- the counters

same_bytes : (bytes : List ℕ) → bytes_eq bytes bytes ≡ true
same_bytes [] = refl
same_bytes (b ∷ bytes) = rw (eq-eqb b b refl) (same_bytes bytes)

bytes_same : (a b : List ℕ) → bytes_eq a b ≡ true → a ≡ b
bytes_same [] [] is = refl
bytes_same [] (y ∷ b) is = absurd cc
bytes_same (x ∷ a) [] is = absurd cc
bytes_same (x ∷ a) (y ∷ b) is =
    let two = and_parts (eqb x y) (bytes_eq a b) is in
    let first = eqb-true x y two.0 in
    let others = bytes_same a b two.1 in
    (λ i. first i ∷ others i)

suffix_takes : (text : List ℕ) (rdns : List Rdn) → suffix_of text ≡ Ok rdns → AreRdns rdns × (rdns_text rdns ≡ text)
unfolding suffix_of
suffix_takes text rdns e = by (dn_of text) refl
  where
    of : (dn : Dn) → dn_of text ≡ Some dn → (b : Bool) → bytes_eq (rdns_text dn.rdns) text ≡ b → AreRdns rdns
        × (rdns_text rdns ≡ text)
    of dn is true same =
        let one : dn.rdns ≡ rdns = from_ok {E = BodyFault} dn.rdns rdns
        (sym (ap (canonical_of text) is ∙ ap (λ (b : Bool). if b then Ok dn.rdns else Err Bad) same) ∙ e) in
        subst (λ (r : List Rdn). AreRdns r × (rdns_text r ≡ text)) one
        (spelled_are dn.rdns text (dn_read text dn is), bytes_same (rdns_text dn.rdns) text same)
    of dn is false other = absurd (let clash : Err Bad ≡ Ok rdns
        = sym (ap (canonical_of text) is ∙ ap (λ (b : Bool). if b then Ok dn.rdns else Err Bad) other) ∙ e
        in cc clash)

    by : (found : Option Dn) → dn_of text ≡ found → AreRdns rdns × (rdns_text rdns ≡ text)
    by None is = absurd (let clash : Err Bad ≡ Ok rdns = sym (ap (canonical_of text) is) ∙ e in cc clash)
    by (Some dn) is = of dn is (bytes_eq (rdns_text dn.rdns) text) refl

suffix_is : (rdns : List Rdn) → AreRdns rdns → suffix_of (rdns_text rdns) ≡ Ok rdns
unfolding suffix_of
suffix_is rdns are =
    let read : dn_of (rdns_text rdns) ≡ Some (record { rdns = rdns }) = dn_again (rdns_text rdns)
    (record { rdns = rdns }) (rdns_spelled rdns are) in
    rw (read, same_bytes (rdns_text rdns)) refl

pub meta_takes : (bytes : List ℕ) (meta : Meta) → IsBytes bytes → meta_in bytes ≡ Ok meta → SpellsMeta meta bytes
unfolding meta_in
meta_takes bytes meta fits e =
    from_bind (or_fault Bad (be_at 4 bytes)) _ meta e (λ (number : ℕ × List ℕ) e1 f1.
    from_bind (or_fault Bad (be_at 4 number.1)) _ meta f1 (λ (rid : ℕ × List ℕ) e2 f2.
    from_bind (text_at rid.1) _ meta f2 (λ (text : List ℕ × List ℕ) e3 f3.
    from_bind (ended text.0 text.1) _ meta f3 (λ (alone : List ℕ) e4 f4.
    from_bind (suffix_of alone) _ meta f4 (λ (suffix : List Rdn) e5 f5.
    from_ended text.0 text.1 alone e4 (λ none same.
    let one : Meta = record { next_number = number.0; next_rid = rid.0; suffix = suffix } in
    let name = suffix_takes alone suffix e5 in
    let tn : TakesFront (SpellsBe 4) bytes number.0 number.1 = number_takes 4 bytes number fits e1 in
    let fn = rest_fits (SpellsBe 4) bytes number.0 number.1 fits tn in
    let tr : TakesFront (SpellsBe 4) number.1 rid.0 rid.1 = number_takes 4 number.1 rid fn e2 in
    let fr = rest_fits (SpellsBe 4) number.1 rid.0 rid.1 fn tr in
    let tx : TakesFront SpellsText rid.1 text.0 text.1 = text_takes rid.1 text.0 text.1 fr e3 in
    let shown : text.0 ≡ rdns_text suffix = same ∙ sym name.1 in
    let ts : TakesFront SpellsName rid.1 suffix [] =
    taken_as SpellsText SpellsName rid.1 text.0 suffix [] fr
    (λ t _ s. (name.0, subst (λ (x : List ℕ). SpellsText x t) shown s))
    (subst (TakesFront SpellsText rid.1 text.0) none tx) in
    let R : List Rdn → List ℕ → Type 0 = λ z. StartsWith (SpellsBe 4) rid.0 (SpellsName z) in
    let N : List Rdn → List ℕ → Type 0 = λ z. StartsWith (SpellsBe 4) number.0 (R z) in
    let r : TakesFront R number.1 suffix [] = front_then (SpellsBe 4) SpellsName number.1 rid.0 rid.1 suffix [] tr ts in
    let n : TakesFront N bytes suffix [] = front_then (SpellsBe 4) R bytes number.0 number.1 suffix [] tn r in
    subst (λ (m : Meta). SpellsMeta m bytes) (from_ok {E = BodyFault} one meta f5) (taken_whole N bytes suffix n)))))))

meta_again : (meta : Meta) (text : List ℕ) → SpellsMeta meta text → meta_in (text ++ []) ≡ Ok meta
unfolding meta_in
meta_again meta text s =
    let r = s.follows in
    rw (
      again_first (SpellsBe 4) (be_at 4) (be_reader 4) meta.next_number
          (StartsWith (SpellsBe 4) meta.next_rid (SpellsName meta.suffix)) text [] s,
      again_first (SpellsBe 4) (be_at 4) (be_reader 4) meta.next_rid (SpellsName meta.suffix) s.behind [] r,
      text_reader.again (rdns_text meta.suffix) r.behind [] r.follows.1,
      suffix_is meta.suffix r.follows.0,
    ) refl

pub meta_read : (meta : Meta) (body : List ℕ) → SpellsMeta meta body → meta_in body ≡ Ok meta
meta_read meta body s = ap meta_in (sym (append-nil body)) ∙ meta_again meta body s

-- ---- the records

kind_is : (kind : SchemaKind) → kind_of (kind_byte kind) ≡ Ok kind
kind_is Attribute = refl
kind_is Class = refl
kind_is Right = refl

kind_takes : (byte : ℕ) (kind : SchemaKind) → kind_of byte ≡ Ok kind → byte ≡ kind_byte kind
kind_takes zero kind e = ap kind_byte (from_ok {E = BodyFault} Attribute kind e)
kind_takes (suc zero) kind e = ap kind_byte (from_ok {E = BodyFault} Class kind e)
kind_takes (suc (suc zero)) kind e = ap kind_byte (from_ok {E = BodyFault} Right kind e)
kind_takes (suc (suc (suc n))) kind e = absurd cc

line_takes : (bytes : List ℕ) (line : Line) (rest : List ℕ) → IsBytes bytes → line_at bytes ≡ Ok (line, rest)
    → TakesFront SpellsLine bytes line rest
unfolding line_at
line_takes bytes line rest fits e =
    from_bind (text_at bytes) _ (line, rest) e (λ (name : List ℕ × List ℕ) e1 f1.
    from_bind (text_at name.1) _ (line, rest) f1 (λ (value : List ℕ × List ℕ) e2 f2.
    let one : Line = record { name = name.0; value = value.0 } in
    let t1 : TakesFront SpellsText bytes name.0 name.1 = text_takes bytes name.0 name.1 fits e1 in
    let t2 : TakesFront SpellsText name.1 value.0 value.1 = text_takes name.1 value.0 value.1
    (rest_fits SpellsText bytes name.0 name.1 fits t1) e2 in
    subst (λ (p : Line × List ℕ). TakesFront SpellsLine bytes p.0 p.1)
    (from_ok {E = BodyFault} (one, value.1) (line, rest) f2)
    (taken_as (λ (x : List ℕ). StartsWith SpellsText name.0 (SpellsText x)) SpellsLine bytes value.0 one value.1 fits
    (λ text _ s. s) (front_then SpellsText SpellsText bytes name.0 name.1 value.0 value.1 t1 t2))))

line_again : (line : Line) (text rest : List ℕ) → SpellsLine line text → line_at (text ++ rest) ≡ Ok (line, rest)
unfolding line_at
line_again line text rest s = rw (
  again_first SpellsText text_at text_reader line.name (SpellsText line.value) text
      rest s,
  text_reader.again line.value s.behind rest s.follows,
) refl

line_reader : IsReaderOf SpellsLine line_at
line_reader = record { takes = line_takes; again = line_again }

pub record_takes : (bytes : List ℕ) (r : SchemaRecord) → IsBytes bytes → record_in bytes ≡ Ok r → SpellsRecord r bytes
unfolding record_in
record_takes bytes r fits e =
    from_bind (or_fault Bad (byte_at bytes)) _ r e (λ (byte : ℕ × List ℕ) e1 f1.
    from_bind (kind_of byte.0) _ r f1 (λ (kind : SchemaKind) e2 f2.
    from_bind (or_fault Bad (be_at 8 byte.1)) _ r f2 (λ (count : ℕ × List ℕ) e3 f3.
    from_bind (many_at line_at count.0 count.1) _ r f3 (λ (lines : List Line × List ℕ) e4 f4.
    from_bind (ended lines.0 lines.1) _ r f4 (λ (all : List Line) e5 f5.
    from_ended lines.0 lines.1 all e5 (λ none same.
    let one : SchemaRecord = record { kind = kind; lines = all } in
    let tb : TakesFront SpellsByte bytes byte.0 byte.1 = byte_reader.takes bytes byte.0 byte.1 fits
    (from_or_fault Bad (byte_at bytes) byte e1) in
    let Listed : List Line → List ℕ → Type 0 = λ xs t. (length xs ≡ count.0) × SpellsList SpellsLine xs t in
    let fb = rest_fits SpellsByte bytes byte.0 byte.1 fits tb in
    let tl : TakesFront Listed byte.1 lines.0 lines.1 = counted_takes SpellsLine line_at line_reader byte.1 count
    lines.0 lines.1 fb e3 e4 in
    let ta : TakesFront (SpellsList SpellsLine) byte.1 all [] =
    taken_as Listed (SpellsList SpellsLine) byte.1 lines.0 all [] fb
    (λ t _ s. subst (λ (xs : List Line). SpellsList SpellsLine xs t) same s.1)
    (subst (TakesFront Listed byte.1 lines.0) none tl) in
    let K : List Line → List ℕ → Type 0 = λ z. StartsWith SpellsByte byte.0 (SpellsList SpellsLine z) in
    let k = taken_whole K bytes all (front_then SpellsByte (SpellsList SpellsLine) bytes byte.0 byte.1 all [] tb ta) in
    subst (λ (x : SchemaRecord). SpellsRecord x bytes) (from_ok {E = BodyFault} one r f5)
    (subst (λ (b : ℕ). StartsWith SpellsByte b (SpellsList SpellsLine all) bytes) (kind_takes byte.0 kind e2)
    k)))))))

record_again : (r : SchemaRecord) (text : List ℕ) → SpellsRecord r text → record_in (text ++ []) ≡ Ok r
unfolding record_in
record_again r text s =
    let l = s.follows in
    rw (
      again_first SpellsByte byte_at byte_reader (kind_byte r.kind) (SpellsList SpellsLine r.lines) text [] s,
      kind_is r.kind,
      count_again SpellsLine line_at line_reader r.lines s.behind [] l,
      each_again SpellsLine line_at line_reader r.lines l.behind [] l.follows,
    ) refl

pub record_read : (r : SchemaRecord) (body : List ℕ) → SpellsRecord r body → record_in body ≡ Ok r
record_read r body s = ap record_in (sym (append-nil body)) ∙ record_again r body s
