-- The readers of texts, lists and objects are those of their formats: what is read is encoded so, and what is
-- encoded so is read.
use Rattle.std.proofs.Common.{◌≡◌, ◌∙◌, ℕ, zero, suc, ◌<◌, Bool, true, false, List, [], ◌∷◌, ◌++◌, length, Option}
use Rattle.std.proofs.Common.{Some, None, Result, Ok, Err, refl, sym, ap, subst, append_assoc, arith, if◌then◌else◌}
use Rattle.std.specs.Prelude.{codes, ◌==◌, nat_lt}
use Rattle.std.specs.List.{AllByRecursion}
use Rattle.std.proofs.lemmas.List.{append-nil}
use Rattle.std.proofs.lemmas.Bool.{ne_eqb, ltb-false}
use Rattle.std.proofs.lemmas.Option.{slice_get_past}
use Rattle.std.specs.Option.{option_map_or}
use Rattle.ad_bytes.specs.Reading.{IsBytes, Reading, ◌>>=◌, need, or_fault, many_at, StartsWith, SpellsEach}
use Rattle.ad_bytes.specs.Reading.{SpellsMany, TakesFront, IsReaderOf}
use Rattle.ad_bytes.specs.Numbers.{be_at, part_at, SpellsBe, SpellsPart}
use Rattle.ad_bytes.proofs.Codec.{be_reader, part_reader, again_first, front_then, rest_fits, IsBytes-front}
use Rattle.ad_bytes.proofs.Codec.{IsBytes-back, length-be_bytes}
use Rattle.ad_bytes.proofs.Many.{many_reader}
use Rattle.ad_bytes.proofs.Steps.{from_bind, from_need, from_or_fault, from_ok}
use Rattle.ad_sd.specs.declared.parts.Sd.{Sd}
use Rattle.ad_sd.specs.Normal.{SpellsNormal}
use Rattle.ad_sd.specs.SdIn.{is_normal, sd_in}
use Rattle.ad_sd.proofs.NormalReader.{normal_spelled, spelled_normal, spelled_in}
use Rattle.ad_value.specs.declared.syntax.Syntax.{Syntax}
use Rattle.ad_value.specs.Value.{Value, as_shown}
use Rattle.ad_value.specs.declared.fault.ValueFault.{ValueFault}
use Rattle.ad_value.specs.ValueOf.{normal_or_fault}
use Rattle.ad_schema.specs.Attributes.{attrs_of}
use Rattle.ad_schema.specs.Meaning.{attr_is_link, is_link}
use Rattle.ad_schema.specs.declared.line.SchemaRecord.{SchemaRecord}
use Rattle.ad_dir_model.specs.Attributes.{is_named, syntax_at}
use Rattle.ad_dir_model.specs.Object.{Stored, plain, link, Held, Object}
use Rattle.ad_rows.specs.declared.parsing.BodyFault.{BodyFault}
use Rattle.ad_rows.specs.declared.parsing.BodyFault.TheVariants.{Bad}
use Rattle.ad_rows_write.specs.Body.{SpellsText, SpellsList, SpellsStored, SpellsHeld, SpellsObject}
use Rattle.ad_rows.specs.Form.{value_kept, value_by, value_of}
use Rattle.ad_rows.specs.Parsing.{ended, text_at, link_of, stored_of, any_stored_of, stored_at, values_at, held_at}
use Rattle.ad_rows.specs.Parsing.{attrs_rise, helds_at, attributes_at, sd_of, object_in}
use Rattle.ad_rows.proofs.Once.{list_with}

-- ---- steps

-- what was taken, as another value of another format
pub taken_as : {A B : Type 0} (P : A → List ℕ → Type 0) (Q : B → List ℕ → Type 0) (bytes : List ℕ) (x : A) (y : B)
    (rest : List ℕ) → IsBytes bytes → ((text : List ℕ) → IsBytes text → P x text → Q y text)
    → TakesFront P bytes x rest → TakesFront Q bytes y rest
taken_as P Q bytes x y rest fits so t = record {
  text = t.text;
  parts = t.parts;
  spelled = so t.text (IsBytes-front t.text rest (subst IsBytes t.parts fits))
      t.spelled;
}

-- all of the bytes
pub taken_whole : {A : Type 0} (P : A → List ℕ → Type 0) (bytes : List ℕ) (x : A) → TakesFront P bytes x [] → P x bytes
taken_whole P bytes x t = subst (P x) (sym (t.parts ∙ append-nil t.text)) t.spelled

pub from_ended : {A P : Type 0} (x : A) (rest : List ℕ) (y : A) → ended x rest ≡ Ok y → (rest ≡ [] → x ≡ y → P) → P
from_ended x [] y e k = k refl (from_ok {E = BodyFault} x y e)
from_ended x (b ∷ rest) y e k = absurd cc

from_if : {B E P : Type 0} (b : Bool) (d : E) (r : Result B E) (y : B) → (if b then Err d else r) ≡ Ok y
    → (b ≡ false → r ≡ Ok y → P) → P
from_if true d r y e k = absurd cc
from_if false d r y e k = k refl e

pub number_takes : (n : ℕ) (bytes : List ℕ) (x : ℕ × List ℕ) → IsBytes bytes → or_fault Bad (be_at n bytes) ≡ Ok x
    → TakesFront (SpellsBe n) bytes x.0 x.1
number_takes n bytes x fits e = (be_reader n).takes bytes x.0 x.1 fits (from_or_fault Bad (be_at n bytes) x e)

-- ---- texts

pub text_takes : (bytes x rest : List ℕ) → IsBytes bytes → text_at bytes ≡ Ok (x, rest) → TakesFront SpellsText bytes
    x rest
unfolding text_at
text_takes bytes x rest fits e =
    from_bind (or_fault Bad (be_at 8 bytes)) _ (x, rest) e
    (λ (size : ℕ × List ℕ)
    (e1 : or_fault Bad (be_at 8 bytes) ≡ Ok size) (e2 : or_fault Bad (part_at size.0 size.1) ≡ Ok (x, rest)).
    let t1 : TakesFront (SpellsBe 8) bytes size.0 size.1 = number_takes 8 bytes size fits e1 in
    let t2 : TakesFront (SpellsPart size.0) size.1 x rest = (part_reader size.0).takes size.1 x rest
    (rest_fits (SpellsBe 8) bytes size.0 size.1 fits t1) (from_or_fault Bad (part_at size.0 size.1) (x, rest) e2)
    in
    taken_as (λ (z : List ℕ). StartsWith (SpellsBe 8) size.0 (SpellsPart size.0 z)) SpellsText bytes x x rest fits
    (λ text _ s. record {
      front = s.front;
      behind = s.behind;
      parts = s.parts;
      spelled
          = subst (λ (n : ℕ). SpellsBe 8 n s.front) (sym s.follows.0) s.spelled;
      follows = s.follows.1;
    })
    (front_then (SpellsBe 8) (SpellsPart size.0) bytes size.0 size.1 x rest t1 t2))

text_again : (x text rest : List ℕ) → SpellsText x text → text_at (text ++ rest) ≡ Ok (x, rest)
unfolding text_at
text_again x text rest s =
    let part : part_at (length x) (s.behind ++ rest) ≡ Ok (x, rest) = (part_reader (length x)).again x s.behind rest
    (refl, s.follows) in
    rw (again_first (SpellsBe 8) (be_at 8) (be_reader 8) (length x) (λ r. r ≡ x) text rest s, part) refl

pub text_reader : IsReaderOf SpellsText text_at
text_reader = record { takes = text_takes; again = text_again }

-- ---- lists

abbrev pub list_at : {A : Type 0} → (List ℕ → Reading A BodyFault) → List ℕ → Reading (List A) BodyFault
list_at read bytes = or_fault Bad (be_at 8 bytes) >>= λ count. many_at read count.0 count.1

module _ {A : Type 0} (Spells : A → List ℕ → Type 0) (read : List ℕ → Reading A BodyFault)
    (reader : IsReaderOf Spells read) where
  pub counted_takes : (bytes : List ℕ) (count : ℕ × List ℕ) (xs : List A) (rest : List ℕ) → IsBytes bytes
      → or_fault Bad (be_at 8 bytes) ≡ Ok count → many_at read count.0 count.1 ≡ Ok (xs, rest)
      → TakesFront (λ (ys : List A) (t : List ℕ). (length ys ≡ count.0) × SpellsList Spells ys t) bytes xs rest
  counted_takes bytes count xs rest fits e1 e2 =
      let t1 : TakesFront (SpellsBe 8) bytes count.0 count.1 = number_takes 8 bytes count fits e1 in
      let t2 : TakesFront (SpellsMany Spells count.0) count.1 xs rest = (many_reader Spells read reader count.0).takes
      count.1 xs rest (rest_fits (SpellsBe 8) bytes count.0 count.1 fits t1) e2 in
      taken_as (λ (ys : List A). StartsWith (SpellsBe 8) count.0 (SpellsMany Spells count.0 ys))
      (λ (ys : List A) (t : List ℕ). (length ys ≡ count.0) × SpellsList Spells ys t) bytes xs xs rest fits
      (λ text _ s. (
        s.follows.0,
        record {
          front = s.front;
          behind = s.behind;
          parts = s.parts;
          spelled
              = subst (λ (n : ℕ). SpellsBe 8 n s.front) (sym s.follows.0) s.spelled;
          follows = s.follows.1;
        },
      ))
      (front_then (SpellsBe 8) (SpellsMany Spells count.0) bytes count.0 count.1 xs rest t1 t2)

  list_takes : (bytes : List ℕ) (xs : List A) (rest : List ℕ) → IsBytes bytes → list_at read bytes ≡ Ok (xs, rest)
      → TakesFront (SpellsList Spells) bytes xs rest
  list_takes bytes xs rest fits e =
      from_bind (or_fault Bad (be_at 8 bytes)) _ (xs, rest) e
      (λ (count : ℕ × List ℕ)
      (e1 : or_fault Bad (be_at 8 bytes) ≡ Ok count) (e2 : many_at read count.0 count.1 ≡ Ok (xs, rest)).
      taken_as (λ (ys : List A) (t : List ℕ). (length ys ≡ count.0) × SpellsList Spells ys t) (SpellsList Spells)
      bytes xs xs rest fits (λ text _ s. s.1) (counted_takes bytes count xs rest fits e1 e2))

  pub count_again : (xs : List A) (text rest : List ℕ) (s : SpellsList Spells xs text) → be_at 8 (text ++ rest)
      ≡ Ok (length xs, s.behind ++ rest)
  count_again xs text rest s = again_first (SpellsBe 8) (be_at 8) (be_reader 8) (length xs) (SpellsEach Spells xs)
      text rest s

  pub each_again : (xs : List A) (text rest : List ℕ) → SpellsEach Spells xs text → many_at read (length xs)
      (text ++ rest) ≡ Ok (xs, rest)
  each_again xs text rest s = (many_reader Spells read reader (length xs)).again xs text rest (refl, s)

  list_again : (xs : List A) (text rest : List ℕ) → SpellsList Spells xs text → list_at read (text ++ rest)
      ≡ Ok (xs, rest)
  list_again xs text rest s = rw (count_again xs text rest s, each_again xs s.behind rest s.follows) refl

  pub list_reader : IsReaderOf (SpellsList Spells) (list_at read)
  list_reader = record { takes = list_takes; again = list_again }

-- what is known of each value of a list, and its encoding without that
each_parts : {A : Type 0} (Known : A → Type 0) (Spells : A → List ℕ → Type 0) (xs : List A) (text : List ℕ)
    → SpellsEach (λ (x : A) (t : List ℕ). Known x × Spells x t) xs text → AllByRecursion Known xs
    × SpellsEach Spells xs text
each_parts Known Spells [] text each = (tt, each)
each_parts Known Spells (x ∷ xs) text each =
    let rest = each_parts Known Spells xs each.behind each.follows in (
      (each.spelled.0, rest.0),
      record {
        front = each.front;
        behind = each.behind;
        parts = each.parts;
        spelled
            = each.spelled.1;
        follows = rest.1;
      },
    )

list_parts : {A : Type 0} (Known : A → Type 0) (Spells : A → List ℕ → Type 0) (xs : List A) (text : List ℕ)
    → SpellsList (λ (x : A) (t : List ℕ). Known x × Spells x t) xs text → AllByRecursion Known xs
    × SpellsList Spells xs text
list_parts Known Spells xs text list =
    let parts = each_parts Known Spells xs list.behind list.follows in (
      parts.0,
      record {
        front = list.front;
        behind = list.behind;
        parts = list.parts;
        spelled = list.spelled;
        follows
            = parts.1;
      },
    )

-- ---- values

abbrev pub is_link_in : Option (List SchemaRecord) → ℕ → Bool
is_link_in None attr = false
is_link_in (Some schema) attr = attr_is_link schema attr

abbrev pub plain_of : Option (List SchemaRecord) → ℕ → List ℕ → Value
plain_of None attr bytes = as_shown bytes
plain_of (Some schema) attr bytes = value_of schema attr bytes

-- a value as it is read of its bytes
abbrev pub IsStoredValue : Option (List SchemaRecord) → ℕ → Stored → Type 0
IsStoredValue schema attr (plain value) = (is_link_in schema attr ≡ false) × (value ≡ plain_of schema attr value.shown)
IsStoredValue schema attr (link number) = is_link_in schema attr ≡ true

by_shown : (b : Bool) (syntax : Syntax) (bytes : List ℕ) → (value_by b syntax bytes).shown ≡ bytes
by_shown true syntax bytes = refl
by_shown false syntax bytes = of (normal_or_fault syntax bytes)
  where
    of : (r : Result Value ValueFault) → (value_kept bytes r).shown ≡ bytes
    of (Ok value) = refl
    of (Err fault) = refl

pub plain_shown : (schema : Option (List SchemaRecord)) (attr : ℕ) (bytes : List ℕ)
    → (plain_of schema attr bytes).shown ≡ bytes
plain_shown None attr bytes = refl
plain_shown (Some schema) attr bytes = of (nat_lt attr (length (attrs_of schema)))
  where
    by : Value
    by = value_by (is_named schema (codes "unicodePwd") attr) (syntax_at schema attr) bytes

    of : (b : Bool) → (if b then value_by (is_named schema (codes "unicodePwd") attr) (syntax_at schema attr) bytes
        else as_shown bytes).shown ≡ bytes
    of true = by_shown (is_named schema (codes "unicodePwd") attr) (syntax_at schema attr) bytes
    of false = refl

no_link : (schema : List SchemaRecord) (attr : ℕ) → nat_lt attr (length (attrs_of schema)) ≡ false
    → attr_is_link schema attr ≡ false
unfolding attr_is_link
no_link schema attr past = ap (λ (found : Option _). option_map_or is_link found false)
    (slice_get_past (attrs_of schema) attr (ltb-false attr (length (attrs_of schema)) past))

abbrev read_as : Option (List SchemaRecord) → ℕ → List ℕ → Bool → Result Stored BodyFault
read_as schema attr bytes b = if b then (link_of bytes >>= λ number. Ok (link number))
    else Ok (plain (plain_of schema attr bytes))

any_stored_is : (schema : Option (List SchemaRecord)) (attr : ℕ) (bytes : List ℕ) → any_stored_of schema attr bytes
    ≡ read_as schema attr bytes (is_link_in schema attr)
unfolding stored_of
any_stored_is None attr bytes = refl
any_stored_is (Some schema) attr bytes = by (nat_lt attr (length (attrs_of schema))) refl
  where
    by : (b : Bool) → nat_lt attr (length (attrs_of schema)) ≡ b → any_stored_of (Some schema) attr bytes
        ≡ read_as (Some schema) attr bytes (attr_is_link schema attr)
    by true within = rw within refl
    by false past = rw (past, no_link schema attr past) refl

link_takes : (bytes : List ℕ) (number : ℕ) → IsBytes bytes → link_of bytes ≡ Ok number → SpellsBe 4 number bytes
unfolding link_of
link_takes bytes number fits e =
    from_bind (or_fault Bad (be_at 4 bytes)) _ number e
    (λ (n : ℕ × List ℕ) (e1 : or_fault Bad (be_at 4 bytes) ≡ Ok n) (e2 : ended n.0 n.1 ≡ Ok number).
    from_ended n.0 n.1 number e2 (λ none same.
    let t : TakesFront (SpellsBe 4) bytes n.0 n.1 = number_takes 4 bytes n fits e1 in
    subst (λ (x : ℕ). SpellsBe 4 x bytes) same
    (taken_whole (SpellsBe 4) bytes n.0 (subst (TakesFront (SpellsBe 4) bytes n.0) none t))))

link_again : (number : ℕ) (text : List ℕ) → SpellsBe 4 number text → link_of text ≡ Ok number
unfolding link_of
link_again number text s =
    let read : be_at 4 text ≡ Ok (number, []) = ap (be_at 4) (sym (append-nil text)) ∙ (be_reader 4).again number text
    [] s in
    rw read refl

abbrev pub KeptStored : Option (List SchemaRecord) → ℕ → Stored → List ℕ → Type 0
KeptStored schema attr stored text = IsStoredValue schema attr stored × SpellsStored stored text

module _ (schema : Option (List SchemaRecord)) (attr : ℕ) where
  any_takes : (shown : List ℕ) (stored : Stored) (text : List ℕ) → IsBytes text → any_stored_of schema attr shown
      ≡ Ok stored → SpellsText shown text → KeptStored schema attr stored text
  any_takes shown stored text fits e s = by (is_link_in schema attr) refl
    where
      read : (b : Bool) → is_link_in schema attr ≡ b → read_as schema attr shown b ≡ Ok stored
      read b is = ap (read_as schema attr shown) (sym is) ∙ sym (any_stored_is schema attr shown) ∙ e

      bytes : IsBytes shown
      bytes = subst IsBytes s.follows (IsBytes-back s.front s.behind (subst IsBytes s.parts fits))

      by : (b : Bool) → is_link_in schema attr ≡ b → KeptStored schema attr stored text
      by true is =
          from_bind (link_of shown) _ stored (read true is)
          (λ (number : ℕ) (e1 : link_of shown ≡ Ok number) (e2 : Ok (link number) ≡ Ok stored).
          let four : SpellsBe 4 number shown = link_takes shown number bytes e1 in
          let long : length shown ≡ 4 = ap length four.1 ∙ length-be_bytes 4 number in
          subst (λ (x : Stored). KeptStored schema attr x text) (from_ok {E = BodyFault} (link number) stored e2) (
            is,
            record {
              front = s.front;
              behind = s.behind;
              parts = s.parts;
              spelled
                  = subst (λ (n : ℕ). SpellsBe 8 n s.front) long s.spelled;
              follows = subst (SpellsBe 4 number)
                  (sym s.follows) four;
            },
          ))
      by false is =
          let shows : (plain_of schema attr shown).shown ≡ shown = plain_shown schema attr shown in
          subst (λ (x : Stored). KeptStored schema attr x text)
          (from_ok {E = BodyFault} (plain (plain_of schema attr shown)) stored (read false is))
          ((is, ap (plain_of schema attr) (sym shows)), subst (λ (bs : List ℕ). SpellsText bs text) (sym shows) s)

  stored_takes : (bytes : List ℕ) (stored : Stored) (rest : List ℕ) → IsBytes bytes → stored_at schema attr bytes
      ≡ Ok (stored, rest) → TakesFront (KeptStored schema attr) bytes stored rest
  unfolding stored_at
  stored_takes bytes stored rest fits e =
      from_bind (text_at bytes) _ (stored, rest) e
      (λ (shown : List ℕ × List ℕ)
      (e1 : text_at bytes ≡ Ok shown)
      (e2 : (any_stored_of schema attr shown.0 >>= λ s. Ok (s, shown.1)) ≡ Ok (stored, rest)).
      from_bind (any_stored_of schema attr shown.0) _ (stored, rest) e2
      (λ (s : Stored) (e3 : any_stored_of schema attr shown.0 ≡ Ok s) (e4 : Ok (s, shown.1) ≡ Ok (stored, rest)).
      subst (λ (p : Stored × List ℕ). TakesFront (KeptStored schema attr) bytes p.0 p.1)
      (from_ok {E = BodyFault} (s, shown.1) (stored, rest) e4)
      (taken_as SpellsText (KeptStored schema attr) bytes shown.0 s shown.1 fits
      (λ text are spelled. any_takes shown.0 s text are e3 spelled) (text_takes bytes shown.0 shown.1 fits e1))))

  any_again : (stored : Stored) (bytes : List ℕ) → IsStoredValue schema attr stored
      → (stored ≡ plain (plain_of schema attr bytes)) → is_link_in schema attr ≡ false → any_stored_of schema attr
      bytes ≡ Ok stored
  any_again stored bytes kept same is = any_stored_is schema attr bytes ∙ ap (read_as schema attr bytes) is
      ∙ ap (λ (s : Stored). Ok s) (sym same)

  stored_again : (stored : Stored) (text rest : List ℕ) → KeptStored schema attr stored text
      → stored_at schema attr (text ++ rest) ≡ Ok (stored, rest)
  unfolding stored_at
  stored_again (plain value) text rest s =
      rw (text_again value.shown text rest s.1, any_again (plain value) value.shown s.0 (ap plain s.0.1) s.0.0) refl
  stored_again (link number) text rest s =
      let f = s.1 in
      let four : length f.behind ≡ 4 = ap length f.follows.1 ∙ length-be_bytes 4 number in
      let shown : SpellsText f.behind text = record {
        front = f.front;
        behind = f.behind;
        parts = f.parts;
        spelled
            = subst (λ (n : ℕ). SpellsBe 8 n f.front) (sym four) f.spelled;
        follows = refl;
      } in
      let read : any_stored_of schema attr f.behind ≡ Ok (link number) =
      any_stored_is schema attr f.behind ∙ ap (read_as schema attr f.behind) s.0
      ∙ ap (λ (r : Result ℕ BodyFault). r >>= λ n. Ok (link n)) (link_again number f.behind f.follows) in
      rw (text_again f.behind text rest shown, read) refl

  pub stored_reader : IsReaderOf (KeptStored schema attr) (stored_at schema attr)
  stored_reader = record { takes = stored_takes; again = stored_again }

-- ---- attributes

pub record IsKeptHeld (schema : Option (List SchemaRecord)) (held : Held) : Type 0 where
  pub some : 0 < length held.values
  pub each : AllByRecursion (IsStoredValue schema held.attr) held.values

abbrev pub KeptHeld : Option (List SchemaRecord) → Held → List ℕ → Type 0
KeptHeld schema held text = IsKeptHeld schema held × SpellsHeld held text

not_none : (n : ℕ) → (n == 0) ≡ false → 0 < n
not_none zero e = absurd cc
not_none (suc n) e = omega arith

some_count : (n : ℕ) → 0 < n → (n == 0) ≡ false
some_count n some = ne_eqb n 0 (λ is. omega (arith, is, some))

module _ (schema : Option (List SchemaRecord)) where
  values_takes : (attr : ℕ) (bytes : List ℕ) (xs : List Stored) (rest : List ℕ) → IsBytes bytes
      → values_at schema attr bytes ≡ Ok (xs, rest)
      → TakesFront (λ (ys : List Stored) (t : List ℕ). (0 < length ys) × SpellsList (KeptStored schema attr) ys t)
      bytes xs rest
  unfolding values_at
  values_takes attr bytes xs rest fits e =
      from_bind (or_fault Bad (be_at 8 bytes)) _ (xs, rest) e
      (λ (count : ℕ × List ℕ)
      (e1 : or_fault Bad (be_at 8 bytes) ≡ Ok count)
      (e2 : (if count.0 == 0 then Err Bad else many_at (stored_at schema attr) count.0 count.1) ≡ Ok (xs, rest)).
      from_if (count.0 == 0) Bad (many_at (stored_at schema attr) count.0 count.1) (xs, rest) e2 (λ some e3.
      let more : 0 < count.0 = not_none count.0 some in
      taken_as (λ (ys : List Stored) (t : List ℕ). (length ys ≡ count.0) × SpellsList (KeptStored schema attr) ys t)
      (λ (ys : List Stored) (t : List ℕ). (0 < length ys) × SpellsList (KeptStored schema attr) ys t) bytes xs xs
      rest fits
      (λ text _ s. (subst (λ (n : ℕ). 0 < n) (sym s.0) more, s.1))
      (counted_takes (KeptStored schema attr) (stored_at schema attr) (stored_reader schema attr) bytes count xs
      rest fits e1 e3)))

  values_again : (attr : ℕ) (xs : List Stored) (text rest : List ℕ) → 0 < length xs
      → SpellsList (KeptStored schema attr) xs text → values_at schema attr (text ++ rest) ≡ Ok (xs, rest)
  unfolding values_at
  values_again attr xs text rest some s =
      rw (
        count_again (KeptStored schema attr) (stored_at schema attr) (stored_reader schema attr) xs text rest s,
        some_count (length xs) some,
      )
      (each_again (KeptStored schema attr) (stored_at schema attr) (stored_reader schema attr) xs s.behind rest
      s.follows)

  held_takes : (bytes : List ℕ) (held : Held) (rest : List ℕ) → IsBytes bytes → held_at schema bytes ≡ Ok (held, rest)
      → TakesFront (KeptHeld schema) bytes held rest
  unfolding held_at
  held_takes bytes held rest fits e =
      from_bind (or_fault Bad (be_at 4 bytes)) _ (held, rest) e
      (λ (attr : ℕ × List ℕ) (e1 : or_fault Bad (be_at 4 bytes) ≡ Ok attr)
      (e2 : (values_at schema attr.0 attr.1 >>= λ values. Ok (record { attr = attr.0; values = values.0 }, values.1))
      ≡ Ok (held, rest)).
      from_bind (values_at schema attr.0 attr.1) _ (held, rest) e2
      (λ (values : List Stored × List ℕ) (e3 : values_at schema attr.0 attr.1 ≡ Ok values)
      (e4 : Ok (record { attr = attr.0; values = values.0 }, values.1) ≡ Ok (held, rest)).
      let one : Held = record { attr = attr.0; values = values.0 } in
      let Listed : List Stored → List ℕ → Type 0 = λ ys t. (0 < length ys) × SpellsList (KeptStored schema attr.0) ys
      t in
      let t1 : TakesFront (SpellsBe 4) bytes attr.0 attr.1 = number_takes 4 bytes attr fits e1 in
      let t2 : TakesFront Listed attr.1 values.0 values.1 = values_takes attr.0 attr.1 values.0 values.1
      (rest_fits (SpellsBe 4) bytes attr.0 attr.1 fits t1) e3 in
      subst (λ (p : Held × List ℕ). TakesFront (KeptHeld schema) bytes p.0 p.1)
      (from_ok {E = BodyFault} (one, values.1) (held, rest) e4)
      (taken_as (λ (ys : List Stored). StartsWith (SpellsBe 4) attr.0 (Listed ys)) (KeptHeld schema) bytes values.0
      one values.1 fits
      (λ text _ s.
      let parts = list_parts (IsStoredValue schema attr.0) SpellsStored values.0 s.behind s.follows.1 in (
        record { some = s.follows.0; each = parts.0 },
        record
            { front = s.front; behind = s.behind; parts = s.parts; spelled = s.spelled; follows = parts.1 },
      ))
      (front_then (SpellsBe 4) Listed bytes attr.0 attr.1 values.0 values.1 t1 t2))))

  held_again : (held : Held) (text rest : List ℕ) → KeptHeld schema held text → held_at schema (text ++ rest)
      ≡ Ok (held, rest)
  unfolding held_at
  held_again held text rest s =
      let f = s.1 in
      rw (
        again_first (SpellsBe 4) (be_at 4) (be_reader 4) held.attr (SpellsList SpellsStored held.values) text rest f,
        values_again held.attr held.values f.behind rest s.0.some
            (list_with (IsStoredValue schema held.attr) SpellsStored held.values f.behind s.0.each f.follows),
      ) refl

  held_reader : IsReaderOf (KeptHeld schema) (held_at schema)
  held_reader = record { takes = held_takes; again = held_again }

  attributes_takes : (bytes : List ℕ) (values : List Held × List ℕ) → IsBytes bytes → attributes_at schema bytes
      ≡ Ok values
      → TakesFront (λ (hs : List Held) (t : List ℕ). (attrs_rise 0 hs ≡ true) × SpellsList (KeptHeld schema) hs t)
      bytes values.0 values.1
  unfolding attributes_at helds_at
  attributes_takes bytes values fits e =
      from_bind (list_at (held_at schema) bytes) _ values e
      (λ (all : List Held × List ℕ)
      (e1 : list_at (held_at schema) bytes ≡ Ok all) (e2 : (need (attrs_rise 0 all.0) Bad >>= λ _. Ok all) ≡ Ok values).
      from_need (attrs_rise 0 all.0) Bad (λ _. Ok all) values e2 (λ rise e3.
      subst (λ (p : List Held × List ℕ). TakesFront (λ (hs : List Held) (t : List ℕ). (attrs_rise 0 hs ≡ true)
      × SpellsList (KeptHeld schema) hs t) bytes p.0 p.1) (from_ok {E = BodyFault} all values e3)
      (taken_as (SpellsList (KeptHeld schema)) (λ (hs : List Held) (t : List ℕ). (attrs_rise 0 hs ≡ true)
      × SpellsList (KeptHeld schema) hs t) bytes all.0 all.0 all.1 fits
      (λ text _ s. (rise, s)) (list_takes (KeptHeld schema) (held_at schema) held_reader bytes all.0 all.1 fits e1))))

  attributes_again : (values : List Held) (text rest : List ℕ) → attrs_rise 0 values ≡ true
      → SpellsList (KeptHeld schema) values text → attributes_at schema (text ++ rest) ≡ Ok (values, rest)
  unfolding attributes_at helds_at
  attributes_again values text rest rise s
      = rw (list_again (KeptHeld schema) (held_at schema) held_reader values text rest s, rise) refl

-- ---- descriptors

pub sd_is : (sd : Sd) (text : List ℕ) → SpellsNormal sd text → sd_of text ≡ Ok sd
sd_is sd text s = rw (spelled_normal text sd s, spelled_in text sd s) refl

sd_takes : (bytes : List ℕ) (sd : Sd) → IsBytes bytes → sd_of bytes ≡ Ok sd → SpellsNormal sd bytes
sd_takes bytes sd fits e = by (is_normal bytes) refl
  where
    by : (b : Bool) → is_normal bytes ≡ b → SpellsNormal sd bytes
    by true is =
        let same : sd_in bytes ≡ sd = from_ok {E = BodyFault} (sd_in bytes) sd
        (sym (ap (λ (b : Bool). if b then Ok (sd_in bytes) else Err Bad) is) ∙ e) in
        subst (λ (x : Sd). SpellsNormal x bytes) same (normal_spelled bytes fits is)
    by false is = absurd (let clash : Err Bad ≡ Ok sd
        = sym (ap (λ (b : Bool). if b then Ok (sd_in bytes) else Err Bad) is) ∙ e in cc clash)

-- ---- objects

-- what is known of an object that was read
pub record IsReadAs (schema : Option (List SchemaRecord)) (number : ℕ) (o : Object) (body : List ℕ) : Type 0 where
  pub number_is : o.number ≡ number
  pub spelled : SpellsObject o body
  pub rise : attrs_rise 0 o.values ≡ true
  pub each : AllByRecursion (IsKeptHeld schema) o.values

pub object_takes : (schema : Option (List SchemaRecord)) (number : ℕ) (bytes : List ℕ) (o : Object) → IsBytes bytes
    → object_in schema number bytes ≡ Ok o → IsReadAs schema number o bytes
unfolding object_in
object_takes schema number bytes o fits e =
    from_bind (or_fault Bad (be_at 4 bytes)) _ o e (λ (parent : ℕ × List ℕ) e1 f1.
    from_bind (or_fault Bad (be_at 4 parent.1)) _ o f1 (λ (class : ℕ × List ℕ) e2 f2.
    from_bind (text_at class.1) _ o f2 (λ (name : List ℕ × List ℕ) e3 f3.
    from_bind (attributes_at schema name.1) _ o f3 (λ (values : List Held × List ℕ) e4 f4.
    from_bind (sd_of values.1) _ o f4 (λ (sd : Sd) e5 e6.
    let one : Object = record {
      number = number;
      parent = parent.0;
      class = class.0;
      name = name.0;
      values
          = values.0;
      sd = sd;
    } in
    let Listed : List Held → List ℕ → Type 0 = λ hs t. (attrs_rise 0 hs ≡ true) × SpellsList (KeptHeld schema) hs t in
    let tp : TakesFront (SpellsBe 4) bytes parent.0 parent.1 = number_takes 4 bytes parent fits e1 in
    let fp = rest_fits (SpellsBe 4) bytes parent.0 parent.1 fits tp in
    let tc : TakesFront (SpellsBe 4) parent.1 class.0 class.1 = number_takes 4 parent.1 class fp e2 in
    let fc = rest_fits (SpellsBe 4) parent.1 class.0 class.1 fp tc in
    let tn : TakesFront SpellsText class.1 name.0 name.1 = text_takes class.1 name.0 name.1 fc e3 in
    let fn = rest_fits SpellsText class.1 name.0 name.1 fc tn in
    let tv : TakesFront Listed name.1 values.0 values.1 = attributes_takes schema name.1 values fn e4 in
    let fv = rest_fits Listed name.1 values.0 values.1 fn tv in
    let parts = list_parts (IsKeptHeld schema) SpellsHeld values.0 tv.text tv.spelled.1 in
    let th : TakesFront (SpellsList SpellsHeld) name.1 values.0 values.1
    = record { text = tv.text; parts = tv.parts; spelled = parts.1 } in
    let ts : TakesFront SpellsNormal values.1 sd []
    = record { text = values.1; parts = sym (append-nil values.1); spelled = sd_takes values.1 sd fv e5 } in
    let V : Sd → List ℕ → Type 0 = λ z. StartsWith (SpellsList SpellsHeld) values.0 (SpellsNormal z) in
    let N : Sd → List ℕ → Type 0 = λ z. StartsWith SpellsText name.0 (V z) in
    let C : Sd → List ℕ → Type 0 = λ z. StartsWith (SpellsBe 4) class.0 (N z) in
    let P : Sd → List ℕ → Type 0 = λ z. StartsWith (SpellsBe 4) parent.0 (C z) in
    let v : TakesFront V name.1 sd [] = front_then (SpellsList SpellsHeld) SpellsNormal name.1 values.0 values.1 sd []
    th ts in
    let n : TakesFront N class.1 sd [] = front_then SpellsText V class.1 name.0 name.1 sd [] tn v in
    let c : TakesFront C parent.1 sd [] = front_then (SpellsBe 4) N parent.1 class.0 class.1 sd [] tc n in
    let p : TakesFront P bytes sd [] = front_then (SpellsBe 4) C bytes parent.0 parent.1 sd [] tp c in
    subst (λ (x : Object). IsReadAs schema number x bytes) (from_ok {E = BodyFault} one o e6)
    (record { number_is = refl; spelled = taken_whole P bytes sd p; rise = tv.spelled.0; each = parts.0 }))))))

object_whole : (schema : Option (List SchemaRecord)) (number : ℕ) (o : Object) (body : List ℕ)
    → IsReadAs schema number o body → object_in schema o.number (body ++ []) ≡ Ok o
unfolding object_in
object_whole schema number o body is =
    let s = is.spelled in
    let c = s.follows in
    let n = c.follows in
    let v = n.follows in
    let sd : sd_of (v.behind ++ []) ≡ Ok o.sd = ap sd_of (append-nil v.behind) ∙ sd_is o.sd v.behind v.follows in
    let all = list_with (IsKeptHeld schema) SpellsHeld o.values v.front is.each v.spelled in
    let values : attributes_at schema (n.behind ++ []) ≡ Ok (o.values, v.behind ++ []) =
    ap (attributes_at schema) (ap (λ (t : List ℕ). t ++ []) v.parts ∙ append_assoc v.front v.behind [])
    ∙ attributes_again schema o.values v.front (v.behind ++ []) is.rise all in
    rw (
      again_first (SpellsBe 4) (be_at 4) (be_reader 4) o.parent _ body [] s,
      again_first (SpellsBe 4) (be_at 4) (be_reader 4) o.class _ s.behind [] c,
      again_first SpellsText text_at text_reader o.name _ c.behind [] n,
      values,
      sd,
    ) refl

pub object_again : (schema : Option (List SchemaRecord)) (number : ℕ) (o : Object) (body : List ℕ)
    → IsReadAs schema number o body → object_in schema number body ≡ Ok o
object_again schema number o body is =
    subst (λ (n : ℕ). object_in schema n body ≡ Ok o) is.number_is
    (ap (object_in schema o.number) (sym (append-nil body)) ∙ object_whole schema number o body is)
