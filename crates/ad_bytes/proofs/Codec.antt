-- The primitive readers are those of their formats.
use Rattle.std.proofs.Common.{Bool, ◌≡◌, ℕ, ◌+◌, ◌-◌, ◌≤◌, false, ltb, List, [], ◌∷◌, ◌++◌, length, take, drop}
use Rattle.std.proofs.Common.{Result, Ok, Err, refl, sym, ap, subst, ◌∙◌, append_assoc, arith, inl, inr}
use Rattle.std.specs.Prelude.{IfOk}
use Rattle.std.proofs.lemmas.Bool.{cases_lt, ltb-false, le-ltb}
use Rattle.std.proofs.lemmas.List.{take_at, drop_at, take-append-drop, length-append, length-take, get_or_append_left}
use Rattle.std.proofs.lemmas.List.{get_or-append-add, get_or_past}
use Rattle.byteorder.specs.Endian.{big_number, little_number}
use Rattle.byteorder.specs.Numbers.{big_number-reads_back, little_number-reads_back, length-bytes_high_first}
use Rattle.byteorder.specs.Numbers.{length-bytes_low_first, big_from-lt, little_from-lt}
use Rattle.ad_bytes.specs.Reading.{IsBytes, Reading, or_fault, fault_as, TakesFront, StartsWith, IsReaderOf}
use Rattle.ad_bytes.specs.Reading.{ReadsUnless, GivesUnless}
use Rattle.ad_bytes.specs.Numbers.{be_bytes, le_bytes, short, byte_at, be_at, le_at, part_at, SpellsBe, SpellsLe}
use Rattle.ad_bytes.specs.Numbers.{SpellsByte, SpellsPart}
use Rattle.ad_bytes.proofs.NumberBytes.{high_again, low_again}
use Rattle.ad_bytes.proofs.Steps.{from_guard, from_ok, from_or_fault, from_fault_as}

-- ---- the prefix and the rest of bytes

pub IsBytes-front : (text rest : List ℕ) → IsBytes (text ++ rest) → IsBytes text
IsBytes-front text rest h i =
    elim (cases_lt i (length text)) [
      | inl lt ↦ rw (sym (get_or_append_left text rest 0 i lt)) (h i)
      | inr le ↦ rw (get_or_past text i 0 le) (omega arith)
    ]

pub IsBytes-back : (text rest : List ℕ) → IsBytes (text ++ rest) → IsBytes rest
IsBytes-back text rest h i = rw (sym (get_or-append-add text rest i 0)) (h (length text + i))

-- the bytes after what was taken are bytes
pub rest_fits : {A : Type 0} (Spells : A → List ℕ → Type 0) (bytes : List ℕ) (value : A) (rest : List ℕ)
    → IsBytes bytes → TakesFront Spells bytes value rest → IsBytes rest
rest_fits Spells bytes value rest fits t = IsBytes-back t.text rest (subst IsBytes t.parts fits)

-- one part, and then what follows it
pub front_then : {A B : Type 0} (Spells : A → List ℕ → Type 0) (Follows : B → List ℕ → Type 0) (bytes : List ℕ)
    (x : A) (middle : List ℕ) (y : B) (rest : List ℕ)
    → TakesFront Spells bytes x middle → TakesFront Follows middle y rest
    → TakesFront (λ (z : B). StartsWith Spells x (Follows z)) bytes y rest
front_then Spells Follows bytes x middle y rest t u =
    record {
      text = t.text ++ u.text;
      parts = t.parts ∙ ap (λ (r : List ℕ). t.text ++ r) u.parts ∙ sym (append_assoc t.text u.text rest);
      spelled = record { front = t.text; behind = u.text; parts = refl; spelled = t.spelled; follows = u.spelled };
    }

-- what a text starts with is read, whatever follows
pub again_first : {A E : Type 0} (Spells : A → List ℕ → Type 0) (read : List ℕ → Reading A E) → IsReaderOf Spells read
    → (x : A) (Follows : List ℕ → Type 0) (text rest : List ℕ) (s : StartsWith Spells x Follows text)
    → read (text ++ rest) ≡ Ok (x, s.behind ++ rest)
again_first Spells read reader x Follows text rest s =
    ap read (ap (λ (t : List ℕ). t ++ rest) s.parts ∙ append_assoc s.front s.behind rest)
    ∙ reader.again x s.front (s.behind ++ rest) s.spelled

-- a format's reader, under other names of its faults
pub or_fault_reader : {A E F : Type 0} (Spells : A → List ℕ → Type 0) (read : List ℕ → Reading A E) (d : F)
    → IsReaderOf Spells read → IsReaderOf Spells (λ bytes. or_fault d (read bytes))
or_fault_reader Spells read d reader = record {
  takes = λ bytes x rest fits e. reader.takes bytes x rest fits (from_or_fault d (read bytes) (x, rest) e);
  again = λ x text rest s. rw (reader.again x text rest s) refl;
}

pub fault_as_reader : {A E F : Type 0} (Spells : A → List ℕ → Type 0) (read : List ℕ → Reading A E) (name : E → F)
    → IsReaderOf Spells read → IsReaderOf Spells (λ bytes. fault_as name (read bytes))
fault_as_reader Spells read name reader = record {
  takes = λ bytes x rest fits e. reader.takes bytes x rest fits (from_fault_as name (read bytes) (x, rest) e);
  again = λ x text rest s. rw (reader.again x text rest s) refl;
}

-- ---- the next byte

byte_takes : (bytes : List ℕ) (b : ℕ) (rest : List ℕ) → IsBytes bytes → byte_at bytes ≡ Ok (b, rest)
    → TakesFront SpellsByte bytes b rest
unfolding byte_at
byte_takes [] b rest fits e = absurd cc
byte_takes (a ∷ bytes) b rest fits e =
    let same : (a, bytes) ≡ (b, rest) = from_ok (a, bytes) (b, rest) e in
    subst (λ (p : ℕ × List ℕ). TakesFront SpellsByte (a ∷ bytes) p.0 p.1) same
    (record { text = a ∷ []; parts = refl; spelled = (fits 0, refl) })

byte_again : (b : ℕ) (text rest : List ℕ) → SpellsByte b text → byte_at (text ++ rest) ≡ Ok (b, rest)
unfolding byte_at
byte_again b text rest s = rw s.1 refl

pub byte_reader : IsReaderOf SpellsByte byte_at
byte_reader = record { takes = byte_takes; again = byte_again }

-- a byte that was read stands before what is left
pub byte_parts : (bytes : List ℕ) (b : ℕ) (rest : List ℕ) → IsBytes bytes → byte_at bytes ≡ Ok (b, rest) → bytes ≡ b
    ∷ rest
byte_parts bytes b rest fits e =
    let t = byte_takes bytes b rest fits e in
    t.parts ∙ rw t.spelled.1 refl

-- ---- a part of a given length

part_takes : (n : ℕ) (bytes part rest : List ℕ) → IsBytes bytes → part_at n bytes ≡ Ok (part, rest)
    → TakesFront (SpellsPart n) bytes part rest
unfolding part_at
part_takes n bytes part rest fits e =
    from_guard (ltb (length bytes) n) short (take n bytes, drop n bytes) (part, rest) e
    (λ (long : ltb (length bytes) n ≡ false) (same : (take n bytes, drop n bytes) ≡ (part, rest)).
    let le : n ≤ length bytes = ltb-false _ _ long in
    subst (λ (p : List ℕ × List ℕ). TakesFront (SpellsPart n) bytes p.0 p.1) same
    (record {
      text = take n bytes;
      parts = sym (take-append-drop n bytes);
      spelled
          = (omega (arith, length-take n bytes), refl);
    }))

part_again : (n : ℕ) (part text rest : List ℕ) → SpellsPart n part text → part_at n (text ++ rest) ≡ Ok (part, rest)
unfolding part_at
part_again n part text rest s =
    let len : length text ≡ n = rw s.1 s.0 in
    let long : ltb (length (text ++ rest)) n ≡ false = le-ltb _ _ (omega (arith, length-append text rest)) in
    rw (long, take_at text rest n len, drop_at text rest n len, s.1) refl

pub part_reader : (n : ℕ) → IsReaderOf (SpellsPart n) (part_at n)
part_reader n = record { takes = part_takes n; again = part_again n }

-- ---- numbers

pub length-be_bytes : (n x : ℕ) → length (be_bytes n x) ≡ n
unfolding be_bytes
length-be_bytes n x = length-bytes_high_first n x

be_takes : (n : ℕ) (bytes : List ℕ) (x : ℕ) (rest : List ℕ) → IsBytes bytes → be_at n bytes ≡ Ok (x, rest)
    → TakesFront (SpellsBe n) bytes x rest
unfolding be_at be_bytes
be_takes n bytes x rest fits e =
    from_guard (ltb (length bytes) n) short (big_number n bytes, drop n bytes) (x, rest) e
    (λ (long : ltb (length bytes) n ≡ false) (same : (big_number n bytes, drop n bytes) ≡ (x, rest)).
    let le : n ≤ length bytes = ltb-false _ _ long in
    let text : be_bytes n (big_number n bytes) ≡ take n bytes = high_again n bytes le fits in
    subst (λ (p : ℕ × List ℕ). TakesFront (SpellsBe n) bytes p.0 p.1) same
    (record {
      text = be_bytes n (big_number n bytes);
      parts = rw text (sym (take-append-drop n bytes));
      spelled
          = (big_from-lt 0 n bytes fits, refl);
    }))

be_again : (n x : ℕ) (text rest : List ℕ) → SpellsBe n x text → be_at n (text ++ rest) ≡ Ok (x, rest)
unfolding be_at be_bytes
be_again n x text rest s =
    let len : length text ≡ n = rw s.1 (length-be_bytes n x) in
    let long : ltb (length (text ++ rest)) n ≡ false = le-ltb _ _ (omega (arith, length-append text rest)) in
    let number : big_number n (text ++ rest) ≡ x = rw s.1 (big_number-reads_back n x rest s.0) in
    rw (long, number, drop_at text rest n len) refl

pub be_reader : (n : ℕ) → IsReaderOf (SpellsBe n) (be_at n)
be_reader n = record { takes = be_takes n; again = be_again n }

pub length-le_bytes : (n x : ℕ) → length (le_bytes n x) ≡ n
unfolding le_bytes
length-le_bytes n x = length-bytes_low_first 0 n x

le_takes : (n : ℕ) (bytes : List ℕ) (x : ℕ) (rest : List ℕ) → IsBytes bytes → le_at n bytes ≡ Ok (x, rest)
    → TakesFront (SpellsLe n) bytes x rest
unfolding le_at le_bytes
le_takes n bytes x rest fits e =
    from_guard (ltb (length bytes) n) short (little_number n bytes, drop n bytes) (x, rest) e
    (λ (long : ltb (length bytes) n ≡ false) (same : (little_number n bytes, drop n bytes) ≡ (x, rest)).
    let le : n ≤ length bytes = ltb-false _ _ long in
    let text : le_bytes n (little_number n bytes) ≡ take n bytes = low_again n bytes le fits in
    subst (λ (p : ℕ × List ℕ). TakesFront (SpellsLe n) bytes p.0 p.1) same
    (record {
      text = le_bytes n (little_number n bytes);
      parts = rw text (sym (take-append-drop n bytes));
      spelled
          = (little_from-lt 0 n bytes fits, refl);
    }))

le_again : (n x : ℕ) (text rest : List ℕ) → SpellsLe n x text → le_at n (text ++ rest) ≡ Ok (x, rest)
unfolding le_at le_bytes
le_again n x text rest s =
    let len : length text ≡ n = rw s.1 (length-le_bytes n x) in
    let long : ltb (length (text ++ rest)) n ≡ false = le-ltb _ _ (omega (arith, length-append text rest)) in
    let number : little_number n (text ++ rest) ≡ x = rw s.1 (little_number-reads_back n x rest s.0) in
    rw (long, number, drop_at text rest n len) refl

pub le_reader : (n : ℕ) → IsReaderOf (SpellsLe n) (le_at n)
le_reader n = record { takes = le_takes n; again = le_again n }

-- ---- what a reader of all its bytes says

-- the rest that was left is what stands after the bytes that were taken
pub rest-drop : (bytes text rest : List ℕ) → bytes ≡ text ++ rest → drop (length bytes - length rest) bytes ≡ rest
rest-drop bytes text rest e =
    let n : length bytes - length rest ≡ length text = omega (arith, ap length e, length-append text rest) in
    rw (n, e) (drop_at text rest (length text) refl)

-- what was taken, by the number of bytes left
pub found_front : {A : Type 0} (Spells : A → List ℕ → Type 0) (bytes : List ℕ) (value : A) (rest : List ℕ)
    → TakesFront Spells bytes value rest → TakesFront Spells bytes value (drop (length bytes - length rest) bytes)
found_front Spells bytes value rest t = record {
  text = t.text;
  parts = t.parts ∙ ap (λ (r : List ℕ). t.text ++ r) (sym (rest-drop bytes t.text rest t.parts));
  spelled = t.spelled;
}

pub left_le : {A : Type 0} (Spells : A → List ℕ → Type 0) (bytes : List ℕ) (value : A) (rest : List ℕ)
    → TakesFront Spells bytes value rest → length rest ≤ length bytes
left_le Spells bytes value rest t = omega (arith, ap length t.parts, length-append t.text rest)

-- bytes that begin with an encoding are read as its value
pub only_found : {A E : Type 0} (Spells : A → List ℕ → Type 0) (read : List ℕ → Reading A E) → IsReaderOf Spells read
    → (bytes : List ℕ) (value : A) (left : List ℕ) → read bytes ≡ Ok (value, left)
    → (other : A) (text rest : List ℕ) → Spells other text → bytes ≡ text ++ rest → (value ≡ other)
    × (length bytes - length left ≡ length text)
only_found {A = A} {E = E} Spells read reader bytes value left e other text rest s parts =
    let same : (value, left) ≡ (other, rest) = from_ok {E = E} (value, left) (other, rest)
    (sym e ∙ ap read parts ∙ reader.again other text rest s) in
    let n : length bytes - length rest ≡ length text = omega (arith, ap length parts, length-append text rest) in
    (ap (λ (p : A × List ℕ). p.0) same, ap (λ (p : A × List ℕ). length bytes - length p.1) same ∙ n)

no_both : {A E : Type 0} (r : Result A E) (fault : E) (x : A) → r ≡ Err fault → r ≡ Ok x → ⊥
no_both (Ok y) fault x p q = absurd cc
no_both (Err y) fault x p q = absurd cc

-- bytes that have a fault begin with no encoding
pub none_found : {A E : Type 0} (Spells : A → List ℕ → Type 0) (read : List ℕ → Reading A E) → IsReaderOf Spells read
    → (bytes : List ℕ) (fault : E) → read bytes ≡ Err fault → (other : A) (text rest : List ℕ) → Spells other text
    → bytes ≡ text ++ rest → ⊥
none_found {A = A} {E = E} Spells read reader bytes fault e other text rest s parts =
    no_both (read bytes) fault (other, rest) e (ap read parts ∙ reader.again other text rest s)

-- ---- what a reader that takes memory says

-- what was read is an encoding
pub found_unless : {A E X : Type 0} (Spells : A → List ℕ → Type 0) (read : List ℕ → Reading A E)
    → IsReaderOf Spells read
    → (is_memory : E → Bool) (view : X → A) (result : Result X E) (left bytes : List ℕ) → IsBytes bytes
    → ReadsUnless is_memory view result left (read bytes)
    → IfOk result (λ x. (rest : List ℕ) × TakesFront Spells bytes (view x) rest)
found_unless Spells read reader is_memory view (Ok x) left bytes fits e
    = (left, reader.takes bytes (view x) left fits e)
found_unless Spells read reader is_memory view (Err fault) left bytes fits e = tt

-- whatever is encoded is read, unless memory ran out
pub only_unless : {A E X : Type 0} (Spells : A → List ℕ → Type 0) (read : List ℕ → Reading A E) → IsReaderOf Spells read
    → (is_memory : E → Bool) (view : X → A) (result : Result X E) (left bytes : List ℕ) → ReadsUnless is_memory view
    result left (read bytes)
    → (value : A) (text rest : List ℕ) → Spells value text → bytes ≡ text ++ rest → GivesUnless is_memory view result
    (Ok value)
only_unless Spells read reader is_memory view (Ok x) left bytes e value text rest s parts
    = ap (λ (v : _). Ok v) (sym (only_found Spells read reader bytes (view x) left e value text rest s parts).0)
only_unless Spells read reader is_memory view (Err fault) left bytes e value text rest s parts = λ h.
    absurd (none_found Spells read reader bytes fault (e h) value text rest s parts)
