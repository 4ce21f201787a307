-- What a text encodes is a name, and what is written of a name is one of its texts.
use Rattle.std.proofs.Common.{Bool, eqb, ◌≡◌, ◌⊎◌, inl, inr, ℕ, zero, suc, ◌+◌, ◌-◌, ◌*◌, ◌/◌, ◌%◌, ◌<◌, ◌≤◌, true}
use Rattle.std.proofs.Common.{false, if◌then◌else◌, List, []}
use Rattle.std.proofs.Common.{◌∷◌, ◌++◌, map, refl, sym, ap, subst, ◌∙◌, append_assoc, arith, lt-ltb, le-ltb}
use Rattle.std.specs.Prelude.{◌&&◌, ◌||◌, not, slice_index}
use Rattle.std.specs.List.{AllByRecursion, list_all}
use Rattle.std.specs.Char.{to_ascii_uppercase}
use Rattle.std.specs.Str.{IsUtf8, str_to_ascii_uppercase}
use Rattle.std.proofs.lemmas.Bool.{cases_Bool, cases_lt, and_parts, or_parts, eqb-true}
use Rattle.std.proofs.lemmas.Bool.Decides.{nat_tests}
use Rattle.std.proofs.lemmas.List.{append-nil}
use Rattle.ad_dn.specs.declared.rdn.Rdn.{Rdn}
use Rattle.ad_dn.specs.AttributeType.{is_letter, is_type_byte, is_type, IsType}
use Rattle.ad_dn.specs.Value.{IsAttributeType, IsValue, IsRdn, AreRdns}
use Rattle.uuid.specs.Text.{hex_digit, upper, is_hex_digit, value_of}
use Rattle.ad_dn.specs.Grammar.{is_reserved, is_special, Piece, plain, marked, piece_byte, IsPiece}
use Rattle.ad_dn.specs.Grammar.{may_be_first, may_be_last, BeginsWell, EndsWell, SpellsValue, SpellsAttributeType}
use Rattle.ad_dn.specs.Grammar.{SpellsRdn}
use Rattle.ad_dn.specs.Grammar.{SpellsOthers, SpellsRdns}
use Rattle.ad_dn.specs.Utf8State.{nothing_due}
use Rattle.ad_dn.specs.Text.{digits_of, piece_of, piece_at, in_digits, pieces_after, pieces_of, value_text, rdn_text}
use Rattle.ad_dn.specs.Text.{others_text, rdns_text}
use Rattle.ad_dn.proofs.Utf8.{utf8_fills}
use Rattle.ad_dn.proofs.Follow.{nothing_is_due}
use Rattle.ad_dn.proofs.InDigits.{upper_digit, IsSmall, small_bytes, no_nul}

-- ---- what is encoded is a name

-- an upper-case letter of a lower-case one, and no change of another byte
upper_cases : (b : ℕ) → ((97 ≤ b) × (b ≤ 122) × (to_ascii_uppercase b ≡ b - 32))
    ⊎ (((b < 97) ⊎ (122 < b)) × (to_ascii_uppercase b ≡ b))
upper_cases b = elim (cases_lt b 97) [
  | inl low ↦ inr (inl low, rw (lt-ltb b 97 low) refl)
  | inr high ↦ elim (cases_lt b 123) [
    | inl within ↦ inl (high, omega (arith, within), rw (le-ltb b 97 high, lt-ltb b 123 within) refl)
    | inr over ↦ inr (inr (omega (arith, over)), rw (le-ltb b 97 high, le-ltb b 123 over) refl)
  ]
]

upper_twice : (b : ℕ) → to_ascii_uppercase (to_ascii_uppercase b) ≡ to_ascii_uppercase b
upper_twice b = elim (upper_cases b) [
  | inl l ↦
      let small : b - 32 < 97 = omega (arith, l.0, l.1) in
      ap to_ascii_uppercase l.2 ∙ rw (lt-ltb (b - 32) 97 small) (sym l.2)
  | inr o ↦ ap to_ascii_uppercase o.1
]

upper_letter : (b : ℕ) → is_letter b ≡ true → is_letter (to_ascii_uppercase b) ≡ true
upper_letter b e = elim (upper_cases b) [
  | inl l ↦ ap is_letter l.2 ∙ lower b l.0 l.1
  | inr o ↦ ap is_letter o.1 ∙ e
]
  where
    lower : (n : ℕ) → 97 ≤ n → n ≤ 122 → is_letter (n - 32) ≡ true
    lower n l h = grind (arith, nat_tests)

upper_byte : (b : ℕ) → is_type_byte b ≡ true → is_type_byte (to_ascii_uppercase b) ≡ true
upper_byte b e = elim (upper_cases b) [
  | inl l ↦ ap is_type_byte l.2 ∙ lower b l.0 l.1
  | inr o ↦ ap is_type_byte o.1 ∙ e
]
  where
    lower : (n : ℕ) → 97 ≤ n → n ≤ 122 → is_type_byte (n - 32) ≡ true
    lower n l h = grind (arith, nat_tests)

all_twice : (bytes : List ℕ) → str_to_ascii_uppercase (str_to_ascii_uppercase bytes) ≡ str_to_ascii_uppercase bytes
all_twice [] = refl
all_twice (b ∷ bytes) = ap (λ (x : ℕ). x ∷ str_to_ascii_uppercase (str_to_ascii_uppercase bytes)) (upper_twice b)
    ∙ ap (λ (l : List ℕ). to_ascii_uppercase b ∷ l) (all_twice bytes)

both : (x y : Bool) → x ≡ true → y ≡ true → (x && y) ≡ true
both x y e f = ap (λ t. t && y) e ∙ f

all_upper : (bytes : List ℕ) → list_all is_type_byte bytes ≡ true
    → list_all is_type_byte (str_to_ascii_uppercase bytes) ≡ true
all_upper [] e = refl
all_upper (b ∷ bytes) e =
    let p = and_parts (is_type_byte b) (list_all is_type_byte bytes) e in
    both (is_type_byte (to_ascii_uppercase b)) (list_all is_type_byte (str_to_ascii_uppercase bytes))
    (upper_byte b p.0) (all_upper bytes p.1)

type_upper : (text : List ℕ) → is_type text ≡ true → is_type (str_to_ascii_uppercase text) ≡ true
type_upper [] e = e
type_upper (b ∷ bytes) e =
    let p = and_parts (is_letter b) (list_all is_type_byte bytes) e in
    both (is_letter (to_ascii_uppercase b)) (list_all is_type_byte (str_to_ascii_uppercase bytes))
    (upper_letter b p.0) (all_upper bytes p.1)

kind_is : (kind text : List ℕ) → SpellsAttributeType kind text → IsAttributeType kind
kind_is kind text s = subst IsAttributeType (sym s.upper)
    (record { form = type_upper text s.is_type; upper = all_twice text })

rdn_is : (rdn : Rdn) (text : List ℕ) → SpellsRdn rdn text → IsRdn rdn
rdn_is rdn text s = record { kind = kind_is rdn.kind s.kind s.spells_type; value = s.spells_value.is_value }

others_are : (rdns : List Rdn) (text : List ℕ) → SpellsOthers rdns text → AreRdns rdns
others_are [] text s = tt
others_are (rdn ∷ rdns) text s = let j = s.is_others
    in (rdn_is rdn j.first j.is_first, others_are rdns j.rest j.is_rest)

pub spelled_are : (rdns : List Rdn) (text : List ℕ) → SpellsRdns rdns text → AreRdns rdns
spelled_are [] text s = tt
spelled_are (rdn ∷ rdns) text s = (rdn_is rdn s.first s.is_first, others_are rdns s.rest s.is_rest)

-- ---- what is written is encoded so

-- a piece that is written of a byte
record Piecewise (b : ℕ) (p : Piece) : Type 0 where
  is : IsPiece p
  byte : b ≡ piece_byte p
  first : eqb b 32 ≡ false → eqb b 35 ≡ false → may_be_first p ≡ true
  last : eqb b 32 ≡ false → may_be_last p ≡ true

if_piece : (b : ℕ) (t : Bool) (p q : Piece) → (t ≡ true → Piecewise b p) → (t ≡ false → Piecewise b q)
    → Piecewise b (if t then p else q)
if_piece b true p q f g = f refl
if_piece b false p q f g = g refl

special_piece : (b : ℕ) → is_special b ≡ true → Piecewise b (marked b)
special_piece b e = record { is = e; byte = refl; first = λ x y. refl; last = λ x. refl }

reserved_special : (b : ℕ) → is_reserved b ≡ true → is_special b ≡ true
reserved_special b e = ap (λ (t : Bool). t || eqb b 32 || eqb b 35 || eqb b 61) e

digits_is : (b : ℕ) → b < 256 → Piecewise b (digits_of b)
digits_is b small =
    let high = upper_digit (b / 16) (omega (arith, small)) in
    let low = upper_digit (b % 16) (omega arith) in
    record {
      is = both (is_hex_digit (hex_digit upper (b / 16))) (is_hex_digit (hex_digit upper (b % 16))) high.digit low.digit;
      byte = whole (value_of (hex_digit upper (b / 16))) (value_of (hex_digit upper (b % 16))) high.value low.value;
      first = λ x y. refl;
      last = λ x. refl;
    }
  where
    whole : (x y : ℕ) → x ≡ b / 16 → y ≡ b % 16 → b ≡ 16 * x + y
    whole x y e f = omega (arith, e, f)

piece_of_is : (b : ℕ) → eqb b 0 ≡ false → Piecewise b (piece_of b)
piece_of_is b some = if_piece b (is_reserved b) (marked b) (plain b)
    (λ reserved. special_piece b (reserved_special b reserved))
    (λ other. record {
      is = both (not (is_reserved b)) (not (eqb b 0)) (ap not other) (ap not some);
      byte = refl;
      first = λ x y. both (not (eqb b 32)) (not (eqb b 35)) (ap not x) (ap not y);
      last = λ x. ap not x;
    })

blank_special : (b : ℕ) → b ≡ 32 → is_special b ≡ true
blank_special b e = ap is_special e

hash_special : (b : ℕ) → b ≡ 35 → is_special b ≡ true
hash_special b e = ap is_special e

first_special : (b : ℕ) → (eqb b 32 || eqb b 35) ≡ true → is_special b ≡ true
first_special b e = elim (cases_Bool (eqb b 32)) [
  | inl blank ↦ blank_special b (eqb-true b 32 blank)
  | inr other ↦ hash_special b (eqb-true b 35 (sym (ap (λ (t : Bool). t || eqb b 35) other) ∙ e))
]

-- a piece of a byte that may also be the first
pub record IsPieceOf (b : ℕ) (p : Piece) : Type 0 where
  pub is : IsPiece p
  pub byte : b ≡ piece_byte p
  pub first : eqb b 32 ≡ false → eqb b 35 ≡ false → may_be_first p ≡ true

if_piece_of : (b : ℕ) (t : Bool) (p q : Piece) → (t ≡ true → IsPieceOf b p) → (t ≡ false → IsPieceOf b q)
    → IsPieceOf b (if t then p else q)
if_piece_of b true p q f g = f refl
if_piece_of b false p q f g = g refl

of_piece : (b : ℕ) (p : Piece) → Piecewise b p → IsPieceOf b p
of_piece b p h = record { is = h.is; byte = h.byte; first = h.first }

-- the piece of a byte before these, which isn't NUL where it isn't written in digits
pub at_is : (n b : ℕ) (bytes : List ℕ) → b < 256 → (n ≡ 0 → eqb b 0 ≡ false) → IsPieceOf b (piece_at n b bytes)
at_is (suc n) b bytes small some = of_piece b (digits_of b) (digits_is b small)
at_is zero b [] small some = if_piece_of b (eqb b 32) (marked b) (piece_of b)
    (λ e. record { is = blank_special b (eqb-true b 32 e); byte = refl; first = λ x y. refl })
    (λ e. of_piece b (piece_of b) (piece_of_is b (some refl)))
at_is zero b (c ∷ bytes) small some = of_piece b (piece_of b) (piece_of_is b (some refl))

-- where nothing is written in digits from here on, no NUL stands here
pub no_nul_at : (n b : ℕ) (bytes : List ℕ) → in_digits n (b ∷ bytes) ≡ 0 → eqb b 0 ≡ false
no_nul_at zero b bytes e = no_nul b (slice_index bytes 0) (slice_index bytes 1) e
no_nul_at (suc n) b bytes e = absurd (omega (arith, e))

pub after_is : (n b : ℕ) (bytes : List ℕ) → b < 256
    → IsPieceOf b (piece_at (in_digits n (b ∷ bytes)) b bytes)
after_is n b bytes small = at_is (in_digits n (b ∷ bytes)) b bytes small (no_nul_at n b bytes)

after_are : (n : ℕ) (bytes : List ℕ) → AllByRecursion IsSmall bytes → AllByRecursion IsPiece (pieces_after n bytes)
after_are n [] small = tt
after_are n (b ∷ bytes) small =
    ((after_is n b bytes small.0).is, after_are (in_digits n (b ∷ bytes) - 1) bytes small.1)

after_bytes : (n : ℕ) (bytes : List ℕ) → AllByRecursion IsSmall bytes
    → bytes ≡ map piece_byte (pieces_after n bytes)
after_bytes n [] small = refl
after_bytes n (b ∷ bytes) small =
    let m = in_digits n (b ∷ bytes) in
    ap (λ (x : ℕ). x ∷ bytes) (after_is n b bytes small.0).byte
    ∙ ap (λ (l : List ℕ). piece_byte (piece_at m b bytes) ∷ l) (after_bytes (m - 1) bytes small.1)

last_ends : (b : ℕ) (t : Bool) → eqb b 32 ≡ t → may_be_last (if t then marked b else piece_of b) ≡ true
last_ends b true e = refl
last_ends b false e = by (is_reserved b)
  where
    by : (r : Bool) → may_be_last (if r then marked b else plain b) ≡ true
    by true = refl
    by false = ap not e

at_ends : (n b : ℕ) → may_be_last (piece_at n b []) ≡ true
at_ends (suc n) b = refl
at_ends zero b = last_ends b (eqb b 32) refl

after_end : (p : Piece) (n b : ℕ) (bytes : List ℕ) → EndsWell (p ∷ pieces_after n (b ∷ bytes))
after_end p n b [] = at_ends (in_digits n (b ∷ [])) b
after_end p n b (c ∷ bytes) =
    let m = in_digits n (b ∷ c ∷ bytes) in
    after_end (piece_at m b (c ∷ bytes)) (m - 1) c bytes

-- what the pieces of a value are
record AreWell (value : List ℕ) (pieces : List Piece) : Type 0 where
  are : AllByRecursion IsPiece pieces
  begins : BeginsWell pieces
  ends : EndsWell pieces
  bytes : value ≡ map piece_byte pieces

marked_well : (b : ℕ) (bytes : List ℕ) → AllByRecursion IsSmall (b ∷ bytes) → (eqb b 32 || eqb b 35) ≡ true
    → AreWell (b ∷ bytes) (marked b ∷ pieces_after 0 bytes)
marked_well b bytes small e = record {
  are = (first_special b e, after_are 0 bytes small.1);
  begins = refl;
  ends = end bytes;
  bytes = ap (λ (l : List ℕ). b ∷ l) (after_bytes 0 bytes small.1);
}
  where
    end : (l : List ℕ) → EndsWell (marked b ∷ pieces_after 0 l)
    end [] = refl
    end (c ∷ l) = after_end (marked b) 0 c l

others_well : (b : ℕ) (bytes : List ℕ) → AllByRecursion IsSmall (b ∷ bytes) → (eqb b 32 || eqb b 35) ≡ false
    → AreWell (b ∷ bytes) (pieces_after 0 (b ∷ bytes))
others_well b bytes small e =
    let q = or_parts (eqb b 32) (eqb b 35) e in
    record {
      are = after_are 0 (b ∷ bytes) small;
      begins = (after_is 0 b bytes small.0).first q.0 q.1;
      ends = end bytes;
      bytes = after_bytes 0 (b ∷ bytes) small;
    }
  where
    end : (l : List ℕ) → EndsWell (pieces_after 0 (b ∷ l))
    end [] = at_ends (in_digits 0 (b ∷ [])) b
    end (c ∷ l) =
        let m = in_digits 0 (b ∷ c ∷ l) in
        after_end (piece_at m b (c ∷ l)) (m - 1) c l

all_well : (b : ℕ) (bytes : List ℕ) → AllByRecursion IsSmall (b ∷ bytes)
    → AreWell (b ∷ bytes) (pieces_of (b ∷ bytes))
all_well b bytes small = by (eqb b 32 || eqb b 35) refl
  where
    by : (t : Bool) → (eqb b 32 || eqb b 35) ≡ t
        → AreWell (b ∷ bytes) (if t then marked b ∷ pieces_after 0 bytes else pieces_after 0 (b ∷ bytes))
    by true e = marked_well b bytes small e
    by false e = others_well b bytes small e

-- UTF-8 is bytes
pub value_small : (value : List ℕ) → IsUtf8 value → AllByRecursion IsSmall value
value_small value u = small_bytes nothing_due value nothing_is_due (utf8_fills nothing_due value refl u)

value_spelled : (value : List ℕ) → IsValue value → SpellsValue value (value_text value)
unfolding value_text
value_spelled [] v = absurd (omega (arith, v.at_least_one))
value_spelled (b ∷ bytes) v =
    let w = all_well b bytes (value_small (b ∷ bytes) v.utf8) in
    record {
      is_value = v;
      pieces = pieces_of (b ∷ bytes);
      are_pieces = w.are;
      begins = w.begins;
      ends = w.ends;
      bytes = w.bytes;
      parts = refl;
    }

rdn_spelled : (rdn : Rdn) → IsRdn rdn → SpellsRdn rdn (rdn_text rdn)
rdn_spelled rdn r = record {
  kind = rdn.kind;
  spells_type = record { is_type = r.kind.form; upper = sym r.kind.upper };
  before = 0;
  after = 0;
  value = value_text rdn.value;
  spells_value = value_spelled rdn.value r.value;
  parts = ap (λ (k : List ℕ). k ++ 61 ∷ value_text rdn.value) (sym (append-nil rdn.kind))
      ∙ sym (append_assoc (rdn.kind ++ []) (61 ∷ []) (value_text rdn.value));
}

others_spelled : (rdns : List Rdn) → AreRdns rdns → SpellsOthers rdns (others_text rdns)
others_spelled [] all = refl
others_spelled (rdn ∷ rdns) all = record {
  before = 0;
  after = 0;
  others = rdn_text rdn ++ others_text rdns;
  is_others = record {
    first = rdn_text rdn;
    is_first = rdn_spelled rdn all.0;
    rest = others_text rdns;
    is_rest
        = others_spelled rdns all.1;
    parts = refl;
  };
  parts = refl;
}

-- the text that is written of a name is one of its texts
pub rdns_spelled : (rdns : List Rdn) → AreRdns rdns → SpellsRdns rdns (rdns_text rdns)
unfolding rdns_text
rdns_spelled [] all = refl
rdns_spelled (rdn ∷ rdns) all = record {
  first = rdn_text rdn;
  is_first = rdn_spelled rdn all.0;
  rest
      = others_text rdns;
  is_rest = others_spelled rdns all.1;
  parts = refl;
}

-- ---- parts that are made

-- a type in either case, and a value
pub made_is : (kind value : List ℕ) → IsType kind → IsValue value
    → IsRdn (record { kind = str_to_ascii_uppercase kind; value = value })
made_is kind value t v = record {
  kind = kind_is (str_to_ascii_uppercase kind) kind
      (record { is_type = t; upper = refl });
  value = v;
}
