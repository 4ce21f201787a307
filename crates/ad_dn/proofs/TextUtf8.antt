-- The text that is written of a name is UTF-8.
use Rattle.std.proofs.Common.{Bool, eqb, ◌≡◌, ◌⊎◌, inl, inr, ℕ, zero, suc, ◌-◌, ◌/◌, ◌%◌, ◌<◌, ◌≤◌, true, false}
use Rattle.std.proofs.Common.{if◌then◌else◌, Option, Some, List, [], ◌∷◌, ◌++◌, refl, sym, ap, subst, ◌∙◌, arith}
use Rattle.std.specs.Prelude.{◌||◌, slice_index}
use Rattle.std.specs.List.{flat_map, list_all}
use Rattle.std.specs.Str.{IsUtf8}
use Rattle.std.proofs.lemmas.Bool.{cases_lt, and_parts}
use Rattle.std.proofs.lemmas.Bool.Decides.{nat_tests}
use Rattle.std.proofs.lemmas.Str.{IsUtf8-append, IsUtf8-nil}
use Rattle.uuid.specs.Text.{hex_digit, upper}
use Rattle.ad_dn.specs.declared.rdn.Rdn.{Rdn}
use Rattle.ad_dn.specs.declared.utf8_state.Utf8State.{Utf8State}
use Rattle.ad_dn.specs.AttributeType.{is_letter, is_type_byte, is_type}
use Rattle.ad_dn.specs.Value.{IsRdn, AreRdns}
use Rattle.ad_dn.specs.Utf8State.{due, nothing_due, size, least_after, most_after, due_after}
use Rattle.ad_dn.specs.Grammar.{is_reserved, Piece, plain, marked, pair, piece_text, piece_byte}
use Rattle.ad_dn.specs.Text.{hidden_size, digits_of, piece_of, piece_at, pieces_after, pieces_of, value_text}
use Rattle.ad_dn.specs.Text.{rdn_text, others_text, rdns_text}
use Rattle.ad_dn.proofs.Utf8.{Fills, size_1, at_first, at_later, same_start, lead_fills, filled_utf8, utf8_fills}
use Rattle.ad_dn.proofs.Follow.{IsDue, nothing_is_due, next_of, due_kept, began, went_on}
use Rattle.ad_dn.proofs.InDigits.{upper_digit, small_byte, no_nul, hidden}
use Rattle.ad_dn.proofs.Spelled.{at_is}

-- what stands after \ in a text that is written
abbrev IsWritten : Piece → Type 0
IsWritten (plain b) = Unit {0}
IsWritten (marked b) = b < 128
IsWritten (pair high low) = ⊥

-- a byte that is no later one of a character stands where a character begins
at_boundary : (d : Utf8State) (b : ℕ) (bytes : List ℕ) → IsDue d → (b < 128) ⊎ (192 ≤ b)
    → Fills (due_after 0 d b) bytes → d.more ≡ 0
at_boundary d b bytes h lead f = elim (cases_lt 0 d.more) [
  | inr over ↦ omega arith
  | inl some ↦
      let n = next_of (due_after 0 d b) bytes f in
      let w = went_on d n.0 b (sym (at_later 0 b d some) ∙ n.1) in
      absurd (omega (arith, h.low, h.high, w.0, w.1, lead))
]

-- ASCII where a character begins, and then where one begins
ascii_fills : (d : Utf8State) (b : ℕ) (text : List ℕ) → d.more ≡ 0 → b < 128 → Fills (Some nothing_due) text
    → Fills (Some d) (b ∷ text)
ascii_fills d b text none small f = lead_fills d b 0 text none (size_1 b small) (omega arith)
    (same_start nothing_due (due 0 (least_after b) (most_after b)) text refl refl f)

-- ---- a byte by itself, or after \

piece_fills : (d : Utf8State) (b : ℕ) (p : Piece) (bytes text : List ℕ) → IsDue d → IsWritten p → b ≡ piece_byte p
    → ((e : Utf8State) → IsDue e → Fills (Some e) bytes → Fills (Some e) text) → Fills (Some d) (b ∷ bytes)
    → Fills (Some d) (piece_text p ++ text)
piece_fills d b (plain c) bytes text h w same rest f =
    let g = subst (λ (x : ℕ). Fills (Some d) (x ∷ bytes)) same f in
    let n = next_of (due_after 0 d c) bytes g in
    subst (λ (o : Option Utf8State). Fills o text) (sym n.1) (rest n.0 (due_kept 0 c d n.0 h n.1) n.2)
piece_fills d b (marked c) bytes text h w same rest f =
    let g = subst (λ (x : ℕ). Fills (Some d) (x ∷ bytes)) same f in
    let none = at_boundary d c bytes h (inl w) g in
    let n = next_of (due_after 0 nothing_due c) bytes
    (subst (λ (o : Option Utf8State). Fills o bytes) (at_first 0 c d none) g) in
    subst (λ (o : Option Utf8State). Fills o (c ∷ text)) (sym (at_first 0 92 d none))
    (subst (λ (o : Option Utf8State). Fills o text) (sym n.1)
    (rest n.0 (due_kept 0 c nothing_due n.0 nothing_is_due n.1) n.2))
piece_fills d b (pair high low) bytes text h w same rest f = absurd w

if_written : (t : Bool) (p q : Piece) → (t ≡ true → IsWritten p) → (t ≡ false → IsWritten q)
    → IsWritten (if t then p else q)
if_written true p q f g = f refl
if_written false p q f g = g refl

reserved_small : (b : ℕ) → is_reserved b ≡ true → b < 128
reserved_small b e = grind (arith, nat_tests)

blank_small : (b : ℕ) → eqb b 32 ≡ true → b < 128
blank_small b e = grind (arith, nat_tests)

blank_or_hash_small : (b : ℕ) → (eqb b 32 || eqb b 35) ≡ true → b < 128
blank_or_hash_small b e = grind (arith, nat_tests)

piece_written : (b : ℕ) → IsWritten (piece_of b)
piece_written b = if_written (is_reserved b) (marked b) (plain b) (reserved_small b) (λ k. tt)

at_written : (b : ℕ) (bytes : List ℕ) → IsWritten (piece_at 0 b bytes)
at_written b [] = if_written (eqb b 32) (marked b) (piece_of b) (blank_small b) (λ e. piece_written b)
at_written b (c ∷ bytes) = piece_written b

-- ---- a byte in digits

digits_fill : (d : Utf8State) (b : ℕ) (text : List ℕ) → d.more ≡ 0 → b < 256 → Fills (Some nothing_due) text
    → Fills (Some d) (piece_text (digits_of b) ++ text)
digits_fill d b text none small f =
    let high = upper_digit (b / 16) (omega (arith, small)) in
    let low = upper_digit (b % 16) (omega arith) in
    ascii_fills d 92 (hex_digit upper (b / 16) ∷ hex_digit upper (b % 16) ∷ text) none (omega arith)
    (ascii_fills nothing_due (hex_digit upper (b / 16)) (hex_digit upper (b % 16) ∷ text) refl high.ascii
    (ascii_fills nothing_due (hex_digit upper (b % 16)) text refl low.ascii f))

-- Where so many bytes of a character are left to be written in digits, the text stands where a character begins.
abbrev text_state : ℕ → Utf8State → Utf8State
text_state zero d = d
text_state (suc n) d = nothing_due

abbrev IsLeft : ℕ → Utf8State → Type 0
IsLeft zero d = Unit {0}
IsLeft (suc n) d = d.more ≡ suc n

-- what is left after one byte more in digits, of which so many are due
left_after : (k : ℕ) (e : Utf8State) → e.more ≡ k → IsLeft k e
left_after zero e is = tt
left_after (suc k) e is = is

-- the text goes on where a character begins
begins_again : (k : ℕ) (e : Utf8State) (text : List ℕ) → e.more ≡ k → Fills (Some (text_state k e)) text
    → Fills (Some nothing_due) text
begins_again zero e text is f = same_start e nothing_due text is refl f
begins_again (suc k) e text is f = f

-- what is due after a later byte, and after a first one of so many
later_due : (d e : Utf8State) (b k : ℕ) → d.more ≡ suc k → due_after 0 d b ≡ Some e → e.more ≡ k
later_due d e b k is h =
    let w = went_on d e b (sym (at_later 0 b d (omega (arith, is))) ∙ h) in
    let less : d.more - 1 ≡ k = omega (arith, is) in
    sym (ap (λ (x : Utf8State). x.more) w.2) ∙ less

first_due : (d e : Utf8State) (b k : ℕ) → d.more ≡ 0 → size b ≡ suc k → due_after 0 d b ≡ Some e → e.more ≡ k
first_due d e b k none is h =
    let w = began 0 b e (sym (at_first 0 b d none) ∙ h) in
    let less : size b - 1 ≡ k = omega (arith, is) in
    sym (ap (λ (x : Utf8State). x.more) w.same) ∙ less

-- ---- a value

one_less : (k : ℕ) (P : ℕ → Type 0) → P k → P (suc k - 1)
one_less k P p = let e : suc k - 1 ≡ k = omega arith in subst P (sym e) p

-- what the bytes after one are written as, however many are left of a character
abbrev AfterFills : List ℕ → Type 0
AfterFills bytes = (n : ℕ) (d : Utf8State) → IsDue d → IsLeft n d → Fills (Some d) bytes
    → Fills (Some (text_state n d)) (flat_map piece_text (pieces_after n bytes))

-- a byte that is left of a character
later_one : (k : ℕ) (d : Utf8State) (b : ℕ) (bytes : List ℕ) → IsDue d → d.more ≡ suc k → AfterFills bytes
    → Fills (Some d) (b ∷ bytes)
    → Fills (Some nothing_due) (piece_text (digits_of b) ++ flat_map piece_text (pieces_after k bytes))
later_one k d b bytes h left rest f =
    let n = next_of (due_after 0 d b) bytes f in
    let e = n.0 in
    let more = later_due d e b k left n.1 in
    let text = flat_map piece_text (pieces_after k bytes) in
    digits_fill nothing_due b text refl (small_byte d e b h n.1)
    (begins_again k e text more (rest k e (due_kept 0 b d e h n.1) (left_after k e more) n.2))

-- a byte of which nothing is written in digits, or with which a character begins that is
first_one : (m : ℕ) (d : Utf8State) (b : ℕ) (bytes : List ℕ) → hidden_size (b ∷ bytes) ≡ m → IsDue d
    → AfterFills bytes → Fills (Some d) (b ∷ bytes)
    → Fills (Some d) (piece_text (piece_at m b bytes) ++ flat_map piece_text (pieces_after (m - 1) bytes))
first_one zero d b bytes none h rest f =
    let n = next_of (due_after 0 d b) bytes f in
    let is = at_is 0 b bytes (small_byte d n.0 b h n.1)
    (λ z. no_nul b (slice_index bytes 0) (slice_index bytes 1) none) in
    piece_fills d b (piece_at 0 b bytes) bytes (flat_map piece_text (pieces_after 0 bytes)) h (at_written b bytes)
    is.byte (λ e k g. rest 0 e k tt g) f
first_one (suc k) d b bytes some h rest f =
    let n = next_of (due_after 0 d b) bytes f in
    let e = n.0 in
    let first = hidden b (slice_index bytes 0) (slice_index bytes 1) k some in
    let none = at_boundary d b bytes h first.lead f in
    let more = first_due d e b k none first.size n.1 in
    let text = flat_map piece_text (pieces_after k bytes) in
    one_less k (λ (j : ℕ). Fills (Some d) (piece_text (digits_of b) ++ flat_map piece_text (pieces_after j bytes)))
    (digits_fill d b text none (small_byte d e b h n.1)
    (begins_again k e text more (rest k e (due_kept 0 b d e h n.1) (left_after k e more) n.2)))

after_fills : (bytes : List ℕ) → AfterFills bytes
after_fills [] zero d h left f = f
after_fills [] (suc n) d h left f = refl
after_fills (b ∷ bytes) (suc k) d h left f = one_less k
    (λ (j : ℕ). Fills (Some nothing_due) (piece_text (digits_of b) ++ flat_map piece_text (pieces_after j bytes)))
    (later_one k d b bytes h left (after_fills bytes) f)
after_fills (b ∷ bytes) zero d h left f = first_one (hidden_size (b ∷ bytes)) d b bytes refl h (after_fills bytes) f

value_utf8 : (value : List ℕ) → IsUtf8 value → IsUtf8 (value_text value)
unfolding value_text
value_utf8 [] u = IsUtf8-nil
value_utf8 (b ∷ bytes) u = filled_utf8 nothing_due (flat_map piece_text (pieces_of (b ∷ bytes))) refl
    (by (eqb b 32 || eqb b 35) refl)
  where
    by : (t : Bool) → (eqb b 32 || eqb b 35) ≡ t → Fills (Some nothing_due)
        (flat_map piece_text (if t then marked b ∷ pieces_after 0 bytes else pieces_after 0 (b ∷ bytes)))
    by true e = piece_fills nothing_due b (marked b) bytes (flat_map piece_text (pieces_after 0 bytes)) nothing_is_due
        (blank_or_hash_small b e) refl (λ d k g. after_fills bytes 0 d k tt g)
        (utf8_fills nothing_due (b ∷ bytes) refl u)
    by false e = after_fills (b ∷ bytes) 0 nothing_due nothing_is_due tt (utf8_fills nothing_due (b ∷ bytes) refl u)

-- ---- names

ascii_utf8 : (b : ℕ) (bytes : List ℕ) → b < 128 → IsUtf8 bytes → IsUtf8 (b ∷ bytes)
ascii_utf8 b bytes small u = filled_utf8 nothing_due (b ∷ bytes) refl
    (lead_fills nothing_due b 0 bytes refl (size_1 b small) (omega arith)
    (utf8_fills (due 0 (least_after b) (most_after b)) bytes refl u))

letter_small : (b : ℕ) → is_letter b ≡ true → b < 128
letter_small b e = grind (arith, nat_tests)

type_byte_small : (b : ℕ) → is_type_byte b ≡ true → b < 128
type_byte_small b e = grind (arith, nat_tests)

letters_utf8 : (bytes text : List ℕ) → list_all is_type_byte bytes ≡ true → IsUtf8 text → IsUtf8 (bytes ++ text)
letters_utf8 [] text all u = u
letters_utf8 (b ∷ bytes) text all u =
    let p = and_parts (is_type_byte b) (list_all is_type_byte bytes) all in
    ascii_utf8 b (bytes ++ text) (type_byte_small b p.0) (letters_utf8 bytes text p.1 u)

kind_utf8 : (kind text : List ℕ) → is_type kind ≡ true → IsUtf8 text → IsUtf8 (kind ++ text)
kind_utf8 [] text is u = u
kind_utf8 (b ∷ bytes) text is u =
    let p = and_parts (is_letter b) (list_all is_type_byte bytes) is in
    ascii_utf8 b (bytes ++ text) (letter_small b p.0) (letters_utf8 bytes text p.1 u)

rdn_utf8 : (rdn : Rdn) → IsRdn rdn → IsUtf8 (rdn_text rdn)
rdn_utf8 rdn r = kind_utf8 rdn.kind (61 ∷ value_text rdn.value) r.kind.form
    (ascii_utf8 61 (value_text rdn.value) (omega arith) (value_utf8 rdn.value r.value.utf8))

others_utf8 : (rdns : List Rdn) → AreRdns rdns → IsUtf8 (others_text rdns)
others_utf8 [] all = IsUtf8-nil
others_utf8 (rdn ∷ rdns) all = IsUtf8-append (44 ∷ rdn_text rdn) (others_text rdns)
    (ascii_utf8 44 (rdn_text rdn) (omega arith) (rdn_utf8 rdn all.0)) (others_utf8 rdns all.1)

pub rdns_utf8 : (rdns : List Rdn) → AreRdns rdns → IsUtf8 (rdns_text rdns)
unfolding rdns_text
rdns_utf8 [] all = IsUtf8-nil
rdns_utf8 (rdn ∷ rdns) all = IsUtf8-append (rdn_text rdn) (others_text rdns) (rdn_utf8 rdn all.0)
    (others_utf8 rdns all.1)
