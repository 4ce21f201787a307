-- No control of ASCII stands in the text that is written of a name.
use Rattle.std.proofs.Common.{Bool, eqb, ◌≡◌, ℕ, zero, suc, ◌-◌, ◌/◌, ◌%◌, ◌<◌, true, false, if◌then◌else◌, List, []}
use Rattle.std.proofs.Common.{◌∷◌, ◌++◌, refl, ap, ◌∙◌, arith}
use Rattle.std.specs.Prelude.{◌&&◌, ◌||◌, not, slice_index}
use Rattle.std.specs.List.{AllByRecursion, flat_map, list_all}
use Rattle.std.proofs.lemmas.Bool.{and_parts}
use Rattle.std.proofs.lemmas.Bool.Decides.{nat_tests}
use Rattle.std.proofs.lemmas.List.Folds.{list_all-append}
use Rattle.uuid.specs.Text.{hex_digit, upper, is_hex_digit}
use Rattle.ad_dn.specs.declared.rdn.Rdn.{Rdn}
use Rattle.ad_dn.specs.AttributeType.{is_letter, is_type_byte, is_type}
use Rattle.ad_dn.specs.Value.{IsRdn, AreRdns}
use Rattle.ad_dn.specs.Grammar.{Piece, plain, marked, piece_text, is_reserved}
use Rattle.ad_dn.specs.Text.{is_control, is_hidden_two, is_hidden_three, hidden_by, digits_of, piece_of, last_piece}
use Rattle.ad_dn.specs.Text.{piece_at, in_digits, pieces_after, value_text, rdn_text, others_text, rdns_text}
use Rattle.ad_dn.specs.Text.{has_no_control}
use Rattle.ad_dn.proofs.InDigits.{IsSmall, upper_digit}
use Rattle.ad_dn.proofs.Spelled.{value_small}

abbrev shown : ℕ → Bool
shown b = not (is_control b)

both : (x y : Bool) → x ≡ true → y ≡ true → (x && y) ≡ true
both x y e f = ap (λ t. t && y) e ∙ f

two : (a b : List ℕ) → has_no_control a ≡ true → has_no_control b ≡ true → has_no_control (a ++ b) ≡ true
two a b p q = list_all-append shown a b ∙ both (has_no_control a) (has_no_control b) p q

one : (b : ℕ) (text : List ℕ) → shown b ≡ true → has_no_control text ≡ true → has_no_control (b ∷ text) ≡ true
one b text p q = both (shown b) (has_no_control text) p q

-- ---- pieces

reserved_shown : (b : ℕ) → is_reserved b ≡ true → shown b ≡ true
reserved_shown b e = grind (arith, nat_tests)

blank_shown : (b : ℕ) → eqb b 32 ≡ true → shown b ≡ true
blank_shown b e = grind (arith, nat_tests)

blank_or_hash_shown : (b : ℕ) → (eqb b 32 || eqb b 35) ≡ true → shown b ≡ true
blank_or_hash_shown b e = grind (arith, nat_tests)

hex_shown : (d : ℕ) → is_hex_digit d ≡ true → shown d ≡ true
hex_shown d e = grind (arith, nat_tests)

abbrev IsShown : Piece → Type 0
IsShown p = has_no_control (piece_text p) ≡ true

digits_shown : (b : ℕ) → b < 256 → IsShown (digits_of b)
digits_shown b small =
    let high = upper_digit (b / 16) (omega (arith, small)) in
    let low = upper_digit (b % 16) (omega arith) in
    one 92 (hex_digit upper (b / 16) ∷ hex_digit upper (b % 16) ∷ []) refl
    (one (hex_digit upper (b / 16)) (hex_digit upper (b % 16) ∷ []) (hex_shown (hex_digit upper (b / 16)) high.digit)
    (one (hex_digit upper (b % 16)) [] (hex_shown (hex_digit upper (b % 16)) low.digit) refl))

if_shown : (t : Bool) (p q : Piece) → (t ≡ true → IsShown p) → (t ≡ false → IsShown q) → IsShown (if t then p else q)
if_shown true p q f g = f refl
if_shown false p q f g = g refl

marked_shown : (b : ℕ) → shown b ≡ true → IsShown (marked b)
marked_shown b e = one 92 (b ∷ []) refl (one b [] e refl)

piece_shown : (b : ℕ) → is_control b ≡ false → IsShown (piece_of b)
piece_shown b none = if_shown (is_reserved b) (marked b) (plain b) (λ e. marked_shown b (reserved_shown b e))
    (λ e. one b [] (ap not none) refl)

last_shown : (b : ℕ) → is_control b ≡ false → IsShown (last_piece b)
last_shown b none = if_shown (eqb b 32) (marked b) (piece_of b) (λ e. marked_shown b (blank_shown b e))
    (λ e. piece_shown b none)

at_shown : (n b : ℕ) (bytes : List ℕ) → b < 256 → (n ≡ 0 → is_control b ≡ false) → IsShown (piece_at n b bytes)
at_shown (suc n) b bytes small none = digits_shown b small
at_shown zero b [] small none = last_shown b (none refl)
at_shown zero b (c ∷ bytes) small none = piece_shown b (none refl)

-- a control is written in digits
by_itself : (b x y : ℕ) → hidden_by b x y ≡ 0 → is_control b ≡ false
by_itself b x y e = by (is_control b) refl e
  where
    size : Bool → ℕ
    size t = if t then 1 else if is_hidden_two b x then 2 else if is_hidden_three b x y then 3 else 0

    by : (t : Bool) → is_control b ≡ t → size t ≡ 0 → is_control b ≡ false
    by true is h = absurd (omega (arith, h))
    by false is h = is

none_at : (n b : ℕ) (bytes : List ℕ) → in_digits n (b ∷ bytes) ≡ 0 → is_control b ≡ false
none_at zero b bytes e = by_itself b (slice_index bytes 0) (slice_index bytes 1) e
none_at (suc n) b bytes e = absurd (omega (arith, e))

after_shown : (n : ℕ) (bytes : List ℕ) → AllByRecursion IsSmall bytes
    → has_no_control (flat_map piece_text (pieces_after n bytes)) ≡ true
after_shown n [] small = refl
after_shown n (b ∷ bytes) small =
    let m = in_digits n (b ∷ bytes) in
    two (piece_text (piece_at m b bytes)) (flat_map piece_text (pieces_after (m - 1) bytes))
    (at_shown m b bytes small.0 (none_at n b bytes)) (after_shown (m - 1) bytes small.1)

value_shown : (value : List ℕ) → AllByRecursion IsSmall value → has_no_control (value_text value) ≡ true
unfolding value_text
value_shown [] small = refl
value_shown (b ∷ bytes) small = by (eqb b 32 || eqb b 35) refl
  where
    by : (t : Bool) → (eqb b 32 || eqb b 35) ≡ t → has_no_control
        (flat_map piece_text (if t then marked b ∷ pieces_after 0 bytes else pieces_after 0 (b ∷ bytes))) ≡ true
    by true e = two (piece_text (marked b)) (flat_map piece_text (pieces_after 0 bytes))
        (marked_shown b (blank_or_hash_shown b e)) (after_shown 0 bytes small.1)
    by false e = after_shown 0 (b ∷ bytes) small

-- ---- names

type_byte_shown : (b : ℕ) → is_type_byte b ≡ true → shown b ≡ true
type_byte_shown b e = grind (arith, nat_tests)

letter_shown : (b : ℕ) → is_letter b ≡ true → shown b ≡ true
letter_shown b e = grind (arith, nat_tests)

bytes_shown : (bytes : List ℕ) → list_all is_type_byte bytes ≡ true → has_no_control bytes ≡ true
bytes_shown [] e = refl
bytes_shown (b ∷ bytes) e =
    let p = and_parts (is_type_byte b) (list_all is_type_byte bytes) e in
    one b bytes (type_byte_shown b p.0) (bytes_shown bytes p.1)

kind_shown : (kind : List ℕ) → is_type kind ≡ true → has_no_control kind ≡ true
kind_shown [] e = refl
kind_shown (b ∷ bytes) e =
    let p = and_parts (is_letter b) (list_all is_type_byte bytes) e in
    one b bytes (letter_shown b p.0) (bytes_shown bytes p.1)

rdn_shown : (rdn : Rdn) → IsRdn rdn → has_no_control (rdn_text rdn) ≡ true
rdn_shown rdn r = two rdn.kind (61 ∷ value_text rdn.value) (kind_shown rdn.kind r.kind.form)
    (one 61 (value_text rdn.value) refl (value_shown rdn.value (value_small rdn.value r.value.utf8)))

others_shown : (rdns : List Rdn) → AreRdns rdns → has_no_control (others_text rdns) ≡ true
others_shown [] all = refl
others_shown (rdn ∷ rdns) all = two (44 ∷ rdn_text rdn) (others_text rdns)
    (one 44 (rdn_text rdn) refl (rdn_shown rdn all.0)) (others_shown rdns all.1)

pub rdns_shown : (rdns : List Rdn) → AreRdns rdns → has_no_control (rdns_text rdns) ≡ true
unfolding rdns_text
rdns_shown [] all = refl
rdns_shown (rdn ∷ rdns) all = two (rdn_text rdn) (others_text rdns) (rdn_shown rdn all.0) (others_shown rdns all.1)
