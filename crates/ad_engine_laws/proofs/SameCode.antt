-- A result tells its code: two results of the same bytes have one code.
use Rattle.std.proofs.Common.{◌≡◌, ◌∙◌, inl, inr, ℕ, ◌+◌, ◌*◌, ◌^◌, ◌<◌, Bool, true, false, nat_lt, List, [], ◌∷◌}
use Rattle.std.proofs.Common.{◌++◌, length, refl, sym, ap, arith, append_assoc}
use Rattle.std.specs.Prelude.{if◌then◌else◌}
use Rattle.std.specs.Int.{byte_at as byte_of}
use Rattle.std.proofs.lemmas.Bool.{cases_Bool, ltb-true}
use Rattle.ad_bytes.specs.Numbers.{be_bytes}
use Rattle.ad_bytes.proofs.Codec.{length-be_bytes}
use Rattle.ad_ber.specs.Writing.{width, length_bytes, header, element_bytes, number_bytes, number_element}
use Rattle.ad_ber.proofs.Shortest.{width_within}
use Rattle.ad_ldap.specs.Reply.{result_body, message_bytes}

-- ---- lists

-- parts of one length
pub same_parts : (a b r s : List ℕ) → length a ≡ length b → a ++ r ≡ b ++ s → (a ≡ b) × (r ≡ s)
same_parts [] [] r s long is = (refl, is)
same_parts [] (y ∷ b) r s long is = absurd (omega (arith, long))
same_parts (x ∷ a) [] r s long is = absurd (omega (arith, long))
same_parts (x ∷ a) (y ∷ b) r s long is =
    let head : x ≡ y = cc in
    let tail : a ++ r ≡ b ++ s = cc in
    let inner = same_parts a b r s (omega (arith, long)) tail in
    let first : a ≡ b = inner.0 in
    (cc, inner.1)

-- ---- elements

-- a length, with what stands after it
abbrev Long : ℕ → List ℕ
Long n = (128 + width n) ∷ be_bytes (width n) n

long_same : (n m : ℕ) (a b : List ℕ) → Long n ++ a ≡ Long m ++ b → a ≡ b
long_same n m a b is =
    let first : 128 + width n ≡ 128 + width m = cc in
    let wide : width n ≡ width m = omega (arith, first) in
    let rest : be_bytes (width n) n ++ a ≡ be_bytes (width m) m ++ b = cc in
    (same_parts (be_bytes (width n) n) (be_bytes (width m) m) a b
    (length-be_bytes (width n) n ∙ wide ∙ sym (length-be_bytes (width m) m)) rest).1

-- elements that are the same have the same body, whatever their tags
pub same_body : (t u : ℕ) (a b : List ℕ) → element_bytes t a ≡ element_bytes u b → a ≡ b
unfolding element_bytes header length_bytes
same_body t u a b is =
    elim (cases_Bool (nat_lt (length a) 128)) [
      | inl short ↦ elim (cases_Bool (nat_lt (length b) 128)) [
        | inl other ↦
            let e : t ∷ length a ∷ a ≡ u ∷ length b ∷ b = rw (short, other) at is in cc
        | inr other ↦
            let e : t ∷ length a ∷ a ≡ u ∷ Long (length b) ++ b = rw (short, other) at is in
            let first : length a ≡ 128 + width (length b) = cc in
            let less : length a < 128 = ltb-true (length a) 128 short in
            absurd (omega (arith, first, less))
      ]
      | inr long ↦ elim (cases_Bool (nat_lt (length b) 128)) [
        | inl other ↦
            let e : t ∷ Long (length a) ++ a ≡ u ∷ length b ∷ b = rw (long, other) at is in
            let first : 128 + width (length a) ≡ length b = cc in
            let less : length b < 128 = ltb-true (length b) 128 other in
            absurd (omega (arith, first, less))
        | inr other ↦
            let e : t ∷ Long (length a) ++ a ≡ u ∷ Long (length b) ++ b = rw (long, other) at is in
            let behind : Long (length a) ++ a ≡ Long (length b) ++ b = cc in
            long_same (length a) (length b) a b behind
      ]
    ]

-- a short element before
short_front : (t : ℕ) (a b r s : List ℕ) → nat_lt (length a) 128 ≡ true → nat_lt (length b) 128 ≡ true
    → element_bytes t a ++ r ≡ element_bytes t b ++ s → (a ≡ b) × (r ≡ s)
unfolding element_bytes header length_bytes
short_front t a b r s short other is =
    let e : t ∷ length a ∷ a ++ r ≡ t ∷ length b ∷ b ++ s = rw (short, other) at is in
    let long : length a ≡ length b = cc in
    let behind : a ++ r ≡ b ++ s = cc in
    same_parts a b r s long behind

number_short : (n : ℕ) → nat_lt (length (number_bytes n)) 128 ≡ true
unfolding number_bytes
number_short n =
    let w = width_within (2 * n) in
    let few : width (2 * n) < 128 = omega (arith, w.1) in
    grind (arith, few, length-be_bytes (width (2 * n)) n)

-- a number before
number_front : (t n m : ℕ) (r s : List ℕ) → number_element t n ++ r ≡ number_element t m ++ s
    → (number_bytes n ≡ number_bytes m) × (r ≡ s)
unfolding number_element
number_front t n m r s is = short_front t (number_bytes n) (number_bytes m) r s (number_short n) (number_short m) is

-- ---- the code

not_one : (t : Bool) (x y : ℕ) → (x ≡ 1 → ⊥) → (y ≡ 1 → ⊥) → (if t then x else y) ≡ 1 → ⊥
not_one true x y f g is = f is
not_one false x y f g is = g is

one_byte : (n : ℕ) → width n ≡ 1 → n < 256
unfolding width
one_byte n is =
    elim (cases_Bool (nat_lt n (256 ^ 1))) [
      | inl less ↦ ltb-true n 256 less
      | inr more ↦ absurd (not_one (nat_lt n (256 ^ 2)) 2 _ (λ e. omega (arith, e))
          (not_one (nat_lt n (256 ^ 3)) 3 _ (λ e. omega (arith, e))
          (not_one (nat_lt n (256 ^ 4)) 4 _ (λ e. omega (arith, e))
          (not_one (nat_lt n (256 ^ 5)) 5 _ (λ e. omega (arith, e))
          (not_one (nat_lt n (256 ^ 6)) 6 _ (λ e. omega (arith, e))
          (not_one (nat_lt n (256 ^ 7)) 7 8 (λ e. omega (arith, e)) (λ e. omega (arith, e)))))))
          (rw more at is))
    ]

zero_wide : width (2 * 0) ≡ 1
unfolding width
zero_wide = refl

zero_alone : (n : ℕ) → number_bytes 0 ≡ number_bytes n → n ≡ 0
unfolding number_bytes be_bytes
zero_alone n is =
    let wide : width (2 * 0) ≡ width (2 * n) = sym (length-be_bytes (width (2 * 0)) 0) ∙ ap length is
    ∙ length-be_bytes (width (2 * n)) n in
    let one : width (2 * n) ≡ 1 = sym wide ∙ zero_wide in
    let less : 2 * n < 256 = one_byte (2 * n) one in
    let bytes : byte_of 0 0 ∷ [] ≡ byte_of 0 n ∷ [] = rw (zero_wide, one) at is in
    let same : byte_of 0 0 ≡ byte_of 0 n = cc in
    omega (arith, less, same)

-- two results that are the same have one code
pub same_code : (id tag n : ℕ) (matched text other more : List ℕ) (who what : ℕ)
    → message_bytes id tag (result_body 0 matched text) ≡ message_bytes who what (result_body n other more) → n ≡ 0
same_code id tag n matched text other more who what is =
    let one = result_body 0 matched text in
    let two = result_body n other more in
    let parted = append_assoc (number_element 10 0) (element_bytes 4 matched) (element_bytes 4 text) in
    let other_parted = append_assoc (number_element 10 n) (element_bytes 4 other) (element_bytes 4 more) in
    let inside = same_body 48 48 (number_element 2 id ++ element_bytes tag one)
    (number_element 2 who ++ element_bytes what two) is in
    let op = (number_front 2 id who (element_bytes tag one) (element_bytes what two) inside).1 in
    zero_alone n (number_front 10 0 n (element_bytes 4 matched ++ element_bytes 4 text)
    (element_bytes 4 other ++ element_bytes 4 more)
    (sym parted ∙ same_body tag what one two op ∙ other_parted)).0
