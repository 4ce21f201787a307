-- Each syntax reads one value at most, by its form.
use Rattle.std.proofs.Common.{◌≡◌, inl, inr, ℕ, ◌<◌, ◌^◌, ℤ, List, ◌++◌, Result, Ok, Err, get_or, sym, ap, subst, ◌∙◌}
use Rattle.std.proofs.Common.{arith, FitsSigned}
use Rattle.std.specs.Int.{Width}
use Rattle.std.specs.Fmt.{signed_decimal}
use Rattle.std.proofs.lemmas.Fmt.{signed_decimal_injective}
use lib.Signed.{mag}
use Rattle.ad_ids.specs.SidValue.{SidValue}
use Rattle.ad_ids.specs.Sid.{SpellsSid, sid_bytes}
use Rattle.ad_ids.specs.SidText.{others_text}
use Rattle.ad_ids.specs.SidGrammar.{SpellsSidText}
use Rattle.ad_value.specs.declared.value.Key.TheVariants as key
use Rattle.ad_value.specs.Value.{Value, value, as_shown}
use Rattle.ad_value.specs.declared.fault.ValueFault.{ValueFault}
use Rattle.ad_value.specs.declared.fault.ValueFault.TheVariants as fault
use Rattle.ad_dn.specs.declared.rdn.Dn.{Dn}
use Rattle.ad_dn.specs.Grammar.{SpellsDn}
use Rattle.ad_dn.specs.NameKey.{name_key}
use Rattle.ad_value.specs.Normal.{IsNameText, IsNumber, IsSpelled, IsIdentifier}
use Rattle.ad_value.specs.Reading.{Reads}

-- a reader of a form is one of any form of the same values
pub reads_as : (F G : Value → Type 0) → ((v : Value) → F v → G v) → ((v : Value) → G v → F v)
    → (r : Result Value ValueFault) → Reads F r → Reads G r
reads_as F G to from (Ok v) h = (to v h.0, λ other g. h.1 other (from other g))
reads_as F G to from (Err fault.Syntax) h = λ v g. h v (from v g)
reads_as F G to from (Err fault.TooLong) h = h
reads_as F G to from (Err fault.Memory) h = tt

-- the one identifier that the bytes encode
pub identifier_read : (bytes shown : List ℕ) (sid : SidValue) (r : Result Value ValueFault)
    → IsSpelled sid bytes → ((other : SidValue) → IsSpelled other bytes → other ≡ sid) → shown ≡ sid_bytes sid
    → Reads (λ v. v ≡ as_shown shown) r → Reads (IsIdentifier bytes) r
identifier_read bytes shown sid r spelled one written =
    reads_as (λ v. v ≡ as_shown shown) (IsIdentifier bytes)
    (λ v e. record { sid = sid; spelled = spelled; is = e ∙ ap as_shown written })
    (λ v i. i.is ∙ ap (λ (s : SidValue). as_shown (sid_bytes s)) (one i.sid i.spelled) ∙ ap as_shown (sym written))
    r

-- the one name that the bytes are the text of
pub name_read : (bytes shown found : List ℕ) (dn : Dn) → SpellsDn dn bytes
    → ((other : Dn) → SpellsDn other bytes → other ≡ dn) → shown ≡ bytes → found ≡ name_key dn
    → IsNameText bytes (value shown (key.Bytes found))
    × ((other : Value) → IsNameText bytes other → other ≡ value shown (key.Bytes found))
name_read bytes shown found dn spelled one s k =
    let is : value shown (key.Bytes found) ≡ value bytes (key.Bytes (name_key dn))
    = ap (λ (t : List ℕ). value t (key.Bytes found)) s ∙ ap (λ (t : List ℕ). value bytes (key.Bytes t)) k in (
      record { dn = dn; spelled = spelled; is = is },
      λ other i. i.is ∙ ap (λ (d : Dn). value bytes (key.Bytes (name_key d))) (one i.dn i.spelled) ∙ sym is,
    )

-- the number that is written so
pub number_read : (w : Width) (bytes : List ℕ) (n : ℤ) (r : Result Value ValueFault)
    → ((z : ℤ) → FitsSigned w z → mag z < 2 ^ 63)
    → FitsSigned w n → bytes ≡ signed_decimal n → Reads (λ v. v ≡ value bytes (key.Number n)) r
    → Reads (IsNumber w bytes) r
number_read w bytes n r small fits spelled =
    reads_as (λ v. v ≡ value bytes (key.Number n)) (IsNumber w bytes)
    (λ v e. record { number = n; fits = fits; spelled = spelled; is = e })
    (λ v i. i.is ∙ ap (λ (z : ℤ). value bytes (key.Number z))
    (signed_decimal_injective i.number n (small i.number i.fits) (small n fits) (sym i.spelled ∙ spelled)))
    r

-- no identifier's bytes are another's text: a text begins with a letter, and bytes with 1
pub bytes_no_text : (a b : SidValue) (bytes : List ℕ) → SpellsSid a bytes → SpellsSidText b bytes → ⊥
unfolding sid_bytes
bytes_no_text a b bytes spelled text =
    let one : get_or bytes 0 0 ≡ 1 = ap (λ (t : List ℕ). get_or t 0 0) spelled.1 in
    let front = text.is_front in
    let begins : get_or bytes 0 0 ≡ front.letter =
    ap (λ (t : List ℕ). get_or t 0 0) (text.parts
    ∙ ap (λ (f : List ℕ). (f ++ text.authority) ++ others_text b.sub_authorities) front.parts) in
    elim front.is_s [ inl upper ↦ omega (arith, one, begins, upper) | inr lower ↦ omega (arith, one, begins, lower) ]

-- an identifier that the bytes are is the one that they encode
pub spelled_in_bytes : (sid : SidValue) (bytes : List ℕ) → SpellsSid sid bytes
    → ((other : SidValue) → SpellsSid other bytes → other ≡ sid)
    → IsSpelled sid bytes × ((other : SidValue) → IsSpelled other bytes → other ≡ sid)
spelled_in_bytes sid bytes spelled one = (
  inl spelled,
  λ other s. elim s [ inl binary ↦ one other binary | inr text ↦ absurd (bytes_no_text sid other bytes spelled text) ],
)

-- the same of the identifier that they are the text of
pub spelled_in_text : (sid : SidValue) (bytes : List ℕ) → ((other : SidValue) → SpellsSid other bytes → ⊥)
    → SpellsSidText sid bytes → ((other : SidValue) → SpellsSidText other bytes → other ≡ sid)
    → IsSpelled sid bytes × ((other : SidValue) → IsSpelled other bytes → other ≡ sid)
spelled_in_text sid bytes none spelled one = (
  inr spelled,
  λ other s. elim s [ inl binary ↦ absurd (none other binary) | inr text ↦ one other text ],
)

pub spelled_in_none : (bytes : List ℕ) → ((sid : SidValue) → SpellsSid sid bytes → ⊥)
    → ((sid : SidValue) → SpellsSidText sid bytes → ⊥) → (sid : SidValue) → IsSpelled sid bytes → ⊥
spelled_in_none bytes none no_text sid s = elim s [ inl binary ↦ none sid binary | inr text ↦ no_text sid text ]

-- no number of a width is written as one that doesn't fit
pub number_not_read : (w : Width) (bytes : List ℕ) (n : ℤ) → ((z : ℤ) → FitsSigned w z → mag z < 2 ^ 63)
    → mag n < 2 ^ 63 → (FitsSigned w n → ⊥) → bytes ≡ signed_decimal n → (v : Value) → IsNumber w bytes v → ⊥
number_not_read w bytes n small large out spelled v i =
    let same : i.number ≡ n = signed_decimal_injective i.number n (small i.number i.fits) large
    (sym i.spelled ∙ spelled) in
    out (subst (λ (z : ℤ). FitsSigned w z) same i.fits)

-- what a reader gave it gave alone
pub same_second : {A B E : Type 0} (r : Result (A × B) E) (a b : A × B) → r ≡ Ok a → r ≡ Ok b → a.1 ≡ b.1
same_second r a b e f = cc

pub same_first : {A B E : Type 0} (r : Result (A × B) E) (a b : A × B) → r ≡ Ok a → r ≡ Ok b → a.0 ≡ b.0
same_first r a b e f = cc
