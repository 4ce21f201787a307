-- What the tests of a step tell.
use Rattle.std.proofs.Common.{Bool, eqb, ◌≡◌, ◌⊎◌, inl, inr, ℕ, ◌<◌, true, false, if◌then◌else◌, Option, Some, None}
use Rattle.std.proofs.Common.{refl, arith}
use Rattle.std.specs.Prelude.{◌||◌, not}
use Rattle.std.proofs.lemmas.Bool.{or_parts, and_parts, not-true}
use Rattle.std.proofs.lemmas.Bool.Decides.{nat_tests}
use Rattle.uuid.specs.Text.{is_hex_digit, value_of}
use Rattle.ad_dn.specs.Grammar.{is_reserved, is_special, plain, is_piece}

pub if_some : {A : Type 0} (t : Bool) (x : Option A) (u : A) → (if t then x else None) ≡ Some u → (t ≡ true)
    × (x ≡ Some u)
if_some true x u e = (refl, e)
if_some false x u e = absurd cc

pub if_none : {A : Type 0} (t : Bool) (x : Option A) (u : A) → (if t then None else x) ≡ Some u → (t ≡ false)
    × (x ≡ Some u)
if_none true x u e = absurd cc
if_none false x u e = (refl, e)

pub if_either : {A : Type 0} (t : Bool) (x y : Option A) (u : A) → (if t then x else y) ≡ Some u
    → ((t ≡ true) × (x ≡ Some u)) ⊎ ((t ≡ false) × (y ≡ Some u))
if_either true x y u e = inl (refl, e)
if_either false x y u e = inr (refl, e)

-- a byte that stands by itself is no comma and no \
pub record IsPlain (b : ℕ) : Type 0 where
  pub reserved : is_reserved b ≡ false
  pub nul : eqb b 0 ≡ false
  pub comma : eqb b 44 ≡ false
  pub mark : eqb b 92 ≡ false

reserved_parts : (b : ℕ) → is_reserved b ≡ false → (eqb b 44 ≡ false) × (eqb b 92 ≡ false)
reserved_parts b e =
    let a = or_parts ((eqb b 34 || eqb b 43 || eqb b 44) || eqb b 59 || eqb b 60 || eqb b 62) (eqb b 92) e in
    let c = or_parts ((eqb b 34 || eqb b 43 || eqb b 44) || eqb b 59 || eqb b 60) (eqb b 62) a.0 in
    let d = or_parts ((eqb b 34 || eqb b 43 || eqb b 44) || eqb b 59) (eqb b 60) c.0 in
    let f = or_parts (eqb b 34 || eqb b 43 || eqb b 44) (eqb b 59) d.0 in
    let g = or_parts (eqb b 34 || eqb b 43) (eqb b 44) f.0 in
    (g.1, a.1)

pub is_plain_of : (b : ℕ) → is_reserved b ≡ false → eqb b 0 ≡ false → IsPlain b
is_plain_of b r z = record { reserved = r; nul = z; comma = (reserved_parts b r).0; mark = (reserved_parts b r).1 }

pub plain_is : (b : ℕ) → is_piece (plain b) ≡ true → IsPlain b
plain_is b e =
    let p = and_parts (not (is_reserved b)) (not (eqb b 0)) e in
    is_plain_of b (not-true (is_reserved b) p.0) (not-true (eqb b 0) p.1)

-- a hexadecimal digit is no special character
pub hex_not_special : (b : ℕ) → is_hex_digit b ≡ true → is_special b ≡ false
hex_not_special b e = grind (arith, nat_tests)

pub hex_below : (b : ℕ) → is_hex_digit b ≡ true → value_of b < 16
hex_below b e = grind (arith, nat_tests)
