-- Laws of tests that the steps of the sweep rest on.
use Rattle.std.proofs.Common.{◌≡◌, ℕ, ◌<◌, Bool, true, false, not, ◌&&◌, ◌||◌, sym, refl, ap, ◌∙◌}
use Rattle.std.specs.Prelude.{◌==◌, if◌then◌else◌}
use Rattle.std.proofs.lemmas.Bool.{agree_below_at}
use Rattle.ad_acl.specs.Mask.{has_bit, mapped_has, write_owner, access_system_security}
use Rattle.ad_acl.proofs.MaskLaws.{has_bit-zero, has_bit-and}
use Rattle.std.proofs.Math.Bool.{and_assoc}
use Rattle.std.specs.Prelude.{bit_and}
use Rattle.ad_access.specs.Grant.{is_implicit_owner_right}

-- no right is among none
pub none_of : (rights bit : ℕ) (so : Bool) → rights ≡ 0 → has_bit 0 bit ≡ has_bit rights bit && so
none_of rights bit so none =
    let without : has_bit rights bit ≡ false = ap (λ (n : ℕ). has_bit n bit) none ∙ has_bit-zero bit in
    has_bit-zero bit ∙ ap (λ (b : Bool). b && so) (sym without)

-- the rights that are named by one bit, and those of owners
pub has_bit-system : (bit : ℕ) → bit < 32 → has_bit 0x100_0000 bit ≡ (bit == access_system_security)
unfolding has_bit
has_bit-system bit lt = agree_below_at (has_bit 0x100_0000) (λ (n : ℕ). n == access_system_security) 32 bit refl lt

pub has_bit-write_owner : (bit : ℕ) → bit < 32 → has_bit 0x8_0000 bit ≡ (bit == write_owner)
unfolding has_bit
has_bit-write_owner bit lt = agree_below_at (has_bit 0x8_0000) (λ (n : ℕ). n == write_owner) 32 bit refl lt

pub has_bit-of_owners : (bit : ℕ) → bit < 32 → has_bit 0x6_0000 bit ≡ is_implicit_owner_right bit
unfolding has_bit
has_bit-of_owners bit lt = agree_below_at (has_bit 0x6_0000) is_implicit_owner_right 32 bit refl lt

system_or_owner : (bit : ℕ) → bit < 32 → (bit == access_system_security) && (bit == write_owner) ≡ false
system_or_owner bit lt = agree_below_at (λ (n : ℕ). (n == access_system_security) && (n == write_owner))
    (λ (n : ℕ). false) 32 bit refl lt

by_cases : (wanted system owner security take holders : Bool) → system && owner ≡ false
    → (wanted && ((system && security) || (owner && take)))
    || ((wanted && not system && not (wanted && ((system && security) || (owner && take)))) && holders) ≡ wanted
    && (if system then security else (if owner && take then true else holders))
by_cases false system owner security take holders e = refl
by_cases true true true security take holders e = absurd cc
by_cases true true false true take holders e = refl
by_cases true true false false take holders e = refl
by_cases true false true security true holders e = refl
by_cases true false true security false holders e = refl
by_cases true false false security take holders e = refl

-- a right is granted by privilege, or, where it is not to the SACL, by the principals
pub by_privilege_or_holders : (bit : ℕ) (wanted security take holders : Bool) → bit < 32
    → (wanted && (((bit == access_system_security) && security) || ((bit == write_owner) && take)))
    || ((wanted && not (bit == access_system_security)
    && not (wanted && (((bit == access_system_security) && security) || ((bit == write_owner) && take)))) && holders)
    ≡ wanted && (if bit == access_system_security then security
    else (if (bit == write_owner) && take then true else holders))
by_privilege_or_holders bit wanted security take holders lt = by_cases wanted (bit == access_system_security)
    (bit == write_owner) security take holders (system_or_owner bit lt)

-- the rights of a mapped mask among others, where this is so
pub of_mask : (undecided mapped mask bit : ℕ) (so : Bool) → has_bit mapped bit ≡ mapped_has mask bit
    → has_bit (bit_and undecided mapped) bit && so ≡ has_bit undecided bit && (mapped_has mask bit && so)
of_mask undecided mapped mask bit so e =
    ap (λ (b : Bool). b && so) (has_bit-and undecided mapped bit ∙ ap (λ (b : Bool). has_bit undecided bit && b) e)
    ∙ and_assoc (has_bit undecided bit) (mapped_has mask bit) so

-- what is decided, in the order in which it is asked
pub for_holder : (undecided mapped spoken matched : Bool) → (undecided && (mapped && spoken)) && matched ≡ undecided
    && ((spoken && matched) && mapped)
for_holder false mapped spoken matched = refl
for_holder true false false matched = refl
for_holder true false true false = refl
for_holder true false true true = refl
for_holder true true false matched = refl
for_holder true true true false = refl
for_holder true true true true = refl

pub on_path : (undecided mapped spoken about matched : Bool) → ((undecided && (mapped && spoken)) && about) && matched
    ≡ undecided && (((spoken && about) && matched) && mapped)
on_path false mapped spoken about matched = refl
on_path true false false about matched = refl
on_path true false true false matched = refl
on_path true false true true false = refl
on_path true false true true true = refl
on_path true true false about matched = refl
on_path true true true false matched = refl
on_path true true true true false = refl
on_path true true true true true = refl
