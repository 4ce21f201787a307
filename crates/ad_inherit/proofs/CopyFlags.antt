-- Which flags copies have.
use Rattle.std.proofs.Common.{◌≡◌, ℕ, ◌^◌, Bool, true, false, not, ◌||◌, ◌&&◌, ap, ◌∙◌, refl}
use Rattle.std.proofs.Math.Bool.{or-true}
use Rattle.std.specs.Prelude.{nat_eq, bit_and, bit_or}
use Rattle.std.specs.Int.Bits.{and_zero_r}
use Rattle.std.specs.List.{list_all}
use Rattle.std.proofs.lemmas.Nat.{and_or_apart, and_assoc}
use Rattle.ad_ids.specs.declared.guid.Guid.{Guid}
use Rattle.ad_ids.specs.SidValue.{SidValue}
use Rattle.ad_acl.specs.Entry.{Entry}
use Rattle.ad_acl.specs.Mask.{has_bit}
use Rattle.ad_acl.proofs.MaskLaws.{has_bit-or, masked}
use Rattle.ad_inherit.specs.Flags.{inherit_only, inherited, has}
use Rattle.ad_inherit.specs.Copies.{fits, copies_by, copies}

-- the bit 0x20 stays clear, where neither the flags that are kept nor those that are put on have it
pub clear_of_20 : (flags kept more : ℕ) → bit_and kept 32 ≡ 0 → bit_and more 32 ≡ 0
    → bit_and (bit_or (bit_and flags kept) more) 32 ≡ 0
clear_of_20 flags kept more not_kept clear =
    and_or_apart 32 (bit_and flags kept) more clear
    ∙ and_assoc 32 flags kept
    ∙ ap (bit_and flags) not_kept
    ∙ and_zero_r flags

-- a flag that is put on is there
put_on : (flags more k : ℕ) → has_bit more k ≡ true
    → not (nat_eq (bit_and (bit_or (bit_and flags 192) more) (2 ^ k)) 0) ≡ true
put_on flags more k there =
    masked (bit_or (bit_and flags 192) more) k
    ∙ has_bit-or (bit_and flags 192) more k
    ∙ ap (λ (b : Bool). has_bit (bit_and flags 192) k || b) there
    ∙ or-true (has_bit (bit_and flags 192) k)

-- the flags of the three kinds of copies
bits_of_16 : has_bit 16 4 ≡ true
unfolding has_bit
bits_of_16 = refl

bits_of_18 : has_bit 18 4 ≡ true
unfolding has_bit
bits_of_18 = refl

bits_of_26 : has_bit 26 4 ≡ true
unfolding has_bit
bits_of_26 = refl

only_of_26 : has_bit 26 3 ≡ true
unfolding has_bit
only_of_26 = refl

-- what passes of each kind of copies passes of all
each_kind : (p : Entry → Bool) (fits stops creator : Bool) (x y z : Entry) → p x ≡ true → p y ≡ true → p z ≡ true
    → list_all p (copies_by fits stops creator x y z) ≡ true
each_kind p true true creator x y z hx hy hz = ap (λ (b : Bool). b && true) hx
each_kind p true false true x y z hx hy hz = ap (λ (b : Bool). b && (p y && true)) hx ∙ ap (λ (b : Bool). b && true) hy
each_kind p true false false x y z hx hy hz = ap (λ (b : Bool). b && true) hz
each_kind p false false creator x y z hx hy hz = ap (λ (b : Bool). b && true) hy
each_kind p false true creator x y z hx hy hz = refl

-- of an entry that doesn't fit there are copies of the second kind alone
other_kind : (p : Entry → Bool) (fits stops creator : Bool) (x y z : Entry) → fits ≡ false → p y ≡ true
    → list_all p (copies_by fits stops creator x y z) ≡ true
other_kind p true stops creator x y z unfit hy = absurd (cc unfit)
other_kind p false false creator x y z unfit hy = ap (λ (b : Bool). b && true) hy
other_kind p false true creator x y z unfit hy = refl

pub each_inherited : (entry : Entry) (class : Guid) (owner group : SidValue) → list_all (λ copy. has copy inherited)
    (copies entry class owner group) ≡ true
unfolding copies
each_inherited entry class owner group = each_kind (λ copy. has copy inherited) _ _ _ _ _ _
    (put_on entry.flags 16 4 bits_of_16) (put_on entry.flags 26 4 bits_of_26) (put_on entry.flags 18 4 bits_of_18)

pub none_effective : (entry : Entry) (class : Guid) (owner group : SidValue) → fits entry class ≡ false
    → list_all (λ copy. has copy inherit_only) (copies entry class owner group) ≡ true
unfolding copies
none_effective entry class owner group unfit = other_kind (λ copy. has copy inherit_only) _ _ _ _ _ _ unfit
    (put_on entry.flags 26 3 only_of_26)
