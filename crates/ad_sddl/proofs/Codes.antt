-- Codes, as they are read one after the other.
use Rattle.std.proofs.Common.{Bool, true, false, max, ◌≡◌, ℕ, zero, suc, ◌<◌, if◌then◌else◌, Option, Some, None}
use Rattle.std.proofs.Common.{unwrap_or, List, [], ◌∷◌, length, drop, Result, Ok, Err, codes, refl, sym, ap, subst}
use Rattle.std.proofs.Common.{◌∙◌, arith}
use Rattle.std.specs.Prelude.{bit_or, bit_and}
use Rattle.std.specs.List.{AllByRecursion}
use Rattle.std.specs.Int.{bit_at}
use Rattle.std.proofs.lemmas.Nat.{le_or_l}
use Rattle.std.proofs.lemmas.Nat.Bits.{bit_at_or, and_pow, same_from_bits}
use Rattle.ad_bytes.specs.Reading.{Reading, ◌>>=◌}
use Rattle.ad_bytes.specs.Numbers.{byte_at}
use Rattle.ad_bytes.proofs.Steps.{from_bind, from_ok}
use Rattle.ad_sddl.specs.declared.fault.SddlKind.{SddlKind}
use Rattle.ad_sddl.specs.declared.fault.ParseError.{ParseError}
use Rattle.ad_acl.specs.declared.codes.Code.{Code}
use Rattle.ad_sddl.specs.Words.{begins, find, are_letters}
use Rattle.ad_acl.specs.Codes.{flag_codes}
use Rattle.ad_sddl.specs.Reading.{stop, code_at, codes_at, field_at}

-- ---- the loop

pub codes_done : (table : List Code) (kind : SddlKind) (n mask : ℕ) (bytes : List ℕ) → length bytes < n
    → begins (codes ";") bytes ≡ true → codes_at table kind n mask bytes ≡ Ok (mask, drop 1 bytes)
unfolding codes_at
codes_done table kind zero mask bytes lt e = absurd (omega (arith, lt))
codes_done table kind (suc n) mask bytes lt e = rw e refl

pub codes_more : (table : List Code) (kind : SddlKind) (n mask : ℕ) (bytes : List ℕ) (bits : ℕ) (after : List ℕ)
    (total : Reading ℕ ParseError) → length bytes < n → begins (codes ";") bytes ≡ false
    → code_at table kind bytes ≡ Ok (bits, after) → length after < length bytes → codes_at table kind n mask bytes
    ≡ total
    → (m : ℕ) × ((length after < m) × (codes_at table kind m (bit_or mask bits) after ≡ total))
unfolding codes_at
codes_more table kind zero mask bytes bits after total lt e read shorter so_far = absurd (omega (arith, lt))
codes_more table kind (suc n) mask bytes bits after total lt e read shorter so_far =
    let one : codes_at table kind (suc n) mask bytes ≡ codes_at table kind n (bit_or mask bits) after
    = rw (e, read) refl in
    (n, (omega (arith, lt, shorter), sym one ∙ so_far))

pub codes_stop : (table : List Code) (kind : SddlKind) (n mask : ℕ) (bytes : List ℕ) (fault : ParseError)
    (total : Reading ℕ ParseError) → length bytes < n → begins (codes ";") bytes ≡ false
    → code_at table kind bytes ≡ Err fault → codes_at table kind n mask bytes ≡ total → total ≡ Err fault
unfolding codes_at
codes_stop table kind zero mask bytes fault total lt e read so_far = absurd (omega (arith, lt))
codes_stop table kind (suc n) mask bytes fault total lt e read so_far =
    let one : codes_at table kind (suc n) mask bytes ≡ Err fault = rw (e, read) refl in
    sym so_far ∙ one

-- ---- bits

pub or_assoc : (a b c : ℕ) → bit_or (bit_or a b) c ≡ bit_or a (bit_or b c)
or_assoc a b c = same_from_bits (bit_or (bit_or a b) c) (bit_or a (bit_or b c))
    (λ i. rw (bit_at_or (bit_or a b) c i, bit_at_or a b i, bit_at_or a (bit_or b c) i, bit_at_or b c i)
    (max_assoc (bit_at a i) (bit_at b i) (bit_at c i)))
  where
    max_assoc : (x y z : ℕ) → max (max x y) z ≡ max x (max y z)
    max_assoc x y z = omega arith

-- all bits of the one are bits of the other
abbrev pub Within : ℕ → ℕ → Type 0
Within all mask = bit_or mask all ≡ all

within_or : (all a b : ℕ) → Within all a → Within all b → Within all (bit_or a b)
within_or all a b p q = or_assoc a b all ∙ ap (λ (x : ℕ). bit_or a x) q ∙ p

-- what has to be there, under a fault
abbrev pub or_else_stop : {A : Type 0} → ParseError → Option A → Result A ParseError
or_else_stop fault None = Err fault
or_else_stop fault (Some x) = Ok x

-- ---- a code that is found

some_code : (d c : Code) → Some d ≡ Some c → d ≡ c
some_code d c e = ap (λ (o : Option Code). unwrap_or o d) e

elim_if : (is : Bool) (d c : Code) (others : Option Code) (P : Code → Type 0) → P d → (others ≡ Some c → P c)
    → (if is then Some d else others) ≡ Some c → P c
elim_if true d c others P here there e = subst P (some_code d c e) here
elim_if false d c others P here there e = there e

pub found_all : (P : Code → Type 0) (table : List Code) (a b : ℕ) (c : Code) → AllByRecursion P table → find table a b
    ≡ Some c → P c
found_all P [] a b c all e = absurd cc
found_all P (d ∷ table) a b c all e = elim_if (are_letters a b d.letters) d c (find table a b) P all.0
    (found_all P table a b c all.1) e

-- ---- the flags

-- the code at the beginning
pub record CodeIs (table : List Code) (bytes : List ℕ) (bits : ℕ) (after : List ℕ) : Type 0 where
  pub first : ℕ
  pub second : ℕ
  pub code : Code
  pub parts : bytes ≡ first ∷ second ∷ after
  pub found : find table first second ≡ Some code
  pub bits_are : code.bits ≡ bits

code_chosen : (table : List Code) (a b : ℕ) (rest : List ℕ) (bits : ℕ) (after : List ℕ) (fault : ParseError)
    (o : Option Code) → find table a b ≡ o
    → ◌>>=◌ {B = ℕ × List ℕ} (or_else_stop fault o) (λ code. Ok (code.bits, rest)) ≡ Ok (bits, after)
    → CodeIs table (a ∷ b ∷ rest) bits after
code_chosen table a b rest bits after fault None found e = absurd cc
code_chosen table a b rest bits after fault (Some code) found e =
    let same : (code.bits, rest) ≡ (bits, after) = from_ok {E = ParseError} (code.bits, rest) (bits, after) e in
    record {
      first = a;
      second = b;
      code = code;
      parts = ap (λ (p : ℕ × List ℕ). a ∷ b ∷ p.1) same;
      found = found;
      bits_are = ap (λ (p : ℕ × List ℕ). p.0) same;
    }

pub code_is : (table : List Code) (kind : SddlKind) (bytes : List ℕ) (bits : ℕ) (after : List ℕ)
    → code_at table kind bytes ≡ Ok (bits, after) → CodeIs table bytes bits after
unfolding code_at byte_at
code_is table kind [] bits after e = absurd cc
code_is table kind (a ∷ []) bits after e = absurd cc
code_is table kind (a ∷ b ∷ rest) bits after e = code_chosen table a b rest bits after (stop kind (a ∷ b ∷ rest))
    (find table a b) refl e

-- what a field that was read is: at its end, or after a code
pub record CodeThen (table : List Code) (kind : SddlKind) (n mask : ℕ) (bytes : List ℕ) (read : ℕ) (rest : List ℕ)
    : Type 0 where
  pub bits : ℕ
  pub after : List ℕ
  pub code : code_at table kind bytes ≡ Ok (bits, after)
  pub others : codes_at table kind n (bit_or mask bits) after ≡ Ok (read, rest)

pub codes_if : (end : Bool) (table : List Code) (kind : SddlKind) (n mask : ℕ) (bytes : List ℕ) (read : ℕ)
    (rest : List ℕ) (P : Type 0)
    → (if end then Ok (mask, drop 1 bytes)
    else (code_at table kind bytes >>= λ bits. codes_at table kind n (bit_or mask bits.0) bits.1))
    ≡ Ok (read, rest)
    → (end ≡ true → mask ≡ read → drop 1 bytes ≡ rest → P) → (CodeThen table kind n mask bytes read rest → P) → P
codes_if true table kind n mask bytes read rest P e at_end behind =
    let same : (mask, drop 1 bytes) ≡ (read, rest) = from_ok {E = ParseError} (mask, drop 1 bytes) (read, rest) e in
    at_end refl (ap (λ (p : ℕ × List ℕ). p.0) same) (ap (λ (p : ℕ × List ℕ). p.1) same)
codes_if false table kind n mask bytes read rest P e at_end behind =
    from_bind (code_at table kind bytes) _ (read, rest) e
    (λ (c : ℕ × List ℕ) (e1 : code_at table kind bytes ≡ Ok c) (e2 : codes_at table kind n (bit_or mask c.0) c.1
    ≡ Ok (read, rest)).
    behind (record { bits = c.0; after = c.1; code = e1; others = e2 }))

-- all bits of a mask that was read are among those of the table
pub codes_within : (table : List Code) (all : ℕ) (kind : SddlKind) → AllByRecursion (λ c. Within all c.bits) table
    → (n mask : ℕ) (bytes : List ℕ) (read : ℕ) (rest : List ℕ) → Within all mask → codes_at table kind n mask bytes
    ≡ Ok (read, rest) → Within all read
unfolding codes_at
codes_within table all kind each zero mask bytes read rest so_far e = absurd cc
codes_within table all kind each (suc n) mask bytes read rest so_far e =
    codes_if (begins (codes ";") bytes) table kind n mask bytes read rest (Within all read) e
    (λ _ same _. subst (Within all) same so_far)
    (λ t.
    let c = code_is table kind bytes t.bits t.after t.code in
    let bits : Within all t.bits = subst (Within all) c.bits_are
    (found_all (λ (d : Code). Within all d.bits) table c.first c.second c.code each c.found) in
    codes_within table all kind each n (bit_or mask t.bits) t.after read rest (within_or all mask t.bits so_far bits)
    t.others)

all_within : AllByRecursion (λ c. Within 223 c.bits) flag_codes
unfolding flag_codes
all_within = (refl, (refl, (refl, (refl, (refl, (refl, (refl, tt)))))))

pub flags_within : (table : List Code) (kind : SddlKind) (bytes : List ℕ) (read : ℕ) (rest : List ℕ) → table
    ≡ flag_codes → field_at table kind bytes ≡ Ok (read, rest) → Within 223 read
flags_within table kind bytes read rest is e = codes_within table 223 kind
    (subst (AllByRecursion (λ c. Within 223 c.bits)) (sym is) all_within) (suc (length bytes)) 0 bytes read rest refl
    e

-- no flag is 0x20
pub flags_clear : (flags : ℕ) → Within 223 flags → bit_and flags 32 ≡ 0
flags_clear flags within =
    let bit : max (bit_at flags 5) (bit_at 223 5) ≡ bit_at 223 5 = sym (bit_at_or flags 223 5)
    ∙ ap (λ (x : ℕ). bit_at x 5) within in
    let none : bit_at flags 5 ≡ 0 = omega (arith, bit) in
    and_pow flags 5 ∙ rw none refl

pub flags_fit : (flags : ℕ) → Within 223 flags → flags < 256
flags_fit flags within = omega (arith, le_or_l flags 223, within)
