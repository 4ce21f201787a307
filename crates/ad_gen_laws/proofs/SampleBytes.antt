-- The values of the sample's records are bytes.
use Rattle.std.proofs.Common.{◌≡◌, ℕ, zero, suc, ◌+◌, ◌*◌, ◌%◌, ◌<◌, ◌≤◌, Bool, true, List, [], ◌∷◌, ◌++◌, refl}
use Rattle.std.proofs.Common.{subst, sym, arith, codes, decimal}
use Rattle.std.specs.Prelude.{nat_lt, ◌&&◌}
use Rattle.std.specs.List.{AllByRecursion}
use Rattle.std.proofs.lemmas.Bool.{ltb-true, and_parts}
use Rattle.std.proofs.lemmas.Fmt.{decimal_by_steps}
use Rattle.ad_bytes.specs.Reading.{IsBytes}
use Rattle.ad_load_laws.proofs.ReadBytes.{EntryFits}
use Rattle.ad_load_laws.proofs.Symbols.{nothing_below, more_below}
use Rattle.ad_load_records.specs.Good.{HasBytes}
use Rattle.ad_gen_laws.specs.Base.{attributes, classes, rights, base}
use Rattle.ad_gen_laws.specs.Plain.{Plain, fields_from, entries_from, next_at}
use Rattle.ad_gen_laws.specs.Sample.{unit, user, users, units, fixed, objects, plains}
use Rattle.ad_gen_laws.specs.Sample.{domain, system, sd_holder, administrators}
use Rattle.ad_gen_laws.proofs.Closed.{all_of_both}
use Rattle.ad_gen_laws.proofs.Descriptors.{domain_bytes, protected_bytes, domain_is, protected_is}
use Rattle.ad_schema.specs.declared.line.Line.{Line}

-- ---- tests

are_bytes : List ℕ → Bool
are_bytes [] = true
are_bytes (b ∷ bytes) = nat_lt b 256 && are_bytes bytes

have_bytes : List Line → Bool
have_bytes [] = true
have_bytes (line ∷ lines) = are_bytes line.value && have_bytes lines

all_have : List Plain → Bool
all_have [] = true
all_have (p ∷ ps) = have_bytes p.lines && all_have ps

abbrev LinesFit : List Line → Type 0
LinesFit lines = AllByRecursion (λ (line : Line). IsBytes line.value) lines

abbrev PlainFits : Plain → Type 0
PlainFits p = LinesFit p.lines

bytes_are : (bytes : List ℕ) → are_bytes bytes ≡ true → IsBytes bytes
unfolding are_bytes
bytes_are [] test i = nothing_below i
bytes_are (b ∷ bytes) test zero = ltb-true b 256 (and_parts (nat_lt b 256) (are_bytes bytes) test).0
bytes_are (b ∷ bytes) test (suc i) = bytes_are bytes (and_parts (nat_lt b 256) (are_bytes bytes) test).1 i

lines_are : (lines : List Line) → have_bytes lines ≡ true → LinesFit lines
unfolding have_bytes
lines_are [] test = tt
lines_are (line ∷ lines) test =
    let both = and_parts (are_bytes line.value) (have_bytes lines) test in
    (bytes_are line.value both.0, lines_are lines both.1)

plains_are : (ps : List Plain) → all_have ps ≡ true → AllByRecursion PlainFits ps
unfolding all_have
plains_are [] test = tt
plains_are (p ∷ ps) test =
    let both = and_parts (have_bytes p.lines) (all_have ps) test in
    (lines_are p.lines both.0, plains_are ps both.1)

-- ---- the base schema

attributes_have : all_have attributes ≡ true
unfolding attributes all_have have_bytes are_bytes
attributes_have = refl

classes_have : all_have classes ≡ true
unfolding classes all_have have_bytes are_bytes
classes_have = refl

rights_have : all_have rights ≡ true
unfolding rights all_have have_bytes are_bytes
rights_have = refl

base_fits : AllByRecursion PlainFits base
unfolding base
base_fits = all_of_both PlainFits attributes (classes ++ rights) (plains_are attributes attributes_have)
    (all_of_both PlainFits classes rights (plains_are classes classes_have) (plains_are rights rights_have))

-- ---- the domain, its containers and the administrators

domain_below : are_bytes domain_bytes ≡ true
unfolding domain_bytes are_bytes
domain_below = refl

protected_below : are_bytes protected_bytes ≡ true
unfolding protected_bytes are_bytes
protected_below = refl

domain_fits : PlainFits domain
unfolding are_bytes
domain_fits = (
  bytes_are (codes "domainDNS") refl,
  (
    bytes_are (codes "S-1-5-21-1-2-3") refl,
    (subst IsBytes (sym domain_is) (bytes_are domain_bytes domain_below), tt),
  ),
)

sd_holder_fits : PlainFits sd_holder
unfolding are_bytes
sd_holder_fits = (
  bytes_are (codes "container") refl,
  (subst IsBytes (sym protected_is) (bytes_are protected_bytes protected_below), tt),
)

system_fits : PlainFits system
unfolding are_bytes
system_fits = (bytes_are (codes "container") refl, tt)

administrators_fits : PlainFits administrators
unfolding are_bytes
administrators_fits = (
  bytes_are (codes "group") refl,
  (bytes_are (codes "S-1-5-32-544") refl, (bytes_are (codes "CN=u1-1,OU=o1,DC=sample") refl, tt)),
)

fixed_fits : AllByRecursion PlainFits fixed
fixed_fits = (domain_fits, (system_fits, (sd_holder_fits, (administrators_fits, tt))))

-- ---- units and users

one_digit : (d : ℕ) → d < 10 → IsBytes ((48 + d) ∷ [])
one_digit d small zero = omega (arith, small)
one_digit d small (suc i) = nothing_below i

decimal_below : (n : ℕ) → n < 100000 → IsBytes (decimal n)
decimal_below n small = decimal_by_steps (λ m digits. IsBytes digits) one_digit
    (λ m digits large all. more_below digits ((48 + m % 10) ∷ []) all (one_digit (m % 10) (omega arith))) n
    (omega (arith, small))

user_fits : (i j : ℕ) → i < 1000 → j ≤ 10 → PlainFits (user i j)
unfolding are_bytes
user_fits i j few least = (
  bytes_are (codes "user") refl,
  (
    more_below (codes "S-1-5-21-1-2-3-") (decimal (1000 + 10 * i + j))
        (bytes_are (codes "S-1-5-21-1-2-3-") refl) (decimal_below (1000 + 10 * i + j) (omega (arith, few, least))),
    tt,
  ),
)

users_fit : (i j : ℕ) → i < 1000 → j ≤ 10 → AllByRecursion PlainFits (users i j)
unfolding users
users_fit i zero few least = tt
users_fit i (suc j) few least = all_of_both PlainFits (users i j) (user i (suc j) ∷ [])
    (users_fit i j few (omega (arith, least))) (user_fits i (suc j) few least, tt)

unit_fits : (i : ℕ) → PlainFits (unit i)
unfolding are_bytes
unit_fits i = (bytes_are (codes "organizationalUnit") refl, tt)

units_fit : (n : ℕ) → n ≤ 1000 → AllByRecursion PlainFits (units n)
unfolding units
units_fit zero few = tt
units_fit (suc i) few = all_of_both PlainFits (units i) (unit i ∷ users i 10) (units_fit i (omega (arith, few)))
    (unit_fits i, users_fit i 10 (omega (arith, few)) (omega arith))

pub plains_fit : (n : ℕ) → n ≤ 1000 → AllByRecursion PlainFits (plains n)
plains_fit n few = all_of_both PlainFits base (objects n) base_fits
    (all_of_both PlainFits fixed (units n) fixed_fits (units_fit n few))

-- ---- as the records of a text

fields_fit : (k : ℕ) (lines : List Line) → LinesFit lines → AllByRecursion HasBytes (fields_from k lines)
unfolding fields_from
fields_fit k [] all = tt
fields_fit k (line ∷ lines) all = (all.0, fields_fit (k + 1) lines all.1)

pub entries_fit : (k : ℕ) (ps : List Plain) → AllByRecursion PlainFits ps
    → AllByRecursion EntryFits (entries_from k ps)
unfolding entries_from
entries_fit k [] all = tt
entries_fit k (p ∷ ps) all = (fields_fit (k + 1) p.lines all.0, entries_fit (next_at k p) ps all.1)
