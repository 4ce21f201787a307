-- The text of the sample isn't too long.
use Rattle.std.proofs.Common.{◌≡◌, ℕ, zero, suc, ◌+◌, ◌*◌, ◌<◌, ◌≤◌, true, nat_le, List, [], ◌∷◌, ◌++◌, length}
use Rattle.std.proofs.Common.{length-append, refl, arith, codes}
use Rattle.std.proofs.Common.{decimal}
use Rattle.std.proofs.lemmas.Bool.{le-leb, leb-true}
use Rattle.base64.proofs.OnLiterals.{base64_on_literals}
use Rattle.ad_load_records.specs.Records.{max_text}
use Rattle.ad_gen.specs.Descriptor.{descriptor_bytes}
use Rattle.ad_gen.specs.Ldif.{ldif}
use Rattle.ad_gen.specs.Lines.{encoded_line}
use Rattle.ad_gen.specs.Objects.{domain_descriptor, protected_descriptor, descriptor_line, domain, containers}
use Rattle.ad_gen.specs.Objects.{administrators, unit, user, users}
use Rattle.ad_gen.specs.Objects.{units}
use Rattle.ad_gen.specs.Schema.{schema}
use Rattle.ad_gen_laws.proofs.Descriptors.{domain_bytes, protected_bytes, domain_is, protected_is}
use Rattle.ad_gen_laws.proofs.Units.{number_few}
use Rattle.ad_gen_laws.proofs.OnTexts.{on_texts}

schema_test : nat_le (length schema) 10000 ≡ true
unfolding on_texts base64_on_literals
schema_test = refl

line_few : (bytes : List ℕ) → ℕ
line_few bytes = length (encoded_line (codes "nTSecurityDescriptor") bytes ++ 10 ∷ [])

domain_line : nat_le (length (encoded_line (codes "nTSecurityDescriptor") domain_bytes ++ 10 ∷ [])) 1000 ≡ true
unfolding domain_bytes encoded_line base64_on_literals
domain_line = refl

protected_line : nat_le (length (encoded_line (codes "nTSecurityDescriptor") protected_bytes ++ 10 ∷ [])) 1000 ≡ true
unfolding protected_bytes encoded_line base64_on_literals
protected_line = refl

domain_few : length domain ≤ 2000
unfolding domain descriptor_line
domain_few =
    let d : length (encoded_line (codes "nTSecurityDescriptor") (descriptor_bytes domain_descriptor) ++ 10 ∷ [])
    ≤ 1000 = rw domain_is (leb-true _ _ domain_line) in
    omega (arith, d)

containers_few : length containers ≤ 2000
unfolding containers descriptor_line
containers_few =
    let d : length (encoded_line (codes "nTSecurityDescriptor") (descriptor_bytes protected_descriptor) ++ 10 ∷ [])
    ≤ 1000 = rw protected_is (leb-true _ _ protected_line) in
    omega (arith, d)

unit_few : (i : ℕ) → i < 1000 → length (unit i) ≤ 100
unfolding unit
unit_few i few =
    let d = number_few (i + 1) (omega (arith, few)) in
    omega (arith, d, length-append (decimal (i + 1)) (codes ",DC=sample\nobjectClass: organizationalUnit\n\n"))

user_few : (i j : ℕ) → i < 1000 → j ≤ 10 → length (user i j) ≤ 200
unfolding user
user_few i j few least =
    let a = number_few (i + 1) (omega (arith, few)) in
    let b = number_few j (omega (arith, least)) in
    let c = number_few (1000 + 10 * i + j) (omega (arith, few, least)) in
    let r4 = decimal (1000 + 10 * i + j) ++ codes "\n\n" in
    let r3 = decimal (i + 1) ++ (codes ",DC=sample\nobjectClass: user\nobjectSid: S-1-5-21-1-2-3-" ++ r4) in
    let r2 = decimal j ++ (codes ",OU=o" ++ r3) in
    omega (
      arith,
      a,
      b,
      c,
      length-append (decimal (1000 + 10 * i + j)) (codes "\n\n"),
      length-append (decimal (i + 1)) (codes ",DC=sample\nobjectClass: user\nobjectSid: S-1-5-21-1-2-3-" ++ r4),
      length-append (decimal j) (codes ",OU=o" ++ r3),
      length-append (decimal (i + 1)) (codes "-" ++ r2),
    )

users_few : (i j : ℕ) → i < 1000 → j ≤ 10 → length (users i j) ≤ 200 * j
unfolding users
users_few i zero few least = omega arith
users_few i (suc j) few least =
    omega (
      arith,
      users_few i j few (omega (arith, least)),
      user_few i (suc j) few least,
      length-append (users i j)
          (user i (suc j)),
    )

units_few : (n : ℕ) → n ≤ 1000 → length (units n) ≤ 2100 * n
unfolding units
units_few zero few = omega arith
units_few (suc i) few =
    let less : i < 1000 = omega (arith, few) in
    omega (
      arith,
      units_few i (omega (arith, few)),
      unit_few i less,
      users_few i 10 less (omega arith),
      length-append (units i) (unit i ++ users i 10),
      length-append (unit i) (users i 10),
    )

pub text_few : (n : ℕ) → n ≤ 1000 → nat_le (length (ldif n)) max_text ≡ true
unfolding ldif max_text
text_few n few =
    le-leb (length (schema ++ (domain ++ (containers ++ (administrators ++ units n))))) 67108864 (omega (
      arith,
      few,
      leb-true (length schema) 10000 schema_test,
      domain_few,
      containers_few,
      units_few n few,
      length-append schema (domain ++ (containers ++ (administrators ++ units n))),
      length-append domain (containers ++ (administrators ++ units n)),
      length-append containers (administrators ++ units n),
    ))
