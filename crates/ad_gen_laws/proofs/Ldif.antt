-- The text of the sample is that of its records.
use Rattle.std.proofs.Common.{◌≡◌, ◌∙◌, ℕ, zero, suc, ◌+◌, ◌*◌, ◌<◌, ◌≤◌, List, [], ◌∷◌, ◌++◌, None, refl, sym, ap}
use Rattle.std.proofs.Common.{subst, append_assoc, arith, codes}
use Rattle.std.proofs.Common.{decimal}
use Rattle.std.specs.List.{AllByRecursion}
use Rattle.std.proofs.lemmas.List.{append-nil}
use Rattle.base64.proofs.OnLiterals.{base64_on_literals}
use Rattle.ad_dn.specs.Text.{rdns_text, value_text}
use Rattle.ad_ldif.specs.Story.{story}
use Rattle.ad_gen.specs.Ldif.{ldif}
use Rattle.ad_gen.specs.Lines.{encoded_line}
use Rattle.ad_gen.specs.Objects.{descriptor_line, domain as put_domain, containers as put_containers}
use Rattle.ad_gen.specs.Objects.{administrators as put_administrators}
use Rattle.ad_gen.specs.Objects.{unit as put_unit, user as put_user, users as put_users, units as put_units}
use Rattle.ad_gen.specs.Schema.{schema}
use Rattle.ad_gen_laws.specs.Plain.{Plain, line, entries_from}
use Rattle.ad_gen_laws.specs.Base.{attributes, classes, rights, base}
use Rattle.ad_gen_laws.specs.Sample.{domain, system, sd_holder, administrators, objects, plains, unit, user, users}
use Rattle.ad_gen_laws.specs.Sample.{units}
use Rattle.ad_gen_laws.proofs.Blocks.{flat, story_from}
use Rattle.ad_gen_laws.proofs.Texts.{text_of, texts, texts_both, Reads, all_told}
use Rattle.ad_gen_laws.proofs.Closed.{all_of_both, base_reads}
use Rattle.ad_gen_laws.proofs.Descriptors.{domain_bytes, protected_bytes, domain_is, protected_is}
use Rattle.ad_gen_laws.proofs.Units.{unit_dn, user_dn, unit_reads, user_reads}
use Rattle.ad_gen_laws.proofs.OnRecords.{on_records, on_lines}
use Rattle.ad_gen_laws.proofs.OnTexts.{on_texts}

-- ---- the schema

schema_text : schema ≡ texts base
unfolding on_texts base attributes classes rights texts flat rdns_text value_text base64_on_literals
schema_text = refl

-- ---- the fixed objects, with descriptors of these bytes

abbrev domain_with : List ℕ → Plain
domain_with bytes = record {
  rdns = domain.rdns;
  lines = line (codes "objectClass") (codes "domainDNS")
      ∷ line (codes "objectSid") (codes "S-1-5-21-1-2-3") ∷ line (codes "nTSecurityDescriptor") bytes ∷ [];
}

abbrev holder_with : List ℕ → Plain
holder_with bytes = record {
  rdns = sd_holder.rdns;
  lines = line (codes "objectClass") (codes "container")
      ∷ line (codes "nTSecurityDescriptor") bytes ∷ [];
}

domain_bytes_text : codes "dn: DC=sample\nobjectClass: domainDNS\nobjectSid: S-1-5-21-1-2-3\n"
    ++ (encoded_line (codes "nTSecurityDescriptor") domain_bytes ++ 10 ∷ []) ≡ text_of (domain_with domain_bytes)
unfolding domain_bytes encoded_line flat rdns_text value_text base64_on_literals
domain_bytes_text = refl

domain_text : put_domain ≡ text_of domain
unfolding put_domain descriptor_line
domain_text = subst (λ (b : List ℕ). codes "dn: DC=sample\nobjectClass: domainDNS\nobjectSid: S-1-5-21-1-2-3\n"
    ++ (encoded_line (codes "nTSecurityDescriptor") b ++ 10 ∷ []) ≡ text_of (domain_with b)) (sym domain_is)
    domain_bytes_text

-- both, up to the descriptor of the second
abbrev before_holder : List ℕ
before_holder =
    codes "dn: CN=System,DC=sample\nobjectClass: container\n\ndn: CN=AdminSDHolder,CN=System,DC=sample\nobjectClass: container\n"

holder_bytes_text : before_holder ++ (encoded_line (codes "nTSecurityDescriptor") protected_bytes ++ 10 ∷ [])
    ≡ text_of system ++ text_of (holder_with protected_bytes)
unfolding protected_bytes encoded_line flat rdns_text value_text base64_on_literals
holder_bytes_text = refl

containers_text : put_containers ≡ text_of system ++ text_of sd_holder
unfolding put_containers descriptor_line
containers_text = subst (λ (b : List ℕ). before_holder ++ (encoded_line (codes "nTSecurityDescriptor") b ++ 10 ∷ [])
    ≡ text_of system ++ text_of (holder_with b)) (sym protected_is) holder_bytes_text

administrators_text : put_administrators ≡ text_of administrators
unfolding flat rdns_text value_text base64_on_literals
administrators_text = refl

-- ---- units and users

unit_same : (i : ℕ) → i < 1000 → text_of (unit i) ≡ put_unit i
unfolding put_unit flat
unit_same i few =
    ap (λ (text : List ℕ). flat ((codes "dn: " ++ text) ∷ codes "objectClass: organizationalUnit" ∷ [])) (unit_dn i few)
    ∙ ap (λ (more : List ℕ). codes "dn: OU=o" ++ more)
    (append_assoc (decimal (i + 1)) (codes ",DC=sample") (codes "\nobjectClass: organizationalUnit\n\n"))

regrouped : (a b x y : List ℕ) → ((a ++ (codes "-" ++ b)) ++ (codes ",OU=o" ++ (a ++ x))) ++ y ≡ a
    ++ (codes "-" ++ (b ++ (codes ",OU=o" ++ (a ++ (x ++ y)))))
regrouped a b x y = simp append_assoc

user_same : (i j : ℕ) → i < 1000 → j ≤ 10 → text_of (user i j) ≡ put_user i j
unfolding put_user flat
user_same i j few least =
    ap (λ (text : List ℕ). flat ((codes "dn: " ++ text) ∷ codes "objectClass: user"
    ∷ (codes "objectSid: S-1-5-21-1-2-3-" ++ decimal (1000 + 10 * i + j)) ∷ [])) (user_dn i j few least)
    ∙ ap (λ (more : List ℕ). codes "dn: CN=u" ++ more)
    (regrouped (decimal (i + 1)) (decimal j) (codes ",DC=sample")
    (codes "\nobjectClass: user\nobjectSid: S-1-5-21-1-2-3-" ++ (decimal (1000 + 10 * i + j) ++ codes "\n\n")))

one_text : (p : Plain) → texts (p ∷ []) ≡ text_of p
unfolding texts
one_text p = append-nil (text_of p)

users_text : (i j : ℕ) → i < 1000 → j ≤ 10 → texts (users i j) ≡ put_users i j
unfolding users put_users texts
users_text i zero few least = refl
users_text i (suc j) few least =
    texts_both (users i j) (user i (suc j) ∷ [])
    ∙ ap (λ (t : List ℕ). t ++ texts (user i (suc j) ∷ [])) (users_text i j few (omega (arith, least)))
    ∙ ap (λ (t : List ℕ). put_users i j ++ t) (one_text (user i (suc j)) ∙ user_same i (suc j) few least)

units_text : (n : ℕ) → n ≤ 1000 → texts (units n) ≡ put_units n
unfolding units put_units texts
units_text zero few = refl
units_text (suc i) few =
    let less : i < 1000 = omega (arith, few) in
    texts_both (units i) (unit i ∷ users i 10)
    ∙ ap (λ (t : List ℕ). t ++ (text_of (unit i) ++ texts (users i 10))) (units_text i (omega (arith, few)))
    ∙ ap (λ (t : List ℕ). put_units i ++ (t ++ texts (users i 10))) (unit_same i less)
    ∙ ap (λ (t : List ℕ). put_units i ++ (put_unit i ++ t)) (users_text i 10 less (omega arith))

-- ---- the whole

objects_text : (n : ℕ) → n ≤ 1000 → texts (objects n) ≡ put_domain
    ++ (put_containers ++ (put_administrators ++ put_units n))
unfolding texts
objects_text n few =
    ap (λ (t : List ℕ). text_of domain ++ (text_of system ++ (text_of sd_holder ++ (text_of administrators ++ t))))
    (units_text n few)
    ∙ ap (λ (t : List ℕ). text_of domain ++ t)
    (sym (append_assoc (text_of system) (text_of sd_holder) (text_of administrators ++ put_units n)))
    ∙ ap (λ (t : List ℕ). t ++ ((text_of system ++ text_of sd_holder) ++ (text_of administrators ++ put_units n)))
    (sym domain_text)
    ∙ ap (λ (t : List ℕ). put_domain ++ (t ++ (text_of administrators ++ put_units n))) (sym containers_text)
    ∙ ap (λ (t : List ℕ). put_domain ++ (put_containers ++ (t ++ put_units n))) (sym administrators_text)

pub text_is : (n : ℕ) → n ≤ 1000 → ldif n ≡ texts (plains n)
unfolding ldif
text_is n few =
    sym (texts_both base (objects n)
    ∙ ap (λ (t : List ℕ). texts base ++ t) (objects_text n few)
    ∙ ap (λ (t : List ℕ). t ++ (put_domain ++ (put_containers ++ (put_administrators ++ put_units n))))
    (sym schema_text))

-- ---- all records are read back

domain_bytes_read : Reads (domain_with domain_bytes)
unfolding domain_bytes on_records on_lines
domain_bytes_read = record { first = refl; others = refl; read = λ k. refl }

holder_bytes_read : Reads (holder_with protected_bytes)
unfolding protected_bytes on_records on_lines
holder_bytes_read = record { first = refl; others = refl; read = λ k. refl }

system_read : Reads system
unfolding on_records on_lines
system_read = record { first = refl; others = refl; read = λ k. refl }

administrators_read : Reads administrators
unfolding on_records on_lines
administrators_read = record { first = refl; others = refl; read = λ k. refl }

users_read : (i j : ℕ) → i < 1000 → j ≤ 10 → AllByRecursion Reads (users i j)
unfolding users
users_read i zero few least = tt
users_read i (suc j) few least = all_of_both Reads (users i j) (user i (suc j) ∷ [])
    (users_read i j few (omega (arith, least))) (user_reads i (suc j) few least, tt)

units_read : (n : ℕ) → n ≤ 1000 → AllByRecursion Reads (units n)
unfolding units
units_read zero few = tt
units_read (suc i) few =
    let less : i < 1000 = omega (arith, few) in
    all_of_both Reads (units i) (unit i ∷ users i 10) (units_read i (omega (arith, few)))
    (unit_reads i less, users_read i 10 less (omega arith))

all_read : (n : ℕ) → n ≤ 1000 → AllByRecursion Reads (plains n)
all_read n few =
    let d : Reads domain = subst (λ (b : List ℕ). Reads (domain_with b)) (sym domain_is) domain_bytes_read in
    let h : Reads sd_holder = subst (λ (b : List ℕ). Reads (holder_with b)) (sym protected_is) holder_bytes_read in
    all_of_both Reads base (objects n) base_reads (d, (system_read, (h, (administrators_read, units_read n few))))

pub story_is : (n : ℕ) → n ≤ 1000 → story (ldif n) ≡ record { records = entries_from 1 (plains n); stop = None }
unfolding story story_from
story_is n few = ap (story_from 1) (text_is n few) ∙ all_told 1 (plains n) (all_read n few)
