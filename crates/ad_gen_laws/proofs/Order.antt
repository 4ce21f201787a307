-- The order in which the objects of the sample are taken.
use Rattle.std.proofs.Common.{◌≡◌, ◌∙◌, ◌⊎◌, inl, inr, ℕ, zero, suc, ◌+◌, ◌<◌, ◌≤◌, ◌==◌, Bool, false}
use Rattle.std.proofs.Common.{List, [], ◌∷◌, ◌++◌, map, filter, length, refl, sym, ap, arith}
use Rattle.std.specs.Prelude.{is_none, if◌then◌else◌}
use Rattle.std.specs.List.{AllByRecursion}
use Rattle.std.proofs.lemmas.Bool.{cases_Bool, eqb-true, le-leb, lt-leb}
use Rattle.std.proofs.lemmas.List.{map-append}
use Rattle.std.proofs.lemmas.List.Elements.{filter-append}
use Rattle.ad_schema_classes.specs.Names.{same_name}
use Rattle.ad_dn.specs.declared.rdn.Rdn.{Rdn}
use Rattle.ad_load_records.specs.Records.{Record, kind_of}
use Rattle.ad_load_objects.specs.Objects.{is_object, put_by_parts, by_parts}
use Rattle.ad_gen_laws.specs.Plain.{Plain, fields_from, next_at, record_at, records_from}
use Rattle.ad_gen_laws.specs.Base.{attributes, classes, rights, base}
use Rattle.ad_gen_laws.specs.Sample.{unit, user, users, units, units_alone, all_users, fixed, objects, plains}
use Rattle.ad_gen_laws.specs.Sample.{ordered, rdns_of, names_of, domain, system, sd_holder, administrators}
use Rattle.ad_gen_laws.proofs.Closed.{all_of_both}
use Rattle.ad_gen_laws.proofs.Schema.{IsObject, all_objects}

-- ---- sorting

-- those of so many parts
abbrev pub has_parts : ℕ → Record → Bool
has_parts m r = length r.rdns == m

abbrev pub parts : ℕ → List Record → List Record
parts m rs = filter (has_parts m) rs

abbrev pub IsFew : Record → Type 0
IsFew r = (length r.rdns ≡ 1) ⊎ ((length r.rdns ≡ 2) ⊎ (length r.rdns ≡ 3))

put_front : (r : Record) (rs : List Record) → AllByRecursion (λ other. length r.rdns ≤ length other.rdns) rs
    → put_by_parts r rs ≡ r ∷ rs
unfolding put_by_parts
put_front r [] all = refl
put_front r (other ∷ rs) all = rw (le-leb (length r.rdns) (length other.rdns) all.0) refl

put_behind : (r : Record) (front rs : List Record) → AllByRecursion (λ other. length other.rdns < length r.rdns) front
    → put_by_parts r (front ++ rs) ≡ front ++ put_by_parts r rs
unfolding put_by_parts
put_behind r [] rs all = refl
put_behind r (other ∷ front) rs all = rw (
  lt-leb (length r.rdns) (length other.rdns) all.0,
  put_behind r front rs
      all.1,
) refl

parts_have : (m : ℕ) (P : Record → Type 0) (rs : List Record) → ((r : Record) → length r.rdns ≡ m → P r)
    → AllByRecursion P (parts m rs)
parts_have m P [] all = tt
parts_have m P (r ∷ rs) all = elim (cases_Bool (has_parts m r)) [
  | inl is ↦ rw is (all r (eqb-true (length r.rdns) m is), parts_have m P rs all)
  | inr other ↦ rw other (parts_have m P rs all)
]

pub sorted : (rs : List Record) → AllByRecursion IsFew rs → by_parts rs ≡ parts 1 rs ++ (parts 2 rs ++ parts 3 rs)
unfolding by_parts
sorted [] all = refl
sorted (r ∷ rs) all =
    let before = ap (put_by_parts r) (sorted rs all.1) in
    elim all.0 [
      | inl one ↦
          let front = put_front r (parts 1 rs ++ (parts 2 rs ++ parts 3 rs))
          (all_of_both (λ other. length r.rdns ≤ length other.rdns) (parts 1 rs) (parts 2 rs ++ parts 3 rs)
          (parts_have 1 (λ other. length r.rdns ≤ length other.rdns) rs (λ x e. omega (arith, e, one)))
          (all_of_both (λ other. length r.rdns ≤ length other.rdns) (parts 2 rs) (parts 3 rs)
          (parts_have 2 (λ other. length r.rdns ≤ length other.rdns) rs (λ x e. omega (arith, e, one)))
          (parts_have 3 (λ other. length r.rdns ≤ length other.rdns) rs (λ x e. omega (arith, e, one))))) in
          rw one (before ∙ front)
      | inr more ↦ elim more [
        | inl two ↦
            let behind = put_behind r (parts 1 rs) (parts 2 rs ++ parts 3 rs)
            (parts_have 1 (λ other. length other.rdns < length r.rdns) rs (λ x e. omega (arith, e, two))) in
            let front = put_front r (parts 2 rs ++ parts 3 rs)
            (all_of_both (λ other. length r.rdns ≤ length other.rdns) (parts 2 rs) (parts 3 rs)
            (parts_have 2 (λ other. length r.rdns ≤ length other.rdns) rs (λ x e. omega (arith, e, two)))
            (parts_have 3 (λ other. length r.rdns ≤ length other.rdns) rs (λ x e. omega (arith, e, two)))) in
            rw two (before ∙ behind ∙ ap (λ (more : List Record). parts 1 rs ++ more) front)
        | inr three ↦
            let first = put_behind r (parts 1 rs) (parts 2 rs ++ parts 3 rs)
            (parts_have 1 (λ other. length other.rdns < length r.rdns) rs (λ x e. omega (arith, e, three))) in
            let second = put_behind r (parts 2 rs) (parts 3 rs)
            (parts_have 2 (λ other. length other.rdns < length r.rdns) rs (λ x e. omega (arith, e, three))) in
            let front = put_front r (parts 3 rs)
            (parts_have 3 (λ other. length r.rdns ≤ length other.rdns) rs (λ x e. omega (arith, e, three))) in
            rw three (before ∙ first ∙ ap (λ (more : List Record). parts 1 rs ++ more)
            (second ∙ ap (λ (more : List Record). parts 2 rs ++ more) front))
      ]
    ]

-- ---- records of a list, after those of another

unfoldable pub behind_all : ℕ → List Plain → ℕ
behind_all k [] = k
behind_all k (p ∷ ps) = behind_all (next_at k p) ps

pub records_both : (k : ℕ) (ps qs : List Plain) → records_from k (ps ++ qs) ≡ records_from k ps
    ++ records_from (behind_all k ps) qs
unfolding records_from behind_all
records_both k [] qs = refl
records_both k (p ∷ ps) qs = ap (λ (more : List Record). record_at k p ∷ more) (records_both (next_at k p) ps qs)

-- ---- names of objects

names_both : (rs os : List Record) → names_of (rs ++ os) ≡ names_of rs ++ names_of os
names_both rs os = ap (map (λ (r : Record). r.rdns)) (filter-append is_object rs os)
    ∙ map-append (λ (r : Record). r.rdns) (filter is_object rs) (filter is_object os)

parts_names_both : (m : ℕ) (rs os : List Record) → names_of (parts m (rs ++ os)) ≡ names_of (parts m rs)
    ++ names_of (parts m os)
parts_names_both m rs os = ap names_of (filter-append (has_parts m) rs os) ∙ names_both (parts m rs) (parts m os)

-- records that define something have none
abbrev pub IsDefinition : Plain → Type 0
IsDefinition p = (k : ℕ) → is_none (kind_of (fields_from k p.lines)) ≡ false

none_named : (m k : ℕ) (ps : List Plain) → AllByRecursion IsDefinition ps → names_of (parts m (records_from k ps)) ≡ []
unfolding records_from
none_named m k [] all = refl
none_named m k (p ∷ ps) all = elim (cases_Bool (has_parts m (record_at k p))) [
  | inl is ↦ rw is (rw (all.0 (k + 1)) (none_named m (next_at k p) ps all.1))
  | inr other ↦ rw other (none_named m (next_at k p) ps all.1)
]

abbrev has_plain_parts : ℕ → Plain → Bool
has_plain_parts m p = length p.rdns == m

-- those of objects stand as they do
objects_named : (m k : ℕ) (ps : List Plain) → AllByRecursion IsObject ps → names_of (parts m (records_from k ps))
    ≡ map rdns_of (filter (has_plain_parts m) ps)
unfolding records_from
objects_named m k [] all = refl
objects_named m k (p ∷ ps) all = elim (cases_Bool (has_plain_parts m p)) [
  | inl is ↦ rw is (rw (all.0 (k + 1)) (ap (λ (more : List (List Rdn)). p.rdns ∷ more)
      (objects_named m (next_at k p) ps all.1)))
  | inr other ↦ rw other (objects_named m (next_at k p) ps all.1)
]

-- ---- those of the sample

attributes_define : AllByRecursion IsDefinition attributes
unfolding attributes kind_of fields_from same_name
attributes_define = (
  λ k. refl,
  (
    λ k. refl,
    (
      λ k. refl,
      (
        λ k. refl,
        (
          λ k. refl,
          (
            λ k.
                refl,
            (
              λ k. refl,
              (
                λ k. refl,
                (
                  λ k. refl,
                  (
                    λ k. refl,
                    (
                      λ k. refl,
                      (
                        λ k. refl,
                        (
                          λ k.
                              refl,
                          (λ k. refl, (λ k. refl, (λ k. refl, (λ k. refl, (λ k. refl, (λ k. refl, tt)))))),
                        ),
                      ),
                    ),
                  ),
                ),
              ),
            ),
          ),
        ),
      ),
    ),
  ),
)

classes_define : AllByRecursion IsDefinition classes
unfolding classes kind_of fields_from same_name
classes_define = (λ k. refl, (λ k. refl, (λ k. refl, (λ k. refl, (λ k. refl, (λ k. refl, (λ k. refl, tt)))))))

rights_define : AllByRecursion IsDefinition rights
unfolding rights kind_of fields_from same_name
rights_define = (λ k. refl, (λ k. refl, (λ k. refl, (λ k. refl, (λ k. refl, (λ k. refl, tt))))))

pub base_defines : AllByRecursion IsDefinition base
unfolding base
base_defines = all_of_both IsDefinition attributes (classes ++ rights) attributes_define
    (all_of_both IsDefinition classes rights classes_define rights_define)

sample_named : (m n : ℕ) → names_of (parts m (records_from 1 (plains n)))
    ≡ map rdns_of (filter (has_plain_parts m) (objects n))
sample_named m n =
    ap (λ (rs : List Record). names_of (parts m rs)) (records_both 1 base (objects n))
    ∙ parts_names_both m (records_from 1 base) (records_from (behind_all 1 base) (objects n))
    ∙ ap (λ (front : List (List Rdn)). front ++ names_of (parts m (records_from (behind_all 1 base) (objects n))))
    (none_named m 1 base base_defines)
    ∙ objects_named m (behind_all 1 base) (objects n) (all_objects n)

users_parts : (m i j : ℕ) → filter (has_plain_parts m) (users i j) ≡ (if 3 == m then users i j else [])
unfolding users
users_parts m i zero = elim (cases_Bool (3 == m)) [ inl is ↦ rw is refl | inr other ↦ rw other refl ]
users_parts m i (suc j) = elim (cases_Bool (3 == m)) [
  | inl is ↦ filter-append (has_plain_parts m) (users i j) (user i (suc j) ∷ []) ∙ rw (users_parts m i j, is) refl
  | inr other ↦ filter-append (has_plain_parts m) (users i j) (user i (suc j) ∷ []) ∙ rw (users_parts m i j, other) refl
]

no_units : (n : ℕ) → filter (has_plain_parts 1) (units n) ≡ []
unfolding units
no_units zero = refl
no_units (suc i) =
    filter-append (has_plain_parts 1) (units i) (unit i ∷ users i 10)
    ∙ rw (no_units i, users_parts 1 i 10) refl

units_two : (n : ℕ) → filter (has_plain_parts 2) (units n) ≡ units_alone n
unfolding units units_alone
units_two zero = refl
units_two (suc i) =
    filter-append (has_plain_parts 2) (units i) (unit i ∷ users i 10)
    ∙ rw (units_two i, users_parts 2 i 10) refl

users_three : (n : ℕ) → filter (has_plain_parts 3) (units n) ≡ all_users n
unfolding units all_users
users_three zero = refl
users_three (suc i) =
    filter-append (has_plain_parts 3) (units i) (unit i ∷ users i 10)
    ∙ rw (users_three i, users_parts 3 i 10) refl

-- ---- the order

abbrev IsFewPlain : Plain → Type 0
IsFewPlain p = (length p.rdns ≡ 1) ⊎ ((length p.rdns ≡ 2) ⊎ (length p.rdns ≡ 3))

pub records_few : (k : ℕ) (ps : List Plain) → AllByRecursion IsFewPlain ps → AllByRecursion IsFew (records_from k ps)
unfolding records_from
records_few k [] all = tt
records_few k (p ∷ ps) all = (all.0, records_few (next_at k p) ps all.1)

attributes_few : AllByRecursion IsFewPlain attributes
unfolding attributes
attributes_few = (
  inr (inl refl),
  (
    inr (inl refl),
    (
      inr (inl refl),
      (
        inr (inl refl),
        (
          inr (inl refl),
          (
            inr (inl refl),
            (
              inr (inl refl),
              (
                inr (inl refl),
                (
                  inr (inl refl),
                  (
                    inr (inl refl),
                    (
                      inr (inl refl),
                      (
                        inr (inl refl),
                        (
                          inr (inl refl),
                          (
                            inr (inl refl),
                            (inr (inl refl), (inr (inl refl), (inr (inl refl), (inr (inl refl), (inr (inl refl), tt))))),
                          ),
                        ),
                      ),
                    ),
                  ),
                ),
              ),
            ),
          ),
        ),
      ),
    ),
  ),
)

classes_few : AllByRecursion IsFewPlain classes
unfolding classes
classes_few = (
  inr (inl refl),
  (
    inr (inl refl),
    (inr (inl refl), (inr (inl refl), (inr (inl refl), (inr (inl refl), (inr (inl refl), tt))))),
  ),
)

rights_few : AllByRecursion IsFewPlain rights
unfolding rights
rights_few = (
  inr (inl refl),
  (
    inr (inl refl),
    (inr (inl refl), (inr (inl refl), (inr (inl refl), (inr (inl refl), tt)))),
  ),
)

users_few : (i j : ℕ) → AllByRecursion IsFewPlain (users i j)
unfolding users
users_few i zero = tt
users_few i (suc j) = all_of_both IsFewPlain (users i j) (user i (suc j) ∷ []) (users_few i j) (inr (inr refl), tt)

units_few : (n : ℕ) → AllByRecursion IsFewPlain (units n)
unfolding units
units_few zero = tt
units_few (suc i) = all_of_both IsFewPlain (units i) (unit i ∷ users i 10) (units_few i)
    (inr (inl refl), users_few i 10)

pub plains_few : (n : ℕ) → AllByRecursion IsFewPlain (plains n)
unfolding base
plains_few n =
    all_of_both IsFewPlain (attributes ++ (classes ++ rights)) (objects n)
    (all_of_both IsFewPlain attributes (classes ++ rights) attributes_few
    (all_of_both IsFewPlain classes rights classes_few rights_few))
    (all_of_both IsFewPlain fixed (units n) (inl refl, (inr (inl refl), (inr (inr refl), (inr (inl refl), tt))))
    (units_few n))

pub order_is : (n : ℕ) → names_of (by_parts (records_from 1 (plains n))) ≡ map rdns_of (ordered n)
order_is n =
    let rs = records_from 1 (plains n) in
    ap names_of (sorted rs (records_few 1 (plains n) (plains_few n)))
    ∙ names_both (parts 1 rs) (parts 2 rs ++ parts 3 rs)
    ∙ ap (λ (more : List (List Rdn)). names_of (parts 1 rs) ++ more) (names_both (parts 2 rs) (parts 3 rs))
    ∙ rw (sample_named 1 n, sample_named 2 n, sample_named 3 n, no_units n, units_two n, users_three n)
    (ap (λ (more : List (List Rdn)). rdns_of domain ∷ rdns_of system ∷ rdns_of administrators ∷ more)
    (sym (map-append rdns_of (units_alone n) (sd_holder ∷ all_users n))))
