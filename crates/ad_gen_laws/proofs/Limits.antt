-- The sample is within the limits.
use Rattle.std.proofs.Common.{◌≡◌, ◌∙◌, ℕ, zero, suc, ◌+◌, ◌*◌, ◌<◌, ◌≤◌, true, nat_le, List, [], ◌∷◌, ◌++◌, length}
use Rattle.std.proofs.Common.{length-append, Ok, refl, arith}
use Rattle.std.specs.List.{AllByRecursion, list_all}
use Rattle.std.proofs.lemmas.Bool.{le-leb}
use Rattle.std.proofs.lemmas.List.Folds.{list_all-append}
use Rattle.ad_bytes.specs.Numbers.{be_bytes, le_bytes}
use Rattle.ad_ids.specs.Sid.{sid_bytes}
use Rattle.ad_dn.specs.Text.{rdns_text}
use Rattle.ad_schema_classes.specs.Names.{same_name, place_of}
use Rattle.ad_schema.specs.Attributes.{lines_of, names_of, attr_named}
use Rattle.ad_schema.specs.Fields.{value_of}
use Rattle.ad_dir_model.specs.Limits.{max_objects, max_depth, max_weight, max_text, max_counter}
use Rattle.ad_dir_model.specs.Object.{Object}
use Rattle.ad_dir_model.specs.Weight.{values_weight, all_held_weight, object_weight, objects_weight, weight}
use Rattle.ad_load.specs.Links.{is_shallow, is_within_limits, unsettled, linked}
use Rattle.ad_gen_laws.specs.Base.{attributes, classes, rights, base_schema}
use Rattle.ad_gen_laws.specs.Drafts.{unit_draft, sd_holder_draft, user_draft, unit_drafts, users_of, user_drafts}
use Rattle.ad_gen_laws.specs.Drafts.{upper_drafts, drafts}
use Rattle.ad_gen_laws.specs.Made.{made_unit, sd_holder_object, made_user, made_units, made_users_of, made_users}
use Rattle.ad_gen_laws.specs.Made.{first_objects, upper_objects, made_objects}
use Rattle.ad_gen_laws.specs.Before.{unsettled_sample}
use Rattle.ad_gen_laws.proofs.Closed.{all_of_both}
use Rattle.ad_gen_laws.proofs.Units.{unit_name_few, user_name_few}
use Rattle.ad_gen_laws.proofs.Linked.{upper_many, all_many, objects_are}
use Rattle.ad_gen_laws.proofs.Counters.{meta_is}
use Rattle.ad_gen_laws.proofs.Defaults.{defaults_read}
use Rattle.ad_gen_laws.proofs.Sids.{domain_has}

-- ---- weight

abbrev IsLight : Object → Type 0
IsLight o = object_weight base_schema o ≤ 200

light_sum : (os : List Object) → AllByRecursion IsLight os → objects_weight base_schema os ≤ 200 * length os
unfolding objects_weight
light_sum [] all = omega arith
light_sum (o ∷ os) all = let first = all.0 in let others = light_sum os all.1 in omega (arith, first, others)

unit_weight : (i : ℕ) → object_weight base_schema (made_unit i) ≡ 24 + length (made_unit i).name + 0
unfolding object_weight all_held_weight
unit_weight i = refl

user_weight : (n i j : ℕ) → object_weight base_schema (made_user n i j) ≡ 24 + length (made_user n i j).name + 48
unfolding object_weight all_held_weight values_weight sid_bytes be_bytes le_bytes attr_named names_of lines_of
    place_of same_name value_of attributes classes rights base_schema
user_weight n i j = refl

units_light : (i : ℕ) → i ≤ 1000 → AllByRecursion IsLight (made_units i)
unfolding made_units
units_light zero few = tt
units_light (suc i) few =
    let name = unit_name_few i (omega (arith, few)) in
    let w = unit_weight i in
    all_of_both IsLight (made_units i) (made_unit i ∷ []) (units_light i (omega (arith, few)))
    (omega (arith, name, w), tt)

users_light : (n i j : ℕ) → i < 1000 → j ≤ 10 → AllByRecursion IsLight (made_users_of n i j)
unfolding made_users_of
users_light n i zero few least = tt
users_light n i (suc j) few least =
    let name = user_name_few i (suc j) few least in
    let w = user_weight n i (suc j) in
    all_of_both IsLight (made_users_of n i j) (made_user n i (suc j) ∷ [])
    (users_light n i j few (omega (arith, least))) (omega (arith, name, w), tt)

all_light : (n i : ℕ) → i ≤ 1000 → AllByRecursion IsLight (made_users n i)
unfolding made_users
all_light n zero few = tt
all_light n (suc i) few = all_of_both IsLight (made_users n i) (made_users_of n i 10)
    (all_light n i (omega (arith, few))) (users_light n i 10 (omega (arith, few)) (omega arith))

first_light : (n : ℕ) → AllByRecursion IsLight (first_objects n)
unfolding object_weight all_held_weight values_weight sid_bytes be_bytes le_bytes attr_named names_of lines_of
    place_of same_name value_of attributes classes rights base_schema
first_light n = (omega arith, (omega arith, (omega arith, tt)))

holder_light : (n : ℕ) → IsLight (sd_holder_object n)
unfolding object_weight all_held_weight
holder_light n = omega arith

objects_light : (n : ℕ) → n ≤ 1000 → AllByRecursion IsLight (made_objects n)
objects_light n few =
    all_of_both IsLight (upper_objects n) (made_users n n)
    (all_of_both IsLight (first_objects n) (made_units n ++ sd_holder_object n ∷ []) (first_light n)
    (all_of_both IsLight (made_units n) (sd_holder_object n ∷ []) (units_light n few) (holder_light n, tt)))
    (all_light n n few)

objects_many : (n : ℕ) → length (made_objects n) ≡ 11 * n + 4
objects_many n = let a = upper_many n in let b = all_many n n in let c = length-append (upper_objects n)
    (made_users n n) in omega (arith, a, b, c)

-- ---- depth

units_shallow : (n i : ℕ) → list_all (is_shallow (drafts n)) (unit_drafts i) ≡ true
unfolding unit_drafts max_depth
units_shallow n zero = refl
units_shallow n (suc i) = list_all-append (is_shallow (drafts n)) (unit_drafts i) (unit_draft i ∷ [])
    ∙ rw (units_shallow n i) refl

users_shallow : (n i j : ℕ) → list_all (is_shallow (drafts n)) (users_of i j) ≡ true
unfolding users_of max_depth
users_shallow n i zero = refl
users_shallow n i (suc j) = list_all-append (is_shallow (drafts n)) (users_of i j) (user_draft i (suc j) ∷ [])
    ∙ rw (users_shallow n i j) refl

all_shallow : (n i : ℕ) → list_all (is_shallow (drafts n)) (user_drafts i) ≡ true
unfolding user_drafts
all_shallow n zero = refl
all_shallow n (suc i) = list_all-append (is_shallow (drafts n)) (user_drafts i) (users_of i 10)
    ∙ rw (all_shallow n i, users_shallow n i 10) refl

upper_shallow : (n : ℕ) → list_all (is_shallow (drafts n)) (upper_drafts n) ≡ true
unfolding max_depth
upper_shallow n = list_all-append (is_shallow (drafts n)) (unit_drafts n) (sd_holder_draft ∷ [])
    ∙ rw (units_shallow n n) refl

drafts_shallow : (n : ℕ) → list_all (is_shallow (drafts n)) (drafts n) ≡ true
drafts_shallow n = list_all-append (is_shallow (drafts n)) (upper_drafts n) (user_drafts n)
    ∙ rw (upper_shallow n, all_shallow n n) refl

-- ---- all limits

objects_within : (n : ℕ) → n ≤ 1000 → nat_le (length (made_objects n)) max_objects ≡ true
unfolding max_objects
objects_within n few = let many = objects_many n in le-leb (length (made_objects n)) 65536 (omega (arith, few, many))

weight_within : (n : ℕ) → n ≤ 1000 → nat_le (weight (unsettled_sample n)) max_weight ≡ true
unfolding max_weight weight
weight_within n few =
    let many = objects_many n in
    let light = light_sum (made_objects n) (objects_light n few) in
    le-leb (objects_weight base_schema (made_objects n)) 268435456 (omega (arith, few, many, light))

number_within : (n : ℕ) → n ≤ 1000 → nat_le (11 * n + 5) max_counter ≡ true
unfolding max_counter
number_within n few = le-leb (11 * n + 5) 4294967295 (omega (arith, few))

rid_within : (n : ℕ) → n ≤ 1000 → nat_le (10 * n + 1001) max_counter ≡ true
unfolding max_counter
rid_within n few = le-leb (10 * n + 1001) 4294967295 (omega (arith, few))

within : (n : ℕ) → n ≤ 1000 → is_within_limits (drafts n) (unsettled_sample n) ≡ true
unfolding is_within_limits rdns_text max_text
within n few = rw (objects_within n few, drafts_shallow n, weight_within n few, number_within n few, rid_within n few)
    refl

pub linked_is : (n : ℕ) → 1 ≤ n → n ≤ 1000 → linked base_schema (drafts n) ≡ Ok (unsettled_sample n)
unfolding linked unsettled
linked_is zero some few = absurd (omega (arith, some))
linked_is (suc n) some few =
    rw (objects_are (suc n) some few)
    (rw (meta_is n (omega (arith, few)))
    (rw (within (suc n) few)
    (rw domain_has
    (rw defaults_read refl))))
