-- The objects of the sample with their numbers, values and links.
use Rattle.std.proofs.Common.{◌≡◌, ◌∙◌, ℕ, zero, suc, ◌+◌, ◌*◌, ◌≤◌, true, false, List, [], ◌∷◌, ◌++◌, length}
use Rattle.std.proofs.Common.{length-append, append_assoc, None, Some, Result, Ok, refl, sym, ap, arith, codes}
use Rattle.std.specs.Prelude.{⊤}
use Rattle.std.proofs.lemmas.List.{append-nil}
use Rattle.ad_ids.specs.SidValue.{SidValue}
use Rattle.ad_sd.specs.declared.parts.Sd.{Sd}
use Rattle.ad_inherit.specs.Creation.{chosen}
use Rattle.ad_schema_classes.specs.Names.{same_name, place_of}
use Rattle.ad_schema.specs.Attributes.{lines_of, attrs_of, attr_info}
use Rattle.ad_schema.specs.Fields.{value_of}
use Rattle.ad_schema.specs.Numbers.{digits_behind, number, number_below}
use Rattle.ad_schema.specs.Classes.{classes_of, class_infos, class_info, class_guid}
use Rattle.ad_schema.specs.Meaning.{attr_is_link, is_link, is_neither}
use Rattle.ad_schema_defaults.specs.Defaults.{default_of, default_in}
use Rattle.ad_dir_model.specs.Object.{Held, Object, link}
use Rattle.ad_gen.specs.Frames.{in_domain, builtin_administrators}
use Rattle.ad_load_objects.specs.Drafts.{Draft, naming_value}
use Rattle.ad_load_records.specs.declared.fault.LoadFault.{LoadFault}
use Rattle.ad_load_objects.specs.Through.{through}
use Rattle.ad_load.specs.Links.{stored_of, with_stored, with_given, all_stored, own_sd, object_of, with_object}
use Rattle.ad_load.specs.Links.{objects_of, target_of}
use Rattle.ad_gen_laws.specs.Base.{attributes, classes, rights, base_schema}
use Rattle.ad_gen_laws.specs.Sent.{domain_sd, protected_sd}
use Rattle.ad_gen_laws.specs.Drafts.{given_sid, given_member, user_line, domain_sid, domain_draft, system_draft}
use Rattle.ad_gen_laws.specs.Drafts.{administrators_draft, unit_draft, sd_holder_draft, user_draft, unit_drafts}
use Rattle.ad_gen_laws.specs.Drafts.{users_of, user_drafts, drafts}
use Rattle.ad_gen_laws.specs.Made.{held_sid, default_sd, domain_object, system_object, made_unit, sd_holder_object}
use Rattle.ad_gen_laws.specs.Made.{made_user, made_units, made_users_of, made_users, first_objects, upper_objects}
use Rattle.ad_gen_laws.specs.Made.{made_objects}
use Rattle.ad_gen_laws.proofs.OnDescriptors.{on_sddl}
use Rattle.ad_gen_laws.proofs.Classes.{on_classes}
use Rattle.ad_gen_laws.proofs.Given.{member_read}
use Rattle.ad_gen_laws.proofs.Member.{member_found}
use Rattle.ad_gen_laws.proofs.Sids.{domain_has}
use Rattle.ad_gen_laws.proofs.Walk.{through_both}

-- ---- values

unfoldable on_meaning : ⊤
unfolding attr_is_link is_link is_neither attrs_of attr_info lines_of same_name place_of value_of number_below number
    digits_behind attributes classes rights base_schema
on_meaning = tt

sid_plain : attr_is_link base_schema 6 ≡ false
unfolding on_meaning
sid_plain = refl

member_links : attr_is_link base_schema 7 ≡ true
unfolding on_meaning
member_links = refl

sid_stored : (ds : List Draft) (k : ℕ) (sid : SidValue) → all_stored base_schema ds (given_sid k sid ∷ [])
    ≡ Ok (held_sid sid ∷ [])
unfolding all_stored through with_given stored_of with_stored
sid_stored ds k sid = rw sid_plain refl

none_stored : (ds : List Draft) → all_stored base_schema ds [] ≡ Ok []
unfolding all_stored through
none_stored ds = refl

member_target : (n : ℕ) → target_of (drafts (suc n)) (codes "CN=u1-1,OU=o1,DC=sample") ≡ Some (suc n + 5)
member_target n = rw member_read (member_found n)

member_stored : (n : ℕ) → all_stored base_schema (drafts (suc n)) (given_sid 284 builtin_administrators ∷ given_member
    ∷ [])
    ≡ Ok (held_sid builtin_administrators ∷ record { attr = 7; values = link (suc n + 5) ∷ [] } ∷ [])
unfolding all_stored through with_given stored_of with_stored
member_stored n = rw sid_plain (rw member_links (rw (member_target n) refl))

-- ---- descriptors

unfoldable on_defaults : ⊤
unfolding on_classes on_sddl chosen default_of default_in classes_of class_infos class_info class_guid
on_defaults = tt

unit_default : own_sd base_schema (Some domain_sid) 2 None ≡ default_sd
unfolding on_defaults
unit_default = refl

container_default : own_sd base_schema (Some domain_sid) 3 None ≡ default_sd
unfolding on_defaults
container_default = refl

group_default : own_sd base_schema (Some domain_sid) 4 None ≡ default_sd
unfolding on_defaults
group_default = refl

user_default : own_sd base_schema (Some domain_sid) 5 None ≡ default_sd
unfolding on_defaults
user_default = refl

-- ---- one object

one_made : (ds : List Draft) (objects : List Object) (d : Draft) (number : ℕ) (values : List Held) (sd : Sd)
    → length objects + 1 ≡ number
    → all_stored base_schema ds d.given ≡ Ok values → own_sd base_schema (Some domain_sid) d.class d.sd ≡ sd
    → with_object base_schema ds (Some domain_sid) objects d
    ≡ Ok (objects ++ record {
      number = number;
      parent = d.parent;
      class = d.class;
      name
          = naming_value d.rdns;
      values = values;
      sd = sd;
    } ∷ [])
unfolding with_object object_of
one_made ds objects d number values sd count stored own = rw stored (rw own (rw count refl))

-- ---- how many there are

pub made_many : (n : ℕ) → length (made_units n) ≡ n
unfolding made_units
made_many zero = refl
made_many (suc n) = length-append (made_units n) (made_unit n ∷ []) ∙ (let e = made_many n in omega (arith, e))

pub users_many : (n i j : ℕ) → length (made_users_of n i j) ≡ j
unfolding made_users_of
users_many n i zero = refl
users_many n i (suc j) = length-append (made_users_of n i j) (made_user n i (suc j) ∷ [])
    ∙ (let e = users_many n i j in omega (arith, e))

pub all_many : (n i : ℕ) → length (made_users n i) ≡ 10 * i
unfolding made_users
all_many n zero = refl
all_many n (suc i) = length-append (made_users n i) (made_users_of n i 10)
    ∙ (let e = all_many n i in let f = users_many n i 10 in omega (arith, e, f))

pub upper_many : (n : ℕ) → length (upper_objects n) ≡ n + 4
upper_many n = let e = made_many n in let f = length-append (made_units n) (sd_holder_object n ∷ [])
    in omega (arith, e, f)

-- ---- one after the other, where all drafts are there

abbrev step : (n : ℕ) → List Object → Draft → Result (List Object) LoadFault
step n = with_object base_schema (drafts n) (Some domain_sid)

units_walk : (n i : ℕ) → through (step n) (first_objects n) (unit_drafts i) ≡ Ok (first_objects n ++ made_units i)
unfolding through unit_drafts made_units
units_walk n zero = refl
units_walk n (suc i) =
    let many = made_many i in
    through_both (step n) (first_objects n) (first_objects n ++ made_units i) (unit_drafts i) (unit_draft i ∷ [])
    (units_walk n i)
    ∙ rw (one_made (drafts n) (first_objects n ++ made_units i) (unit_draft i) (i + 4) [] default_sd
    (omega (arith, many)) (none_stored (drafts n)) unit_default) refl

users_walk : (n i j : ℕ) → through (step n) (upper_objects n ++ made_users n i) (users_of i j)
    ≡ Ok (upper_objects n ++ (made_users n i ++ made_users_of n i j))
unfolding through users_of made_users_of
users_walk n i zero = ap (λ (os : List Object). Ok (upper_objects n ++ os)) (sym (append-nil (made_users n i)))
users_walk n i (suc j) =
    let before = upper_objects n ++ (made_users n i ++ made_users_of n i j) in
    let o = made_user n i (suc j) in
    let a = upper_many n in
    let b = all_many n i in
    let c = users_many n i j in
    let d = length-append (upper_objects n) (made_users n i ++ made_users_of n i j) in
    let e = length-append (made_users n i) (made_users_of n i j) in
    let assoc : before ++ o ∷ [] ≡ upper_objects n ++ (made_users n i ++ (made_users_of n i j ++ o ∷ []))
    = append_assoc (upper_objects n) (made_users n i ++ made_users_of n i j) (o ∷ [])
    ∙ ap (λ (os : List Object). upper_objects n ++ os)
    (append_assoc (made_users n i) (made_users_of n i j) (o ∷ [])) in
    through_both (step n) (upper_objects n ++ made_users n i) before (users_of i j) (user_draft i (suc j) ∷ [])
    (users_walk n i j)
    ∙ rw (one_made (drafts n) before (user_draft i (suc j)) (n + 4 + 10 * i + suc j)
    (held_sid (in_domain (1000 + 10 * i + suc j)) ∷ []) default_sd (omega (arith, a, b, c, d, e))
    (sid_stored (drafts n) (user_line i (suc j) + 2) (in_domain (1000 + 10 * i + suc j))) user_default)
    (ap Ok assoc)

all_walk : (n i : ℕ) → through (step n) (upper_objects n) (user_drafts i) ≡ Ok (upper_objects n ++ made_users n i)
unfolding through user_drafts made_users
all_walk n zero = ap Ok (sym (append-nil (upper_objects n)))
all_walk n (suc i) =
    through_both (step n) (upper_objects n) (upper_objects n ++ made_users n i) (user_drafts i) (users_of i 10)
    (all_walk n i)
    ∙ users_walk n i 10

upper_walk : (n : ℕ) → through (step n) (first_objects n) (unit_drafts n ++ sd_holder_draft ∷ []) ≡ Ok (upper_objects n)
unfolding through
upper_walk n =
    let many = made_many n in
    through_both (step n) (first_objects n) (first_objects n ++ made_units n) (unit_drafts n) (sd_holder_draft ∷ [])
    (units_walk n n)
    ∙ rw (one_made (drafts n) (first_objects n ++ made_units n) sd_holder_draft (n + 4) [] protected_sd
    (omega (arith, many)) (none_stored (drafts n)) refl) refl

whole_walk : (n : ℕ) → through (step (suc n)) [] (drafts (suc n)) ≡ Ok (made_objects (suc n))
unfolding through
whole_walk n =
    let ds = drafts (suc n) in
    rw (one_made ds [] domain_draft 1 (held_sid domain_sid ∷ []) domain_sd refl (sid_stored ds 272 domain_sid) refl)
    (rw (one_made ds (domain_object ∷ []) system_draft 2 [] default_sd refl (none_stored ds) container_default)
    (rw (one_made ds (domain_object ∷ system_object ∷ []) administrators_draft 3
    (held_sid builtin_administrators ∷ record { attr = 7; values = link (suc n + 5) ∷ [] } ∷ []) default_sd refl
    (member_stored n) group_default)
    (through_both (step (suc n)) (first_objects (suc n)) (upper_objects (suc n))
    (unit_drafts (suc n) ++ sd_holder_draft ∷ []) (user_drafts (suc n)) (upper_walk (suc n))
    ∙ all_walk (suc n) (suc n))))

pub objects_are : (n : ℕ) → 1 ≤ n → n ≤ 1000 → objects_of base_schema (drafts n) ≡ Ok (made_objects n)
unfolding objects_of
objects_are zero some few = absurd (omega (arith, some))
objects_are (suc n) some few = rw domain_has (whole_walk n)
