-- The identifiers of the sample's objects, and that none is used twice.
use Rattle.std.proofs.Common.{◌≡◌, ◌≢◌, ◌∙◌, ℕ, zero, suc, ◌+◌, ◌*◌, ◌<◌, ◌≤◌, ◌^◌, false, Option, Some, None, refl}
use Rattle.std.proofs.Common.{sym, ap, arith}
use Rattle.std.proofs.Common.{[], ◌∷◌, ◌++◌}
use Rattle.std.specs.Option.{option_or}
use Rattle.std.specs.List.{list_any}
use Rattle.std.proofs.lemmas.Bool.{ne_eqb}
use Rattle.std.proofs.lemmas.List.{append-nil}
use Rattle.std.proofs.lemmas.List.Folds.{list_any-append}
use Rattle.ad_ids.specs.SidValue.{SidValue, same_sid}
use Rattle.ad_ids.specs.Sid.{IsSid, sid_bytes}
use Rattle.ad_ids.specs.SidReading.{sid_at}
use Rattle.ad_ids.specs.SidFront.{sid_of_text}
use Rattle.ad_ids.proofs.SidCodec.{sid_reader}
use Rattle.ad_gen.specs.Frames.{in_domain, builtin_administrators}
use Rattle.ad_value.specs.ValueOf.{whole_sid, sid_of}
use Rattle.ad_load_objects.specs.Drafts.{first_given, draft_sid}
use Rattle.ad_load_objects.specs.Objects.{has_sid, is_sid_used}
use Rattle.ad_dir_model.specs.Attributes.{rule_place, object_sid}
use Rattle.ad_schema.specs.Attributes.{attr_named, attrs_of, attr_info, names_of, lines_of}
use Rattle.ad_schema_classes.specs.Names.{place_of, same_name}
use Rattle.ad_schema.specs.Fields.{value_of}
use Rattle.ad_schema.specs.Meaning.{attr_of_rule, counts, if_counts}
use Rattle.ad_gen_laws.specs.Base.{attributes, classes, rights, base_schema}
use Rattle.ad_gen_laws.specs.Drafts.{domain_sid, domain_draft, system_draft, administrators_draft, unit_draft}
use Rattle.ad_gen_laws.specs.Drafts.{sd_holder_draft, user_draft, unit_drafts, users_of, user_drafts, upper_drafts}
use Rattle.ad_gen_laws.proofs.Differ.{sid_is}

-- ---- bytes of identifiers are read back

pub bytes_again : (s : SidValue) → IsSid s → sid_of (sid_bytes s) ≡ Some s
unfolding sid_of
bytes_again s is = ap (λ (o : Option SidValue). option_or o (sid_of_text (sid_bytes s))) whole
  where
    whole : whole_sid (sid_at (sid_bytes s)) ≡ Some s
    whole = ap whole_sid (ap sid_at (sym (append-nil (sid_bytes s))) ∙ sid_reader.again s (sid_bytes s) [] (is, refl))

domain_is : IsSid domain_sid
domain_is = record {
  authority = omega arith;
  at_least_one = omega arith;
  at_most_15 = omega arith;
  sub_authorities = (omega arith, (omega arith, (omega arith, (omega arith, tt))));
}

builtin_is : IsSid builtin_administrators
builtin_is = record {
  authority = omega arith;
  at_least_one = omega arith;
  at_most_15 = omega arith;
  sub_authorities = (omega arith, (omega arith, tt));
}

pub domain_again : sid_of (sid_bytes domain_sid) ≡ Some domain_sid
domain_again = bytes_again domain_sid domain_is

pub builtin_again : sid_of (sid_bytes builtin_administrators) ≡ Some builtin_administrators
builtin_again = bytes_again builtin_administrators builtin_is

pub in_domain_again : (rid : ℕ) → rid < 2 ^ 32 → sid_of (sid_bytes (in_domain rid)) ≡ Some (in_domain rid)
in_domain_again rid small = bytes_again (in_domain rid) (sid_is rid small)

-- ---- identifiers of objects

pub sid_place : object_sid base_schema ≡ Some 6
unfolding rule_place attr_of_rule counts if_counts attr_named attrs_of attr_info names_of lines_of place_of same_name
    value_of attributes classes rights base_schema
sid_place = refl

pub user_sid : (i j : ℕ) → i < 1000 → j ≤ 10 → draft_sid base_schema (user_draft i j)
    ≡ Some (in_domain (1000 + 10 * i + j))
unfolding draft_sid first_given
user_sid i j few least = rw sid_place (in_domain_again (1000 + 10 * i + j) (omega (arith, few, least)))

pub unit_sid : (i : ℕ) → draft_sid base_schema (unit_draft i) ≡ None
unfolding draft_sid first_given
unit_sid i = rw sid_place refl

pub domain_has : draft_sid base_schema domain_draft ≡ Some domain_sid
unfolding draft_sid first_given
domain_has = rw sid_place domain_again

pub administrators_have : draft_sid base_schema administrators_draft ≡ Some builtin_administrators
unfolding draft_sid first_given
administrators_have = rw sid_place builtin_again

pub holder_sid : draft_sid base_schema sd_holder_draft ≡ None
unfolding draft_sid first_given
holder_sid = rw sid_place refl

pub system_sid : draft_sid base_schema system_draft ≡ None
unfolding draft_sid first_given
system_sid = rw sid_place refl

-- ---- no identifier is used twice

numbers_apart : (a b : ℕ) → a ≢ b → same_sid (in_domain a) (in_domain b) ≡ false
numbers_apart a b differ = rw (ne_eqb a b differ) refl

units_unused : (sid : SidValue) (n : ℕ) → list_any (has_sid base_schema sid) (unit_drafts n) ≡ false
unfolding unit_drafts
units_unused sid zero = refl
units_unused sid (suc n) = list_any-append (has_sid base_schema sid) (unit_drafts n) (unit_draft n ∷ [])
    ∙ rw (units_unused sid n, unit_sid n) refl

users_unused : (rid i j : ℕ) → i < 1000 → j ≤ 10 → 1000 + 10 * i + j < rid
    → list_any (has_sid base_schema (in_domain rid)) (users_of i j) ≡ false
unfolding users_of
users_unused rid i zero few least less = refl
users_unused rid i (suc j) few least less =
    list_any-append (has_sid base_schema (in_domain rid)) (users_of i j) (user_draft i (suc j) ∷ [])
    ∙ rw (
      users_unused rid i j few (omega (arith, least)) (omega (arith, less)),
      user_sid i (suc j) few least,
      numbers_apart (1000 + 10 * i + suc j) rid (λ e. omega (arith, less, e)),
    ) refl

all_unused : (rid n : ℕ) → n ≤ 1000 → 1000 + 10 * n < rid → list_any (has_sid base_schema (in_domain rid))
    (user_drafts n) ≡ false
unfolding user_drafts
all_unused rid zero few less = refl
all_unused rid (suc n) few less =
    list_any-append (has_sid base_schema (in_domain rid)) (user_drafts n) (users_of n 10)
    ∙ rw (
      all_unused rid n (omega (arith, few)) (omega (arith, less)),
      users_unused rid n 10 (omega (arith, few))
          (omega arith) (omega (arith, less)),
    ) refl

upper_unused : (rid n : ℕ) → list_any (has_sid base_schema (in_domain rid)) (upper_drafts n) ≡ false
upper_unused rid n =
    rw (domain_has, system_sid, administrators_have)
    (list_any-append (has_sid base_schema (in_domain rid)) (unit_drafts n) (sd_holder_draft ∷ [])
    ∙ rw (units_unused (in_domain rid) n, holder_sid) refl)

-- before the j-th user of a unit
pub user_unused : (n i j : ℕ) → i < 1000 → j < 10 → is_sid_used base_schema
    (upper_drafts n ++ (user_drafts i ++ users_of i j)) (Some (in_domain (1000 + 10 * i + suc j))) ≡ false
unfolding is_sid_used
user_unused n i j few least =
    let rid = 1000 + 10 * i + suc j in
    list_any-append (has_sid base_schema (in_domain rid)) (upper_drafts n) (user_drafts i ++ users_of i j)
    ∙ rw (upper_unused rid n)
    (list_any-append (has_sid base_schema (in_domain rid)) (user_drafts i) (users_of i j)
    ∙ rw (
      all_unused rid i (omega (arith, few)) (omega arith),
      users_unused rid i j few (omega (arith, least))
          (omega arith),
    ) refl)
