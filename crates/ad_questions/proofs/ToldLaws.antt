-- A token is told yes exactly where the request isn't refused for want of a right.
use Rattle.std.proofs.Common.{◌≡◌, ◌∙◌, ℕ, Bool, true, false, not, ◌&&◌, List, [], ◌∷◌, ◌++◌, Option, Some, None}
use Rattle.std.proofs.Common.{refl, sym, ap, drop}
use Rattle.std.specs.Prelude.{if◌then◌else◌, ◌==◌, is_some, unwrap_or}
use Rattle.std.specs.Option.{option_and_then}
use Rattle.std.specs.List.{flat_map}
use Rattle.ad_ids.specs.declared.token.Token.{Token}
use Rattle.ad_dn.specs.declared.rdn.Rdn.{Rdn}
use Rattle.ad_ldap.specs.declared.requests.Add.{Add}
use Rattle.ad_ldap.specs.declared.requests.Modify.{Modify}
use Rattle.ad_ldap.specs.ResultCodes.{invalid_dn_syntax, unwilling_to_perform, entry_already_exists}
use Rattle.ad_ldap.specs.ResultCodes.{object_class_violation, naming_violation, constraint_violation}
use Rattle.ad_schema.specs.declared.info.ClassId.{ClassId}
use Rattle.ad_schema_defaults.specs.NewClass.{is_schema_class}
use Rattle.ad_dir_model.specs.Tree.{root}
use Rattle.ad_dir_model.specs.Directory.{Directory}
use Rattle.ad_dir_model.specs.Names.{found}
use Rattle.ad_access_dir.specs.Sight.{is_visible, if_visible, visible_of}
use Rattle.ad_needs_rules.specs.Needs.{Alternative, is_met, need_of}
use Rattle.ad_needs_rules.specs.Checks.{Check, missing, first_failing, or_code, all_met}
use Rattle.ad_needs_rules.specs.Requests.{is_name, parts_in, object_named, or_hidden}
use Rattle.ad_needs_rules.specs.Deleting.{delete_needs, delete_checks}
use Rattle.ad_needs_rules.specs.Renaming.{is_typed}
use Rattle.ad_needs_rules.specs.Adding.{has_parts, is_root_named, parent_named, parent_seen}
use Rattle.ad_needs_rules.specs.Adding.{all_naming_checks, new_class, class_number, new_part, descriptor_reads}
use Rattle.ad_needs_rules.specs.Adding.{own_checks, all_ordinary, new_sd, add_needs, add_checks}
use Rattle.ad_needs_rules.specs.Modifying.{item_checks, modify_needs, modify_checks}
use Rattle.ad_needs_rules.proofs.FirstFailing.{head_passes, head_fails, all_pass}
use Rattle.ad_questions.specs.declared.question.Question.{Question}
use Rattle.ad_questions.specs.declared.question.Question.TheVariants as question
use Rattle.ad_questions.specs.Requests.{is_right, is_for, request_needs}
use Rattle.ad_questions.specs.Requirements.{are_met, is_allowed}
use Rattle.ad_questions.specs.Asking.{IsNameOf, IsAddOf, IsModifyOf, is_wanting}
use Rattle.ad_questions.proofs.Sighted.{told_is}
use Rattle.ad_questions.proofs.NeedsLaws.{add_is}

-- ---- requirements

pub missing_is : (dir : Directory) (token : Token) (all : List (List Alternative))
    → is_wanting (first_failing (all_met dir token all)) ≡ not (are_met dir token all)
unfolding first_failing
missing_is dir token [] = refl
missing_is dir token (requirement ∷ others) = by (missing_is dir token others) (is_met dir token requirement)
  where
    by : is_wanting (first_failing (all_met dir token others)) ≡ not (are_met dir token others) → (met : Bool)
        → is_wanting (if met then first_failing (all_met dir token others) else Some (missing (need_of requirement)))
        ≡ not (met && are_met dir token others)
    by later true = later
    by later false = refl

-- ---- an object that a text names

module _ (dir : Directory) (token : Token) (number : ℕ) (rdns : List Rdn) (is : found dir rdns ≡ Some number) where
  pub named_is : visible_of dir token rdns ≡ (if is_visible dir token number then Some number else None)
  unfolding visible_of
  named_is = ap (λ (o : Option ℕ). option_and_then (if_visible dir token) o) is

  -- a check that is hidden where the object isn't seen, before others that speak of the object that was found
  pub seen_then : (check : Check) (behind : ℕ → List Check)
      → check.holds ≡ is_some (visible_of dir token rdns)
      → is_wanting (Some check.refusal) ≡ true
      → (wanted : Bool) → is_wanting (first_failing (behind number)) ≡ not wanted
      → is_wanting (first_failing (check ∷ behind (unwrap_or (visible_of dir token rdns) 0)))
      ≡ not (is_visible dir token number && wanted)
  seen_then check behind holds hides wanted others = by (is_visible dir token number) named_is
    where
      by : (seen : Bool) → visible_of dir token rdns ≡ (if seen then Some number else None)
          → is_wanting (first_failing (check ∷ behind (unwrap_or (visible_of dir token rdns) 0)))
          ≡ not (seen && wanted)
      by true there =
          ap is_wanting (head_passes check (behind (unwrap_or (visible_of dir token rdns) 0))
          (holds ∙ ap is_some there))
          ∙ ap (λ (o : Option ℕ). is_wanting (first_failing (behind (unwrap_or o 0)))) there
          ∙ others
      by false there =
          ap is_wanting (head_fails check (behind (unwrap_or (visible_of dir token rdns) 0))
          (holds ∙ ap is_some there))
          ∙ hides

-- ---- Delete

pub delete_told : (dir : Directory) (token : Token) (number : ℕ) (text : List ℕ) → IsNameOf dir number text
    → (number == root) ≡ false
    → is_wanting (first_failing (delete_checks dir token text false))
    ≡ not (is_allowed dir token question.Delete number)
unfolding delete_checks object_named request_needs is_for
delete_told dir token number text is below =
    ap is_wanting (head_passes (or_code (is_name text) invalid_dn_syntax) _ is.reads)
    ∙ seen_then dir token number (parts_in text) is.named (or_hidden dir token text)
    (λ (n : ℕ). or_code (not (n == root)) unwilling_to_perform ∷ all_met dir token (delete_needs dir n false))
    refl refl (are_met dir token (delete_needs dir number false))
    (ap is_wanting (head_passes (or_code (not (number == root)) unwilling_to_perform) _ (ap not below))
    ∙ missing_is dir token (delete_needs dir number false))
    ∙ sym (ap not (told_is dir token question.Delete number refl
    ∙ ap (λ (b : Bool). not b && (is_visible dir token number
    && are_met dir token (delete_needs dir number false))) below))

-- ---- Modify

pub modify_told : (dir : Directory) (token : Token) (question : Question) (number flags : ℕ) (m : Modify)
    → is_right question ≡ false → is_for dir question number ≡ true
    → IsModifyOf dir token question number flags m
    → is_wanting (first_failing (modify_checks dir token m flags)) ≡ not (is_allowed dir token question number)
unfolding modify_checks object_named
modify_told dir token question number flags m no_right possible is =
    ap is_wanting (head_passes (or_code (is_name m.dn) invalid_dn_syntax) _ is.name.reads)
    ∙ seen_then dir token number (parts_in m.dn) is.name.named (or_hidden dir token m.dn)
    (λ (n : ℕ). flat_map (item_checks dir n flags m.items) m.items
    ++ all_met dir token (modify_needs dir token n flags m.items))
    refl refl (are_met dir token (modify_needs dir token number flags m.items))
    (ap is_wanting (all_pass (flat_map (item_checks dir number flags m.items) m.items)
    (all_met dir token (modify_needs dir token number flags m.items)) is.lawful)
    ∙ missing_is dir token (modify_needs dir token number flags m.items))
    ∙ sym (ap not (told_is dir token question number no_right
    ∙ ap (λ (b : Bool). b && (is_visible dir token number
    && are_met dir token (request_needs dir question number))) possible
    ∙ ap (λ (needed : List (List Alternative)). is_visible dir token number && are_met dir token needed) is.needed))

-- ---- Add

module _ (dir : Directory) (token : Token) (number flags : ℕ) (id : ClassId) (a : Add)
    (is : IsAddOf dir number id.0 flags a) where
  class_is : class_number dir a ≡ id.0
  class_is = ap (λ (o : Option ℕ). unwrap_or o 0) is.class_is

  -- what is checked after the parent, of a class
  behind_class : ℕ → ℕ → List Check
  behind_class class n =
      all_naming_checks dir.schema [] a.attrs
      ++ (or_code (is_some (new_class dir a)) object_class_violation
      ∷ or_code (not (is_schema_class dir.schema class)) unwilling_to_perform
      ∷ or_code (is_typed dir.schema class (new_part a)) naming_violation
      ∷ or_code (descriptor_reads a) constraint_violation
      ∷ (flat_map (own_checks dir.schema class (new_part a).value) (all_ordinary dir.schema a)
      ++ all_met dir token (add_needs dir n class (new_sd a flags))))

  behind_is : is_wanting (first_failing (behind_class id.0 number))
      ≡ not (are_met dir token (add_needs dir number id.0 (new_sd a flags)))
  unfolding behind_class
  behind_is =
      ap is_wanting (all_pass (all_naming_checks dir.schema [] a.attrs) _ is.known
      ∙ head_passes (or_code (is_some (new_class dir a)) object_class_violation) _ (ap is_some is.class_is)
      ∙ head_passes (or_code (not (is_schema_class dir.schema id.0)) unwilling_to_perform) _ is.no_schema
      ∙ head_passes (or_code (is_typed dir.schema id.0 (new_part a)) naming_violation) _ is.typed
      ∙ head_passes (or_code (descriptor_reads a) constraint_violation) _ is.reads
      ∙ all_pass (flat_map (own_checks dir.schema id.0 (new_part a).value) (all_ordinary dir.schema a)) _ is.own)
      ∙ missing_is dir token (add_needs dir number id.0 (new_sd a flags))

  pub add_told : is_for dir (question.Add id) number ≡ true
      → is_wanting (first_failing (add_checks dir token a flags))
      ≡ not (is_allowed dir token (question.Add id) number)
  unfolding add_checks parent_named behind_class
  add_told possible =
      ap is_wanting (head_passes (or_code (has_parts a) invalid_dn_syntax) _ is.has_parts
      ∙ head_passes (or_code (not (is_root_named dir a)) entry_already_exists) _ is.no_root)
      ∙ seen_then dir token number (drop 1 (parts_in a.dn)) is.below (parent_seen dir token a)
      (behind_class (class_number dir a)) refl refl
      (are_met dir token (add_needs dir number id.0 (new_sd a flags)))
      (ap (λ (k : ℕ). is_wanting (first_failing (behind_class k number))) class_is ∙ behind_is)
      ∙ sym (ap not (told_is dir token (question.Add id) number refl
      ∙ ap (λ (b : Bool). b && (is_visible dir token number
      && are_met dir token (request_needs dir (question.Add id) number))) possible
      ∙ ap (λ (needed : List (List Alternative)). is_visible dir token number && are_met dir token needed)
      (add_is dir number id (new_sd a flags) is.no_sacl)))
