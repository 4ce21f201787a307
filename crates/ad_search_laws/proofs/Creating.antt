-- The classes that are told are those for which an Add isn't refused for its class.
use Rattle.std.proofs.Common.{◌≡◌, ℕ, Bool, true, false, not, ◌&&◌, ◌↔◌, List, [], ◌∷◌, ◌++◌, Option, Some, None}
use Rattle.std.proofs.Common.{refl, sym, ap, subst, ◌∙◌}
use Rattle.std.specs.Prelude.{is_some, unwrap_or, slice_get, nat_eq, if◌then◌else◌}
use Rattle.std.specs.Option.{option_map_or, option_and_then}
use Rattle.std.specs.List.{flat_map}
use Rattle.std.proofs.lemmas.Bool.{and_parts, and_from, false≢true}
use Rattle.std.proofs.lemmas.Option.{cond_some, option_and_then_some}
use Rattle.ad_ids.specs.declared.token.Token.{Token}
use Rattle.ad_acl.specs.Mask.{create_child}
use Rattle.ad_ldap.specs.declared.controls.Settings.{Settings}
use Rattle.ad_ldap.specs.declared.requests.Add.{Add}
use Rattle.ad_ldap.specs.MessageValue.{AddOf}
use Rattle.ad_schema.specs.declared.info.ClassInfo.{ClassInfo}
use Rattle.ad_schema.specs.Classes.{classes_of, is_under}
use Rattle.ad_schema_defaults.specs.NewClass.{class_by_names, if_structural, is_structural, is_schema_class}
use Rattle.ad_constructed_dir.specs.Changing.{may_create}
use Rattle.ad_dir_objects.specs.declared.act.Act.{Act}
use Rattle.ad_dir_model.specs.Directory.{Directory}
use Rattle.ad_dir_objects.proofs.ClassGuids.{guid_there}
use Rattle.ad_access_dir.specs.Sight.{is_granted}
use Rattle.ad_needs_rules.specs.Checks.{Check, Refusal, code, hidden, missing, first_failing, by_checks, or_code}
use Rattle.ad_needs_rules.specs.Checks.{refused, or_missing, all_met}
use Rattle.ad_needs_rules.specs.Needs.{needs}
use Rattle.ad_needs_rules.specs.Requests.{class_at, class_path}
use Rattle.ad_needs_rules.specs.Descriptors.{is_owner_allowed}
use Rattle.ad_needs_rules.proofs.FirstFailing.{head_holds, head_passes, both_hold}
use Rattle.ad_needs_rules.specs.Renaming.{is_typed}
use Rattle.ad_needs_rules.specs.Adding.{has_parts, new_part, is_root_named, parent_named, parent_number, parent_seen}
use Rattle.ad_needs_rules.specs.Adding.{all_naming_checks, new_class, class_number, descriptor_reads, new_sd}
use Rattle.ad_needs_rules.specs.Adding.{brings_sacl}
use Rattle.ad_needs_rules.specs.Adding.{new_values, all_ordinary, own_checks, sacl_needs, add_checks, add_act}
use Rattle.ad_needs_rules.specs.Verdicts.{verdict_of}
use Rattle.ad_change.specs.Adding.{add_later}
use Rattle.ad_change.specs.Effects.{Effect, answered, changes_to, by_later, by_verdict, told, effect, later_checks}
use Rattle.ad_search_laws.specs.Children.{IsChildTold, class_sent, IsAddOf, class_own, other_checks, other_later}
use Rattle.ad_search_laws.specs.Children.{after_others, by_others, IsOfToldClass}
use Rattle.ad_search_laws.proofs.OneRight.{one_right}

-- ---- a check that holds has no part in it

behind : (c : Check) (xs ys : List Check) → first_failing xs ≡ first_failing ys
    → first_failing (c ∷ xs) ≡ first_failing (c ∷ ys)
unfolding first_failing
behind c xs ys same = ap (λ (found : Option Refusal). if c.holds then found else Some c.refusal) same

behind_all : (cs xs ys : List Check) → first_failing xs ≡ first_failing ys
    → first_failing (cs ++ xs) ≡ first_failing (cs ++ ys)
behind_all [] xs ys same = same
behind_all (c ∷ cs) xs ys same = behind c (cs ++ xs) (cs ++ ys) (behind_all cs xs ys same)

-- ---- what is told, check by check

module _ (dir : Directory) (token : Token) (number class : ℕ) where
  create : Check
  create = or_missing dir token (needs number create_child (class_path dir.schema class) ∷ [])

  create_is : create.holds ≡ is_granted dir token number (class_path dir.schema class) create_child
  unfolding create
  create_is = one_right dir token number create_child (class_path dir.schema class)

  -- a structural class is one of the schema, so the path of its GUID is the one that was asked for
  may_is : is_structural dir.schema class ≡ true
      → may_create dir token number class ≡ is_granted dir token number (class_path dir.schema class) create_child
  unfolding may_create is_structural
  may_is structural = by_info (slice_get (classes_of dir.schema) class) refl structural
    where
      by_info : (found : Option ClassInfo) → slice_get (classes_of dir.schema) class ≡ found
          → option_map_or (λ (info : ClassInfo). not (nat_eq info.category 2) && not (nat_eq info.category 3)) found
          false ≡ true
          → option_map_or (λ (info : ClassInfo). is_granted dir token number (info.guid ∷ []) create_child)
          (slice_get (classes_of dir.schema) class) false
          ≡ is_granted dir token number (class_path dir.schema class) create_child
      by_info None there is = absurd (false≢true is)
      by_info (Some info) there is =
          ap (λ (found : Option ClassInfo). option_map_or
          (λ (i : ClassInfo). is_granted dir token number (i.guid ∷ []) create_child) found false) there
          ∙ ap (λ (guid : _). is_granted dir token number (guid ∷ []) create_child)
          (guid_there dir.schema class info there)

  record Holds : Type 0 where
    structural : is_structural dir.schema class ≡ true
    no_schema : not (is_schema_class dir.schema class) ≡ true
    creates : create.holds ≡ true
    lawful : is_under dir.schema class (class_at dir number) ≡ true

  told_holds : IsChildTold dir token number class → Holds
  told_holds is =
      let last = and_parts ((is_structural dir.schema class && not (is_schema_class dir.schema class))
      && is_under dir.schema class (class_at dir number)) (may_create dir token number class) is in
      let third = and_parts (is_structural dir.schema class && not (is_schema_class dir.schema class))
      (is_under dir.schema class (class_at dir number)) last.0 in
      let first = and_parts (is_structural dir.schema class) (not (is_schema_class dir.schema class)) third.0 in
      record {
        structural = first.0;
        no_schema = first.1;
        creates = create_is ∙ sym (may_is first.0) ∙ last.1;
        lawful = third.1;
      }

  holds_told : Holds → IsChildTold dir token number class
  holds_told h =
      and_from ((is_structural dir.schema class && not (is_schema_class dir.schema class))
      && is_under dir.schema class (class_at dir number)) (may_create dir token number class)
      (and_from (is_structural dir.schema class && not (is_schema_class dir.schema class))
      (is_under dir.schema class (class_at dir number))
      (and_from (is_structural dir.schema class) (not (is_schema_class dir.schema class)) h.structural h.no_schema)
      h.lawful)
      (may_is h.structural ∙ sym create_is ∙ h.creates)

  last_ones : List Check
  last_ones = or_code (is_under dir.schema class (class_at dir number)) 64 ∷ []

  told_own : IsChildTold dir token number class → first_failing (class_own dir token number class) ≡ None
  unfolding class_own create first_failing last_ones
  told_own is =
      let h = told_holds is in
      head_passes (or_code (is_structural dir.schema class) 65)
      (or_code (not (is_schema_class dir.schema class)) 53 ∷ create ∷ last_ones) h.structural
      ∙ head_passes (or_code (not (is_schema_class dir.schema class)) 53) (create ∷ last_ones) h.no_schema
      ∙ head_passes create last_ones h.creates
      ∙ head_passes (or_code (is_under dir.schema class (class_at dir number)) 64) [] h.lawful

  own_told : first_failing (class_own dir token number class) ≡ None → IsChildTold dir token number class
  unfolding class_own create
  own_told none =
      let first = head_holds (or_code (is_structural dir.schema class) 65) _ none in
      let second = head_holds (or_code (not (is_schema_class dir.schema class)) 53) _ first.1 in
      let third = head_holds create _ second.1 in
      let last = head_holds (or_code (is_under dir.schema class (class_at dir number)) 64) [] third.1 in
      holds_told (record { structural = first.0; no_schema = second.0; creates = third.0; lawful = last.0 })

pub told_is_own : (dir : Directory) (token : Token) (number class : ℕ) → IsChildTold dir token number class
    ↔ (first_failing (class_own dir token number class) ≡ None)
told_is_own dir token number class = (told_own dir token number class, own_told dir token number class)

-- ---- the class of a request

class_new : (dir : Directory) (a : Add) (class : ℕ) → class_sent dir a ≡ Some class
    → is_structural dir.schema class ≡ true → new_class dir a ≡ Some class
unfolding new_class class_by_names if_structural
class_new dir a class is structural =
    ap (option_and_then (if_structural dir.schema)) is
    ∙ ap (λ (b : Bool). if b then Some class else None) structural

record IsNewClass (dir : Directory) (a : Add) : Type 0 where
  sent_is : class_sent dir a ≡ Some (class_number dir a)
  structural : is_structural dir.schema (class_number dir a) ≡ true

new_was_sent : (dir : Directory) (a : Add) → is_some (new_class dir a) ≡ true → IsNewClass dir a
unfolding new_class class_by_names if_structural
new_was_sent dir a is = by (new_class dir a) refl is
  where
    by : (found : Option ℕ) → new_class dir a ≡ found → is_some found ≡ true → IsNewClass dir a
    by None none some = absurd (false≢true some)
    by (Some n) there some =
        let number : class_number dir a ≡ n = ap (λ (found : Option ℕ). unwrap_or found 0) there in
        option_and_then_some (if_structural dir.schema) (class_sent dir a) n there
        (λ (class : ℕ) first structural.
        let parts = cond_some (is_structural dir.schema class) class n structural in
        let same : class ≡ class_number dir a = parts.1 ∙ sym number in
        record {
          sent_is = first ∙ ap (λ (k : ℕ). Some k) same;
          structural = subst (λ (k : ℕ). is_structural dir.schema k ≡ true) same parts.0;
        })

-- ---- all checks are those of the class and the others

module _ (dir : Directory) (token : Token) (a : Add) (flags : ℕ) where
  parent : ℕ
  parent = parent_number dir token a

  class_here : ℕ
  class_here = class_number dir a

  schema_check : Check
  schema_check = or_code (not (is_schema_class dir.schema class_here)) 53

  create_here : Check
  create_here = create dir token parent class_here

  sacl_rest : List Check
  sacl_rest = all_met dir token (sacl_needs parent (brings_sacl (new_sd a flags)))

  values_rest : List Check → List Check
  values_rest rest = flat_map (own_checks dir.schema class_here (new_part a).value) (all_ordinary dir.schema a) ++ rest

  typed_rest : List Check → List Check
  typed_rest rest = or_code (is_typed dir.schema class_here (new_part a)) 64 ∷ or_code (descriptor_reads a) 19
      ∷ values_rest rest

  front : List Check → List Check
  front rest = or_code (has_parts a) 34 ∷ or_code (not (is_root_named dir a)) 68 ∷ parent_seen dir token a
      ∷ (all_naming_checks dir.schema [] a.attrs ++ rest)

  checks_are : add_checks dir token a flags
      ≡ front (or_code (is_some (new_class dir a)) 65 ∷ schema_check ∷ typed_rest (create_here ∷ sacl_rest))
  unfolding add_checks front typed_rest values_rest sacl_rest create_here create schema_check class_here parent
  checks_are = refl

  others_are : other_checks dir token a flags ≡ front (typed_rest sacl_rest)
  unfolding other_checks front typed_rest values_rest sacl_rest class_here parent
  others_are = refl

  -- ---- the way there

  same_front : (xs ys : List Check) → first_failing xs ≡ first_failing ys → first_failing (front xs)
      ≡ first_failing (front ys)
  unfolding front
  same_front xs ys same =
      behind (or_code (has_parts a) 34) _ _ (behind (or_code (not (is_root_named dir a)) 68) _ _
      (behind (parent_seen dir token a) _ _ (behind_all (all_naming_checks dir.schema [] a.attrs) xs ys same)))

  same_typed : (xs ys : List Check) → first_failing xs ≡ first_failing ys → first_failing (typed_rest xs)
      ≡ first_failing (typed_rest ys)
  unfolding typed_rest values_rest
  same_typed xs ys same =
      behind (or_code (is_typed dir.schema class_here (new_part a)) 64) _ _
      (behind (or_code (descriptor_reads a) 19) _ _ (behind_all
      (flat_map (own_checks dir.schema class_here (new_part a).value) (all_ordinary dir.schema a)) xs ys same))

  all_are_others : is_some (new_class dir a) ≡ true → Holds dir token parent class_here
      → first_failing (add_checks dir token a flags) ≡ first_failing (other_checks dir token a flags)
  unfolding schema_check create_here
  all_are_others known h =
      ap first_failing checks_are
      ∙ same_front _ _ (head_passes (or_code (is_some (new_class dir a)) 65) _ known
      ∙ head_passes schema_check _ h.no_schema
      ∙ same_typed (create_here ∷ sacl_rest) sacl_rest (head_passes create_here sacl_rest h.creates))
      ∙ sym (ap first_failing others_are)

  -- ---- what it tells

  record HoldsUpTo : Type 0 where
    seen : is_some (parent_named dir token a) ≡ true
    known : is_some (new_class dir a) ≡ true
    no_schema : not (is_schema_class dir.schema class_here) ≡ true
    creates : create_here.holds ≡ true

  none_holds : first_failing (add_checks dir token a flags) ≡ None → HoldsUpTo
  unfolding front typed_rest values_rest schema_check
  none_holds none =
      let one = head_holds (or_code (has_parts a) 34) _ (sym (ap first_failing checks_are) ∙ none) in
      let two = head_holds (or_code (not (is_root_named dir a)) 68) _ one.1 in
      let three = head_holds (parent_seen dir token a) _ two.1 in
      let four = both_hold (all_naming_checks dir.schema [] a.attrs) _ three.1 in
      let five = head_holds (or_code (is_some (new_class dir a)) 65) _ four.1 in
      let six = head_holds schema_check _ five.1 in
      let seven = head_holds (or_code (is_typed dir.schema class_here (new_part a)) 64) _ six.1 in
      let eight = head_holds (or_code (descriptor_reads a) 19) _ seven.1 in
      let nine = both_hold
      (flat_map (own_checks dir.schema class_here (new_part a).value) (all_ordinary dir.schema a)) _ eight.1 in
      let ten = head_holds create_here sacl_rest nine.1 in
      record { seen = three.0; known = five.0; no_schema = six.0; creates = ten.0 }

  later_are : first_failing (later_checks dir token (add_act dir token a flags))
      ≡ first_failing (add_later dir token parent class_here (new_part a).value (new_values dir.schema class_here a)
      (new_sd a flags))
  unfolding later_checks parent class_here
  later_are = refl

  later_others : is_under dir.schema class_here (class_at dir parent) ≡ true
      → first_failing (later_checks dir token (add_act dir token a flags))
      ≡ first_failing (other_later dir token parent class_here (new_part a).value
      (new_values dir.schema class_here a) (new_sd a flags))
  unfolding add_later other_later
  later_others lawful =
      later_are ∙ behind (or_code (is_owner_allowed token (new_sd a flags)) 19) _ _
      (head_passes (or_code (is_under dir.schema class_here (class_at dir parent)) 64) _ lawful)

  later_lawful : first_failing (later_checks dir token (add_act dir token a flags)) ≡ None
      → is_under dir.schema class_here (class_at dir parent) ≡ true
  unfolding add_later
  later_lawful none =
      let one = head_holds (or_code (is_owner_allowed token (new_sd a flags)) 19) _ (sym later_are ∙ none) in
      (head_holds (or_code (is_under dir.schema class_here (class_at dir parent)) 64) _ one.1).0

-- ---- effects

refused_told : (dir : Directory) (token : Token) (refusal : Refusal) → by_verdict dir token (refused refusal)
    ≡ told dir (refused refusal)
refused_told dir token (code n) = refl
refused_told dir token (hidden rdns) = refl
refused_told dir token (missing need) = refl

changes : Effect → Bool
changes (changes_to dir) = true
changes (answered number matched diagnostic) = false

refused_stays : (dir after : Directory) (refusal : Refusal) → told dir (refused refusal) ≡ changes_to after → ⊥
unfolding changes
refused_stays dir after (code n) is = absurd (false≢true (ap changes is))
refused_stays dir after (hidden rdns) is = absurd (false≢true (ap changes is))
refused_stays dir after (missing need) is = absurd (false≢true (ap changes is))

module _ (dir : Directory) (token : Token) (a : Add) (settings : Settings) where
  act_is : Act
  act_is = add_act dir token a settings.sd_flags

  effect_is : effect dir token (AddOf a) settings
      ≡ by_verdict dir token (by_checks (first_failing (add_checks dir token a settings.sd_flags)) act_is)
  unfolding effect verdict_of act_is
  effect_is = refl

  to_others : (number class : ℕ) → IsAddOf dir token number class a → IsChildTold dir token number class
      → effect dir token (AddOf a) settings ≡ by_others dir token a settings
  unfolding by_others act_is class_here parent
  to_others number class adds is =
      effect_is
      ∙ ap (λ (found : Option Refusal). by_verdict dir token (by_checks found act_is))
      (all_are_others dir token a settings.sd_flags known here)
      ∙ by_found (first_failing (other_checks dir token a settings.sd_flags))
    where
      above : parent_number dir token a ≡ number
      above = ap (λ (found : Option ℕ). unwrap_or found 0) adds.below

      new : new_class dir a ≡ Some class
      new = class_new dir a class adds.class_is (told_holds dir token number class is).structural

      number_is : class_number dir a ≡ class
      number_is = ap (λ (found : Option ℕ). unwrap_or found 0) new

      known : is_some (new_class dir a) ≡ true
      known = ap is_some new

      here : Holds dir token (parent_number dir token a) (class_number dir a)
      here = subst (λ (n : ℕ). Holds dir token n (class_number dir a)) (sym above)
          (subst (λ (k : ℕ). Holds dir token number k) (sym number_is) (told_holds dir token number class is))

      by_found : (found : Option Refusal) → by_verdict dir token (by_checks found act_is)
          ≡ after_others dir token a settings.sd_flags found
      by_found None = ap (λ (later : Option Refusal). by_later dir token act_is later)
          (later_others dir token a settings.sd_flags here.lawful)
      by_found (Some refusal) = refused_told dir token refusal

  done_is_told : (after : Directory) → effect dir token (AddOf a) settings ≡ changes_to after
      → IsOfToldClass dir token a
  unfolding act_is class_here parent create_here
  done_is_told after is = by_found (first_failing (add_checks dir token a settings.sd_flags)) refl (sym effect_is ∙ is)
    where
      by_found : (found : Option Refusal) → first_failing (add_checks dir token a settings.sd_flags) ≡ found
          → by_verdict dir token (by_checks found act_is) ≡ changes_to after → IsOfToldClass dir token a
      by_found (Some refusal) there it = absurd (refused_stays dir after refusal (sym (refused_told dir token refusal)
          ∙ it))
      by_found None none it = by_later_found (first_failing (later_checks dir token act_is)) refl it
        where
          up_to : HoldsUpTo dir token a settings.sd_flags
          up_to = none_holds dir token a settings.sd_flags none

          class_of : IsNewClass dir a
          class_of = new_was_sent dir a up_to.known

          below_is : (found : Option ℕ) → parent_named dir token a ≡ found → is_some found ≡ true
              → parent_named dir token a ≡ Some (parent_number dir token a)
          below_is None none' some = absurd (false≢true some)
          below_is (Some n) there some = there ∙ ap (λ (k : ℕ). Some k)
              (sym (ap (λ (f : Option ℕ). unwrap_or f 0) there))

          by_later_found : (later : Option Refusal) → first_failing (later_checks dir token act_is) ≡ later
              → by_later dir token act_is later ≡ changes_to after → IsOfToldClass dir token a
          by_later_found (Some refusal) there it' = absurd (refused_stays dir after refusal it')
          by_later_found None holds it' = record {
            number = parent_number dir token a;
            class = class_number dir a;
            adds = record { below = below_is (parent_named dir token a) refl up_to.seen; class_is = class_of.sent_is };
            told = holds_told dir token (parent_number dir token a) (class_number dir a) (record {
              structural = class_of.structural;
              no_schema = up_to.no_schema;
              creates = up_to.creates;
              lawful = later_lawful dir token a settings.sd_flags holds;
            });
          }

pub told_by_others : (dir : Directory) (token : Token) (number class : ℕ) (a : Add) (settings : Settings)
    → IsAddOf dir token number class a → IsChildTold dir token number class
    → effect dir token (AddOf a) settings ≡ by_others dir token a settings
told_by_others dir token number class a settings adds is = to_others dir token a settings number class adds is

pub done_was_told : (dir : Directory) (token : Token) (a : Add) (settings : Settings) (after : Directory)
    → effect dir token (AddOf a) settings ≡ changes_to after → IsOfToldClass dir token a
done_was_told dir token a settings after is = done_is_told dir token a settings after is
