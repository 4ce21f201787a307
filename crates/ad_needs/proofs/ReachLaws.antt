-- What is known where each check before the requirements passes.
use Rattle.std.proofs.Common.{◌≡◌, ℕ, Bool, true, false, List, [], ◌∷◌, ◌++◌, Option, Some, None, inl, inr, refl, ◌∙◌}
use Rattle.std.specs.Prelude.{not, nat_eq, is_some, IfSome, if◌then◌else◌}
use Rattle.std.specs.List.{AllByRecursion, flat_map}
use Rattle.std.proofs.lemmas.Bool.{cases_Bool, both_ways, eqb-false, not-true}
use Rattle.ad_ids.specs.declared.token.Token.{Token}
use Rattle.ad_ldap.specs.declared.controls.Settings.{Settings}
use Rattle.ad_ldap.specs.declared.items.Item.{Item}
use Rattle.ad_ldap.specs.declared.requests.Add.{Add}
use Rattle.ad_ldap.specs.declared.requests.Modify.{Modify}
use Rattle.ad_ldap.specs.declared.requests.Rename.{Rename}
use Rattle.ad_ldap.specs.MessageValue.{ModifyOf, AddOf, DeleteOf, RenameOf}
use Rattle.ad_schema.specs.declared.line.SchemaRecord.{SchemaRecord}
use Rattle.ad_dir_objects.specs.declared.act.Act.{Act}
use Rattle.ad_dir_model.specs.Tree.{root}
use Rattle.ad_dir_model.specs.Directory.{Directory}
use Rattle.ad_needs_rules.specs.Checks.{Check, refused, first_failing, all_met, by_checks}
use Rattle.ad_needs_rules.specs.Requests.{is_name, object_named, number_named, or_hidden, is_descriptor}
use Rattle.ad_needs_rules.specs.Adding.{has_parts, parent_named, parent_number, new_class, class_number, new_part}
use Rattle.ad_needs_rules.specs.Adding.{new_sd}
use Rattle.ad_needs_rules.specs.Adding.{all_ordinary, all_naming_checks, own_checks, add_needs, add_checks, add_act}
use Rattle.ad_needs_rules.specs.Deleting.{delete_needs, delete_checks, delete_act}
use Rattle.ad_needs_rules.specs.Renaming.{new_parent, superior_reads, superior_seen, rename_needs, rename_checks}
use Rattle.ad_needs_rules.specs.Renaming.{rename_act}
use Rattle.ad_needs_rules.specs.Modifying.{item_checks, descriptor_checks, ordinary_checks, modify_needs, modify_checks}
use Rattle.ad_needs_rules.specs.Modifying.{modify_act}
use Rattle.ad_needs_rules.specs.Verdicts.{verdict_of}
use Rattle.ad_needs.specs.Traces.{reaches}

-- the check is one before the requirements
abbrev pub IsBefore : Check → Type 0
IsBefore c = reaches (refused c.refusal) ≡ false

abbrev pub Reaches : List Check → Act → Type 0
Reaches checks act = reaches (by_checks (first_failing checks) act) ≡ true

-- one check is passed: it holds, and what is said is what the others say
record Passed (c : Check) (cs : List Check) (act : Act) : Type 0 where
  holds : c.holds ≡ true
  rest : Reaches cs act
  same : by_checks (first_failing (c ∷ cs)) act ≡ by_checks (first_failing cs) act

passes : (c : Check) (cs : List Check) (act : Act) → IsBefore c → Reaches (c ∷ cs) act → Passed c cs act
unfolding first_failing
passes c cs act before is = elim (cases_Bool c.holds) [
  | inl holds ↦ record { holds = holds; rest = rw holds at is; same = rw holds refl }
  | inr fails ↦ absurd (both_ways (reaches (refused c.refusal)) before (rw fails at is))
]

-- so are some
record AllPassed (xs ys : List Check) (act : Act) : Type 0 where
  rest : Reaches ys act
  same : by_checks (first_failing (xs ++ ys)) act ≡ by_checks (first_failing ys) act

all_pass : (xs ys : List Check) (act : Act) → AllByRecursion IsBefore xs → Reaches (xs ++ ys) act → AllPassed xs ys act
all_pass [] ys act before is = record { rest = is; same = refl }
all_pass (x ∷ xs) ys act before is =
    let one = passes x (xs ++ ys) act before.0 is in
    let others = all_pass xs ys act before.1 one.rest in
    record { rest = others.rest; same = one.same ∙ others.same }

before_append : (xs ys : List Check) → AllByRecursion IsBefore xs → AllByRecursion IsBefore ys
    → AllByRecursion IsBefore (xs ++ ys)
before_append [] ys first second = second
before_append (x ∷ xs) ys first second = (first.0, before_append xs ys first.1 second)

before_of : {A : Type 0} (f : A → List Check) (xs : List A) → ((x : A) → AllByRecursion IsBefore (f x))
    → AllByRecursion IsBefore (flat_map f xs)
before_of f [] each = tt
before_of f (x ∷ xs) each = before_append (f x) (flat_map f xs) (each x) (before_of f xs each)

-- ---- Delete

pub record NamesOne (dir : Directory) (token : Token) (text : List ℕ) : Type 0 where
  pub name : is_name text ≡ true
  pub seen : is_some (object_named dir token text) ≡ true

pub record NamesBelow (dir : Directory) (token : Token) (text : List ℕ) : Type 0 where
  pub one : NamesOne dir token text
  pub below : number_named dir token text ≡ root → ⊥

not_root : (n : ℕ) → not (nat_eq n root) ≡ true → n ≡ root → ⊥
not_root n below same = eqb-false n root (not-true (nat_eq n root) below) same

pub delete_reaches : (dir : Directory) (token : Token) (text : List ℕ) (s : Settings)
    → reaches (verdict_of dir token (DeleteOf text) s) ≡ true → NamesBelow dir token text
unfolding verdict_of delete_checks
delete_reaches dir token text s is =
    let act = delete_act dir token text s.tree in
    let name = passes _ _ act refl is in
    let seen = passes _ _ act refl name.rest in
    let below = passes _ _ act refl seen.rest in
    record {
      one = record { name = name.holds; seen = seen.holds };
      below = not_root (number_named dir token text) below.holds;
    }

-- ---- Modify

pub modify_reaches : (dir : Directory) (token : Token) (m : Modify) (s : Settings)
    → reaches (verdict_of dir token (ModifyOf m) s) ≡ true → NamesOne dir token m.dn
unfolding verdict_of modify_checks
modify_reaches dir token m s is =
    let act = modify_act dir token m s.sd_flags in
    let name = passes _ _ act refl is in
    let seen = passes _ _ act refl name.rest in
    record { name = name.holds; seen = seen.holds }

-- ---- Rename

pub record RenameReaches (dir : Directory) (token : Token) (r : Rename) : Type 0 where
  pub object : NamesBelow dir token r.dn
  pub superior : IfSome r.superior (λ (text : List ℕ). (is_name text ≡ true)
      × (is_some (object_named dir token text) ≡ true))

record SuperiorPassed (dir : Directory) (token : Token) (superior : Option (List ℕ)) (cs : List Check) (act : Act)
    : Type 0 where
  named : IfSome superior (λ (text : List ℕ). (is_name text ≡ true) × (is_some (object_named dir token text) ≡ true))
  rest : Reaches cs act
  same : by_checks (first_failing (superior_seen dir token superior ++ cs)) act ≡ by_checks (first_failing cs) act

superior_passes : (dir : Directory) (token : Token) (superior : Option (List ℕ)) (cs : List Check) (act : Act)
    → superior_reads superior ≡ true → Reaches (superior_seen dir token superior ++ cs) act
    → SuperiorPassed dir token superior cs act
superior_passes dir token None cs act reads is = record { named = tt; rest = is; same = refl }
superior_passes dir token (Some text) cs act reads is =
    let seen = passes (or_hidden dir token text) cs act refl is in
    record { named = (reads, seen.holds); rest = seen.rest; same = seen.same }

pub rename_reaches : (dir : Directory) (token : Token) (r : Rename) (s : Settings)
    → reaches (verdict_of dir token (RenameOf r) s) ≡ true → RenameReaches dir token r
unfolding verdict_of rename_checks
rename_reaches dir token r s is =
    let act = rename_act dir token r in
    let name = passes _ _ act refl is in
    let part = passes _ _ act refl name.rest in
    let reads = passes _ _ act refl part.rest in
    let seen = passes _ _ act refl reads.rest in
    let above = superior_passes dir token r.superior _ act reads.holds seen.rest in
    let below = passes _ _ act refl above.rest in
    record {
      object = record {
        one = record { name = name.holds; seen = seen.holds };
        below
            = not_root (number_named dir token r.dn) below.holds;
      };
      superior = above.named;
    }

-- ---- Add

pub record AddReaches (dir : Directory) (token : Token) (a : Add) : Type 0 where
  pub parts : has_parts a ≡ true
  pub parent : is_some (parent_named dir token a) ≡ true
  pub class_is : is_some (new_class dir a) ≡ true

naming_before : (schema : List SchemaRecord) (earlier attrs : List (List ℕ × List (List ℕ))) → AllByRecursion IsBefore
    (all_naming_checks schema earlier attrs)
unfolding all_naming_checks
naming_before schema earlier [] = tt
naming_before schema earlier (attr ∷ attrs) = (refl, (refl, naming_before schema (earlier ++ attr ∷ []) attrs))

pub add_reaches : (dir : Directory) (token : Token) (a : Add) (s : Settings)
    → reaches (verdict_of dir token (AddOf a) s) ≡ true → AddReaches dir token a
unfolding verdict_of add_checks
add_reaches dir token a s is =
    let act = add_act dir token a s.sd_flags in
    let parts = passes _ _ act refl is in
    let other = passes _ _ act refl parts.rest in
    let parent = passes _ _ act refl other.rest in
    let named = all_pass (all_naming_checks dir.schema [] a.attrs) _ act (naming_before dir.schema [] a.attrs)
    parent.rest in
    let class_is = passes _ _ act refl named.rest in
    record { parts = parts.holds; parent = parent.holds; class_is = class_is.holds }

-- ---- what is said is what the requirements say

pub delete_leads : (dir : Directory) (token : Token) (text : List ℕ) (s : Settings)
    → reaches (verdict_of dir token (DeleteOf text) s) ≡ true
    → verdict_of dir token (DeleteOf text) s
    ≡ by_checks (first_failing (all_met dir token (delete_needs dir (number_named dir token text) s.tree)))
    (delete_act dir token text s.tree)
unfolding verdict_of delete_checks
delete_leads dir token text s is =
    let act = delete_act dir token text s.tree in
    let name = passes _ _ act refl is in
    let seen = passes _ _ act refl name.rest in
    let below = passes _ _ act refl seen.rest in
    name.same ∙ seen.same ∙ below.same

item_before : (dir : Directory) (number flags : ℕ) (items : List Item) (item : Item) → AllByRecursion IsBefore
    (item_checks dir number flags items item)
item_before dir number flags items item = by (is_descriptor item.attr)
  where
    by : (b : Bool) → AllByRecursion IsBefore (if b then descriptor_checks flags items item
        else ordinary_checks dir number items item)
    by true = (refl, (refl, tt))
    by false = (refl, (refl, (refl, (refl, (refl, tt)))))

pub modify_leads : (dir : Directory) (token : Token) (m : Modify) (s : Settings)
    → reaches (verdict_of dir token (ModifyOf m) s) ≡ true
    → verdict_of dir token (ModifyOf m) s
    ≡ by_checks (first_failing (all_met dir token
    (modify_needs dir token (number_named dir token m.dn) s.sd_flags m.items)))
    (modify_act dir token m s.sd_flags)
unfolding verdict_of modify_checks
modify_leads dir token m s is =
    let act = modify_act dir token m s.sd_flags in
    let number = number_named dir token m.dn in
    let name = passes _ _ act refl is in
    let seen = passes _ _ act refl name.rest in
    let items = all_pass (flat_map (item_checks dir number s.sd_flags m.items) m.items) _ act
    (before_of (item_checks dir number s.sd_flags m.items) m.items (item_before dir number s.sd_flags m.items))
    seen.rest in
    name.same ∙ seen.same ∙ items.same

pub rename_leads : (dir : Directory) (token : Token) (r : Rename) (s : Settings)
    → reaches (verdict_of dir token (RenameOf r) s) ≡ true
    → verdict_of dir token (RenameOf r) s
    ≡ by_checks (first_failing (all_met dir token
    (rename_needs dir (number_named dir token r.dn) (new_parent dir token r)))) (rename_act dir token r)
unfolding verdict_of rename_checks
rename_leads dir token r s is =
    let act = rename_act dir token r in
    let name = passes _ _ act refl is in
    let part = passes _ _ act refl name.rest in
    let reads = passes _ _ act refl part.rest in
    let seen = passes _ _ act refl reads.rest in
    let above = superior_passes dir token r.superior _ act reads.holds seen.rest in
    let below = passes _ _ act refl above.rest in
    let typed = passes _ _ act refl below.rest in
    let outside = passes _ _ act refl typed.rest in
    name.same ∙ part.same ∙ reads.same ∙ seen.same ∙ above.same ∙ below.same ∙ typed.same ∙ outside.same

own_before : (schema : List SchemaRecord) (class : ℕ) (value : List ℕ) (attr : ℕ × List (List ℕ))
    → AllByRecursion IsBefore (own_checks schema class value attr)
own_before schema class value attr = (refl, (refl, tt))

pub add_leads : (dir : Directory) (token : Token) (a : Add) (s : Settings)
    → reaches (verdict_of dir token (AddOf a) s) ≡ true
    → verdict_of dir token (AddOf a) s ≡ by_checks
    (first_failing (all_met dir token
    (add_needs dir (parent_number dir token a) (class_number dir a) (new_sd a s.sd_flags))))
    (add_act dir token a s.sd_flags)
unfolding verdict_of add_checks
add_leads dir token a s is =
    let act = add_act dir token a s.sd_flags in
    let class = class_number dir a in
    let parts = passes _ _ act refl is in
    let other = passes _ _ act refl parts.rest in
    let parent = passes _ _ act refl other.rest in
    let named = all_pass (all_naming_checks dir.schema [] a.attrs) _ act (naming_before dir.schema [] a.attrs)
    parent.rest in
    let class_is = passes _ _ act refl named.rest in
    let kept = passes _ _ act refl class_is.rest in
    let typed = passes _ _ act refl kept.rest in
    let sd = passes _ _ act refl typed.rest in
    let own = all_pass (flat_map (own_checks dir.schema class (new_part a).value) (all_ordinary dir.schema a)) _ act
    (before_of (own_checks dir.schema class (new_part a).value) (all_ordinary dir.schema a)
    (own_before dir.schema class (new_part a).value)) sd.rest in
    parts.same ∙ other.same ∙ parent.same ∙ named.same ∙ class_is.same ∙ kept.same ∙ typed.same ∙ sd.same ∙ own.same
