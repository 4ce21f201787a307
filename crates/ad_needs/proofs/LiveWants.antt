-- A need that is missing is told of live objects.
use Rattle.std.proofs.Common.{◌≡◌, ◌∙◌, ℕ, zero, suc, Bool, true, false, List, [], ◌∷◌, ◌++◌, map, Option, Some, None}
use Rattle.std.proofs.Common.{inl, inr, refl, sym, ap, subst, arith}
use Rattle.std.specs.Prelude.{not, nat_eq, if◌then◌else◌, is_some, codes}
use Rattle.std.specs.List.{All, AllByRecursion, flat_map, list_any}
use Rattle.std.specs.Option.{option_map_or}
use Rattle.std.proofs.lemmas.Bool.{cases_Bool, eqb-false, not-true}
use Rattle.std.proofs.lemmas.Option.{none-some, same_Some}
use Rattle.ad_ids.specs.declared.guid.Guid.{Guid}
use Rattle.ad_ids.specs.declared.token.Token.{Token}
use Rattle.ad_acl.specs.Mask.{create_child, write_dac, write_owner, access_system_security}
use Rattle.ad_sd.specs.declared.parts.SdParts.{SdParts}
use Rattle.ad_schema.specs.declared.line.SchemaRecord.{SchemaRecord}
use Rattle.ad_schema.specs.Classes.{naming_of}
use Rattle.ad_ldap.specs.declared.items.Item.{Item}
use Rattle.ad_ldap.specs.declared.controls.Settings.{Settings}
use Rattle.ad_ldap.specs.declared.requests.Add.{Add}
use Rattle.ad_ldap.specs.declared.requests.Modify.{Modify}
use Rattle.ad_ldap.specs.declared.requests.Rename.{Rename}
use Rattle.ad_ldap.specs.MessageValue.{OpValue, Bind, Unbind, SearchOf, ModifyOf, AddOf, DeleteOf, RenameOf}
use Rattle.ad_ldap.specs.MessageValue.{CompareOf, Abandon, Extended}
use Rattle.ad_dir_objects.specs.declared.act.Act.{Act}
use Rattle.ad_dir.specs.Standing.{AreStanding}
use Rattle.ad_dir_model.specs.Objects.{Rise, is_live, object_at, parent_at}
use Rattle.ad_dir_model.specs.Tree.{root}
use Rattle.ad_dir_model.specs.Attributes.{attr_place}
use Rattle.ad_dir_model.specs.Directory.{Directory}
use Rattle.ad_dir_model.proofs.Finding.{of-live}
use Rattle.ad_needs_rules.specs.declared.need.Want.{Want}
use Rattle.ad_needs_rules.specs.declared.need.Need.{Need}
use Rattle.ad_needs_rules.specs.declared.outcome.Verdict.TheVariants.{Missing}
use Rattle.ad_needs_rules.specs.Needs.{Alternative, needs, want_of, need_of, is_met}
use Rattle.ad_needs_rules.specs.Checks.{Refusal, code, hidden, missing, Check, or_code, or_missing, all_met}
use Rattle.ad_needs_rules.specs.Checks.{first_failing, by_checks}
use Rattle.ad_needs_rules.specs.Requests.{number_named, object_named, or_hidden, is_descriptor, class_at}
use Rattle.ad_access_dir.specs.Passwords.{is_password}
use Rattle.ad_needs_rules.specs.Requests.{class_path}
use Rattle.ad_needs_rules.specs.Descriptors.{has_owner_or_group}
use Rattle.ad_needs_rules.specs.Adding.{all_naming_checks, own_checks, all_ordinary, parent_named, parent_number}
use Rattle.ad_needs_rules.specs.Adding.{class_number, new_part, new_sd, brings_sacl, sacl_needs, add_needs, add_checks}
use Rattle.ad_needs_rules.specs.Deleting.{to_leave, delete_needs, delete_checks}
use Rattle.ad_needs_rules.specs.Renaming.{new_parent, superior_seen, move_needs, to_write, name_needs, rename_needs}
use Rattle.ad_needs_rules.specs.Renaming.{rename_checks}
use Rattle.ad_needs_rules.specs.Modifying.{item_checks, ordinary_checks, descriptor_checks, written_sd, need_if}
use Rattle.ad_needs_rules.specs.Modifying.{descriptor_needs, items_of, is_item_of}
use Rattle.ad_needs_rules.specs.Modifying.{password_needs, or_validated, ordinary_needs, item_needs, needs_behind}
use Rattle.ad_needs_rules.specs.Modifying.{modify_needs, modify_checks}
use Rattle.ad_needs_rules.specs.Validated.{validated_write}
use Rattle.ad_needs_rules.specs.Verdicts.{verdict_of}
use Rattle.ad_needs_rules.proofs.FirstFailing.{head_passes, head_fails}
use Rattle.ad_needs_rules.proofs.Named.{named_live, live_or}

-- ---- checks

abbrev IsLive : Directory → Want → Type 0
IsLive dir want = is_live dir.objects want.object ≡ true

-- what is missing is told of live objects
abbrev Tells : Directory → List Check → Type 0
Tells dir checks = (need : Need) → first_failing checks ≡ Some (missing need) → AllByRecursion (IsLive dir)
    need.alternatives

-- the check tells of nothing that is missing
abbrev IsOther : Check → Type 0
IsOther c = (need : Need) → c.refusal ≡ missing need → ⊥

other_code : (holds : Bool) (n : ℕ) → IsOther (or_code holds n)
other_code holds n need is = absurd cc

other_hidden : (dir : Directory) (token : Token) (text : List ℕ) → IsOther (or_hidden dir token text)
other_hidden dir token text need is = absurd cc

-- one check, and the others where it holds
tells_behind : (dir : Directory) (c : Check) (cs : List Check) → IsOther c → (c.holds ≡ true → Tells dir cs)
    → Tells dir (c ∷ cs)
tells_behind dir c cs other rest need is =
    elim (cases_Bool c.holds) [
      | inl holds ↦ rest holds need (sym (head_passes c cs holds) ∙ is)
      | inr fails ↦ absurd (other need (same_Some c.refusal (missing need) (sym (head_fails c cs fails) ∙ is)))
    ]

tells_after : (dir : Directory) (xs ys : List Check) → AllByRecursion IsOther xs → Tells dir ys → Tells dir (xs ++ ys)
tells_after dir [] ys others tells = tells
tells_after dir (x ∷ xs) ys others tells = tells_behind dir x (xs ++ ys) others.0
    (λ _. tells_after dir xs ys others.1 tells)

others_append : (xs ys : List Check) → AllByRecursion IsOther xs → AllByRecursion IsOther ys
    → AllByRecursion IsOther (xs ++ ys)
others_append [] ys first second = second
others_append (x ∷ xs) ys first second = (first.0, others_append xs ys first.1 second)

others_of : {A : Type 0} (f : A → List Check) (xs : List A) → ((x : A) → AllByRecursion IsOther (f x))
    → AllByRecursion IsOther (flat_map f xs)
others_of f [] each = tt
others_of f (x ∷ xs) each = others_append (f x) (flat_map f xs) (each x) (others_of f xs each)

-- ---- requirements

abbrev IsLiveOne : Directory → Alternative → Type 0
IsLiveOne dir a = is_live dir.objects a.object ≡ true

abbrev AreLive : Directory → List (List Alternative) → Type 0
AreLive dir requirements = AllByRecursion (AllByRecursion (IsLiveOne dir)) requirements

wants_live : (dir : Directory) (as' : List Alternative) → AllByRecursion (IsLiveOne dir) as'
    → AllByRecursion (IsLive dir) (map want_of as')
wants_live dir [] live = tt
wants_live dir (a ∷ as') live = (live.0, wants_live dir as' live.1)

same_missing : (a b : Need) → missing a ≡ missing b → a ≡ b
same_missing a b e = cc

tells_met : (dir : Directory) (token : Token) (requirements : List (List Alternative)) → AreLive dir requirements
    → Tells dir (all_met dir token requirements)
unfolding first_failing
tells_met dir token [] live need is = absurd (none-some (missing need) is)
tells_met dir token (r ∷ rs) live need is =
    elim (cases_Bool (is_met dir token r)) [
      | inl holds ↦ tells_met dir token rs live.1 need
          (sym (head_passes (or_missing dir token r) (all_met dir token rs) holds) ∙ is)
      | inr fails ↦
          let same : need_of r ≡ need = same_missing (need_of r) need (same_Some (missing (need_of r)) (missing need)
          (sym (head_fails (or_missing dir token r) (all_met dir token rs) fails) ∙ is)) in
          subst (λ (n : Need). AllByRecursion (IsLive dir) n.alternatives) same (wants_live dir r live.0)
    ]

live_append : (dir : Directory) (xs ys : List (List Alternative)) → AreLive dir xs → AreLive dir ys
    → AreLive dir (xs ++ ys)
live_append dir [] ys first second = second
live_append dir (x ∷ xs) ys first second = (first.0, live_append dir xs ys first.1 second)

-- ---- Delete

parent_live : (dir : Directory) (number : ℕ) → AreStanding dir.schema dir.objects → is_live dir.objects number ≡ true
    → not (nat_eq number root) ≡ true
    → is_live dir.objects (parent_at dir.objects number) ≡ true
parent_live dir number stands live below =
    stands.parents number (object_at dir.objects number) (of-live dir.objects number live)
    (eqb-false number root (not-true (nat_eq number root) below))

leave_live : (dir : Directory) (number : ℕ) → is_live dir.objects number ≡ true
    → is_live dir.objects (parent_at dir.objects number) ≡ true
    → AllByRecursion (IsLiveOne dir) (to_leave dir number)
leave_live dir number live above = (live, (above, tt))

delete_live : (dir : Directory) (number : ℕ) (tree : Bool) → is_live dir.objects number ≡ true
    → is_live dir.objects (parent_at dir.objects number) ≡ true → AreLive dir (delete_needs dir number tree)
delete_live dir number true live above = ((live, tt), tt)
delete_live dir number false live above = (leave_live dir number live above, tt)

delete_tells : (dir : Directory) (token : Token) (dn : List ℕ) (tree : Bool) → AreStanding dir.schema dir.objects
    → Tells dir (delete_checks dir token dn tree)
unfolding delete_checks
delete_tells dir token dn tree stands =
    let number : ℕ = number_named dir token dn in
    tells_behind dir _ _ (other_code true _) (λ _.
    tells_behind dir _ _ (other_hidden dir token dn) (λ seen.
    let live : is_live dir.objects (number_named dir token dn) ≡ true = named_live dir token dn stands.rise seen in
    tells_behind dir _ _ (other_code true _) (λ below.
    tells_met dir token (delete_needs dir (number_named dir token dn) tree)
    (delete_live dir (number_named dir token dn) tree live
    (parent_live dir (number_named dir token dn) stands live below)))))

-- ---- Rename

move_live : (dir : Directory) (number parent : ℕ) → is_live dir.objects number ≡ true
    → is_live dir.objects (parent_at dir.objects number) ≡ true → is_live dir.objects parent ≡ true
    → AreLive dir (move_needs dir number parent)
move_live dir number parent live above new = by_test (nat_eq (parent_at dir.objects number) parent)
  where
    by_test : (b : Bool) → AreLive dir (if b then [] else to_leave dir number
        ∷ (needs parent create_child (class_path dir.schema (class_at dir number)) ∷ []) ∷ [])
    by_test true = tt
    by_test false = (leave_live dir number live above, ((new, tt), tt))

name_live : (dir : Directory) (number : ℕ) (attr : Option ℕ) → is_live dir.objects number ≡ true
    → AreLive dir (name_needs dir number attr)
name_live dir number None live = tt
name_live dir number (Some attr) live = ((live, tt), tt)

rename_live : (dir : Directory) (number parent : ℕ) → is_live dir.objects number ≡ true
    → is_live dir.objects (parent_at dir.objects number) ≡ true → is_live dir.objects parent ≡ true
    → AreLive dir (rename_needs dir number parent)
rename_live dir number parent live above new =
    live_append dir (move_needs dir number parent)
    (to_write dir number (naming_of dir.schema (class_at dir number))
    ∷ name_needs dir number (attr_place dir.schema (codes "name")))
    (move_live dir number parent live above new)
    ((live, tt), name_live dir number (attr_place dir.schema (codes "name")) live)

new_parent_live : (dir : Directory) (token : Token) (superior : Option (List ℕ)) (present : ℕ) → Rise dir.objects
    → is_live dir.objects present ≡ true
    → (first_failing (superior_seen dir token superior) ≡ None
    → is_live dir.objects (option_map_or (number_named dir token) superior present) ≡ true)
unfolding first_failing
new_parent_live dir token None present rise live none = live
new_parent_live dir token (Some text) present rise live none = by_test (is_some (object_named dir token text)) refl
  where
    by_test : (b : Bool) → is_some (object_named dir token text) ≡ b
        → is_live dir.objects (number_named dir token text) ≡ true
    by_test true seen = named_live dir token text rise seen
    by_test false fails = absurd (none-some (or_hidden dir token text).refusal
        (sym none ∙ head_fails (or_hidden dir token text) [] fails))

-- the checks of the superior, and the others where none of them fails
tells_superior : (dir : Directory) (token : Token) (superior : Option (List ℕ)) (ys : List Check)
    → (first_failing (superior_seen dir token superior) ≡ None → Tells dir ys)
    → Tells dir (superior_seen dir token superior ++ ys)
unfolding first_failing
tells_superior dir token None ys rest = rest refl
tells_superior dir token (Some text) ys rest =
    tells_behind dir (or_hidden dir token text) ys (other_hidden dir token text)
    (λ holds. rest (head_passes (or_hidden dir token text) [] holds))

rename_tells : (dir : Directory) (token : Token) (r : Rename) → AreStanding dir.schema dir.objects
    → Tells dir (rename_checks dir token r)
unfolding rename_checks new_parent
rename_tells dir token r stands =
    tells_behind dir _ _ (other_code true _) (λ _.
    tells_behind dir _ _ (other_code true _) (λ _.
    tells_behind dir _ _ (other_code true _) (λ _.
    tells_behind dir _ _ (other_hidden dir token r.dn) (λ seen.
    let live : is_live dir.objects (number_named dir token r.dn) ≡ true = named_live dir token r.dn stands.rise seen in
    tells_superior dir token r.superior _ (λ superior.
    tells_behind dir _ _ (other_code true _) (λ below.
    let above = parent_live dir (number_named dir token r.dn) stands live below in
    tells_behind dir _ _ (other_code true _) (λ _.
    tells_behind dir _ _ (other_code true _) (λ _.
    tells_met dir token _ (rename_live dir (number_named dir token r.dn) _ live above
    (new_parent_live dir token r.superior (parent_at dir.objects (number_named dir token r.dn)) stands.rise above
    superior))))))))))

-- ---- Add

others_named : (schema : List SchemaRecord) (earlier attrs : List (List ℕ × List (List ℕ)))
    → AllByRecursion IsOther (all_naming_checks schema earlier attrs)
unfolding all_naming_checks
others_named schema earlier [] = tt
others_named schema earlier (attr ∷ attrs) =
    (other_code true _, (other_code true _, others_named schema (earlier ++ attr ∷ []) attrs))

others_own : (schema : List SchemaRecord) (class : ℕ) (value : List ℕ) (attrs : List (ℕ × List (List ℕ)))
    → AllByRecursion IsOther (flat_map (own_checks schema class value) attrs)
others_own schema class value attrs = others_of (own_checks schema class value) attrs
    (λ attr. (other_code true _, (other_code true _, tt)))

sacl_live : (dir : Directory) (parent : ℕ) (brings : Bool) → is_live dir.objects parent ≡ true
    → AreLive dir (sacl_needs parent brings)
sacl_live dir parent true live = ((live, tt), tt)
sacl_live dir parent false live = tt

add_tells : (dir : Directory) (token : Token) (a : Add) (flags : ℕ) → AreStanding dir.schema dir.objects
    → Tells dir (add_checks dir token a flags)
unfolding add_checks parent_named
add_tells dir token a flags stands =
    tells_behind dir _ _ (other_code true _) (λ _.
    tells_behind dir _ _ (other_code true _) (λ _.
    tells_behind dir _ _ (λ need is. absurd cc) (λ seen.
    let live : is_live dir.objects (parent_number dir token a) ≡ true = live_or dir token _ (parent_named dir token a)
    stands.rise refl seen in
    tells_after dir (all_naming_checks dir.schema [] a.attrs) _ (others_named dir.schema [] a.attrs)
    (tells_behind dir _ _ (other_code true _) (λ _.
    tells_behind dir _ _ (other_code true _) (λ _.
    tells_behind dir _ _ (other_code true _) (λ _.
    tells_behind dir _ _ (other_code true _) (λ _.
    tells_after dir (flat_map (own_checks dir.schema (class_number dir a) (new_part a).value)
    (all_ordinary dir.schema a)) _
    (others_own dir.schema (class_number dir a) (new_part a).value (all_ordinary dir.schema a))
    (tells_met dir token (add_needs dir (parent_number dir token a) (class_number dir a) (new_sd a flags))
    ((live, tt), sacl_live dir (parent_number dir token a) (brings_sacl (new_sd a flags)) live))))))))))

-- ---- Modify

others_item : (dir : Directory) (number flags : ℕ) (items : List Item) (item : Item)
    → AllByRecursion IsOther (item_checks dir number flags items item)
others_item dir number flags items item = by_test (is_descriptor item.attr)
  where
    by_test : (b : Bool) → AllByRecursion IsOther (if b then descriptor_checks flags items item
        else ordinary_checks dir number items item)
    by_test true = (other_code true _, (other_code true _, tt))
    by_test false = (
      other_code true _,
      (
        other_code true _,
        (other_code true _, (other_code true _, (other_code true _, tt))),
      ),
    )

need_if_live : (dir : Directory) (wanted : Bool) (number bit : ℕ) → is_live dir.objects number ≡ true
    → AreLive dir (need_if wanted number bit)
need_if_live dir true number bit live = ((live, tt), tt)
need_if_live dir false number bit live = tt

descriptor_live : (dir : Directory) (number : ℕ) (sd : Option SdParts) → is_live dir.objects number ≡ true
    → AreLive dir (descriptor_needs number sd)
descriptor_live dir number None live = tt
descriptor_live dir number (Some parts) live =
    live_append dir (need_if (has_owner_or_group parts) number write_owner)
    (need_if (is_some parts.dacl) number write_dac ++ need_if (is_some parts.sacl) number access_system_security)
    (need_if_live dir (has_owner_or_group parts) number write_owner live)
    (live_append dir (need_if (is_some parts.dacl) number write_dac)
    (need_if (is_some parts.sacl) number access_system_security)
    (need_if_live dir (is_some parts.dacl) number write_dac live)
    (need_if_live dir (is_some parts.sacl) number access_system_security live))

validated_live : (dir : Directory) (number : ℕ) (guid : Option Guid) → is_live dir.objects number ≡ true
    → AllByRecursion (IsLiveOne dir) (or_validated number guid)
validated_live dir number None live = tt
validated_live dir number (Some guid) live = (live, tt)

ordinary_live : (dir : Directory) (token : Token) (number : ℕ) (items : List Item) (attr : Option ℕ)
    → is_live dir.objects number ≡ true
    → AreLive dir (ordinary_needs dir token number items attr)
ordinary_live dir token number items None live = tt
ordinary_live dir token number items (Some attr) live =
    ((live, validated_live dir number (validated_write dir token number attr items) live), tt)

item_live : (dir : Directory) (token : Token) (number flags : ℕ) (items : List Item) (item : Item)
    → is_live dir.objects number ≡ true
    → AreLive dir (item_needs dir token number flags items item)
item_live dir token number flags items item live = by_test (is_descriptor item.attr) (is_password item.attr)
  where
    by_test : (b p : Bool) → AreLive dir (if b then descriptor_needs number (written_sd items flags)
        else (if p then password_needs number (items_of items item.attr)
        else ordinary_needs dir token number (items_of items item.attr) (attr_place dir.schema item.attr)))
    by_test true p = descriptor_live dir number (written_sd items flags) live
    by_test false true = ((live, tt), tt)
    by_test false false = ordinary_live dir token number (items_of items item.attr) (attr_place dir.schema item.attr)
        live

behind_live : (dir : Directory) (token : Token) (number flags : ℕ) (items earlier others : List Item)
    → is_live dir.objects number ≡ true
    → AreLive dir (needs_behind dir token number flags items earlier others)
unfolding needs_behind
behind_live dir token number flags items earlier [] live = tt
behind_live dir token number flags items earlier (item ∷ others) live =
    live_append dir (if list_any (is_item_of item.attr) earlier then [] else item_needs dir token number flags items
    item) _
    (by_test (list_any (is_item_of item.attr) earlier))
    (behind_live dir token number flags items (earlier ++ item ∷ []) others live)
  where
    by_test : (b : Bool) → AreLive dir (if b then [] else item_needs dir token number flags items item)
    by_test true = tt
    by_test false = item_live dir token number flags items item live

modify_tells : (dir : Directory) (token : Token) (m : Modify) (flags : ℕ) → AreStanding dir.schema dir.objects
    → Tells dir (modify_checks dir token m flags)
unfolding modify_checks
modify_tells dir token m flags stands =
    tells_behind dir _ _ (other_code true _) (λ _.
    tells_behind dir _ _ (other_hidden dir token m.dn) (λ seen.
    let live : is_live dir.objects (number_named dir token m.dn) ≡ true = named_live dir token m.dn stands.rise seen in
    tells_after dir (flat_map (item_checks dir (number_named dir token m.dn) flags m.items) m.items) _
    (others_of (item_checks dir (number_named dir token m.dn) flags m.items) m.items
    (others_item dir (number_named dir token m.dn) flags m.items))
    (tells_met dir token (modify_needs dir token (number_named dir token m.dn) flags m.items)
    (behind_live dir token (number_named dir token m.dn) flags m.items [] m.items live))))

-- ---- any operation

by_checks_missing : (r : Option Refusal) (act : Act) (need : Need) → by_checks r act ≡ Missing need → r
    ≡ Some (missing need)
by_checks_missing None act need is = absurd cc
by_checks_missing (Some (code n)) act need is = absurd cc
by_checks_missing (Some (hidden rdns)) act need is = absurd cc
by_checks_missing (Some (missing other)) act need is = let same : other ≡ need = cc
    in ap (λ (n : Need). Some (missing n)) same

each_at : {A : Type 0} (P : A → Type 0) (xs : List A) → AllByRecursion P xs → All P xs
each_at P [] all k d less = absurd (omega (arith, less))
each_at P (x ∷ xs) all zero d less = all.0
each_at P (x ∷ xs) all (suc k) d less = each_at P xs all.1 k d (omega (arith, less))

pub missing_live : (dir : Directory) (token : Token) (op : OpValue) (s : Settings) (need : Need)
    → AreStanding dir.schema dir.objects
    → verdict_of dir token op s ≡ Missing need → All (λ (want : Want). is_live dir.objects want.object ≡ true)
    need.alternatives
unfolding verdict_of
missing_live dir token (AddOf a) s need stands is =
    each_at (IsLive dir) need.alternatives
    (add_tells dir token a s.sd_flags stands need (by_checks_missing _ _ need is))
missing_live dir token (DeleteOf dn) s need stands is =
    each_at (IsLive dir) need.alternatives
    (delete_tells dir token dn s.tree stands need (by_checks_missing _ _ need is))
missing_live dir token (RenameOf r) s need stands is =
    each_at (IsLive dir) need.alternatives (rename_tells dir token r stands need (by_checks_missing _ _ need is))
missing_live dir token (ModifyOf m) s need stands is =
    each_at (IsLive dir) need.alternatives
    (modify_tells dir token m s.sd_flags stands need (by_checks_missing _ _ need is))
missing_live dir token Bind s need stands is = absurd cc
missing_live dir token Unbind s need stands is = absurd cc
missing_live dir token (SearchOf q) s need stands is = absurd cc
missing_live dir token (CompareOf q) s need stands is = absurd cc
missing_live dir token Abandon s need stands is = absurd cc
missing_live dir token Extended s need stands is = absurd cc
