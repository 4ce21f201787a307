-- What a change of an object that isn't seen is answered, from what is seen alone.
use Rattle.std.proofs.Common.{◌≡◌, ℕ, ◌<◌, Bool, true, false, not, cond, ◌&&◌, List, [], ◌∷◌, ◌++◌, map, drop, Option}
use Rattle.std.proofs.Common.{Some, None, inl, inr, refl, sym, ap, arith, ◌∙◌}
use Rattle.std.specs.Prelude.{nat_eq, is_some, unwrap_or, find, if◌then◌else◌}
use Rattle.std.specs.List.{flat_map}
use Rattle.std.specs.Option.{option_map_or, option_and_then}
use Rattle.std.proofs.lemmas.Bool.{cases_Bool, eqb-true, and_from, both_ways, false≢true}
use Rattle.ad_ids.specs.declared.token.Token.{Token}
use Rattle.ad_dn.specs.declared.rdn.Rdn.{Rdn}
use Rattle.ad_dn.specs.Text.{rdns_text}
use Rattle.ad_ldap.specs.declared.controls.Settings.{Settings}
use Rattle.ad_ldap.specs.declared.requests.Modify.{Modify}
use Rattle.ad_ldap.specs.declared.requests.Add.{Add}
use Rattle.ad_ldap.specs.declared.requests.Rename.{Rename}
use Rattle.ad_ldap.specs.MessageValue.{OpValue, ModifyOf, AddOf, DeleteOf, RenameOf, SearchOf, CompareOf, Bind}
use Rattle.ad_ldap.specs.MessageValue.{Unbind, Abandon, Extended}
use Rattle.ad_dir_objects.specs.declared.act.Act.{Act}
use Rattle.ad_dir_model.specs.Object.{Object}
use Rattle.ad_dir_model.specs.Objects.{RiseAbove, is_live, object_of, numbers}
use Rattle.ad_dir_model.specs.Tree.{root}
use Rattle.ad_dir_model.specs.Names.{rdns_of, found}
use Rattle.ad_dir_model.specs.Soundness.{IsSound}
use Rattle.ad_dir_model.specs.Directory.{Directory}
use Rattle.ad_dir_model.proofs.Finding.{live_above}
use Rattle.ad_dir.proofs.StandingLaws.{sound_stand}
use Rattle.ad_access_dir.specs.Sight.{is_visible, if_visible, visible_of, matched}
use Rattle.ad_needs_rules.specs.Checks.{Check, Refusal, code, hidden, first_failing, by_checks, or_code, all_met}
use Rattle.ad_needs_rules.specs.Requests.{is_name, parts_in, object_named, number_named, or_hidden, class_at, no_rdn}
use Rattle.ad_needs_rules.specs.Adding.{has_parts, new_part, is_root_named, parent_named, parent_number, parent_seen}
use Rattle.ad_needs_rules.specs.Adding.{all_naming_checks, new_class, class_number, descriptor_reads, new_sd}
use Rattle.ad_needs_rules.specs.Adding.{all_ordinary}
use Rattle.ad_needs_rules.specs.Adding.{own_checks, add_needs, add_checks, add_act}
use Rattle.ad_schema_defaults.specs.NewClass.{is_schema_class}
use Rattle.ad_needs_rules.specs.Deleting.{delete_checks, delete_act}
use Rattle.ad_needs_rules.specs.Modifying.{modify_checks, modify_act}
use Rattle.ad_needs_rules.specs.Renaming.{new_rdn, new_parent, superior_reads, superior_seen, superior_outside}
use Rattle.ad_needs_rules.specs.Renaming.{is_typed}
use Rattle.ad_needs_rules.specs.Renaming.{rename_needs, rename_checks, rename_act}
use Rattle.ad_needs_rules.specs.Verdicts.{verdict_of}
use Rattle.ad_change.specs.Effects.{Effect, answered, by_verdict, effect}
use Rattle.ad_entries.specs.Seen.{Seen, seen_of, seen_among, view}
use Rattle.ad_search.specs.Scope.{same_rdns, is_named, is_there, nearest}
use Rattle.ad_search.proofs.SeenLaws.{any_found, seen_more}
use Rattle.ad_search.proofs.SightLaws.{none_seen, other_seen, it_is_seen}
use Rattle.ad_search.proofs.FoundLaws.{named_found}
use Rattle.ad_search_laws.specs.Refusals.{IsUnseen, IsAboutUnseen}
use Rattle.ad_search_laws.proofs.Found.{found_named}

-- ---- a name leads to what is seen exactly where it is one of what is seen

there_is : (dir : Directory) (token : Token) (rdns : List Rdn) → IsSound dir → is_there (view dir token) rdns
    ≡ is_some (visible_of dir token rdns)
unfolding is_there visible_of seen_of
there_is dir token rdns sound = any_found (is_named rdns) (view dir token) ∙ by_found (found dir rdns) refl
  where
    by_found : (result : Option ℕ) → found dir rdns ≡ result → is_some (find (is_named rdns) (view dir token))
        ≡ is_some (option_and_then (if_visible dir token) result)
    by_found None none = ap (λ (s : Option Seen). is_some s) (none_seen dir token rdns (sound_stand dir sound) none)
    by_found (Some n) is = by_sight (is_visible dir token n) refl
      where
        by_sight : (b : Bool) → is_visible dir token n ≡ b → is_some (find (is_named rdns) (view dir token))
            ≡ is_some (if b then Some n else None)
        by_sight true visible =
            let it = found_named dir n rdns sound is in
            ap (λ (s : Option Seen). is_some s) (it_is_seen dir token rdns n (sound_stand dir sound) it.live
            (and_from (is_visible dir token n) (is_named rdns (seen_of dir token n)) visible it.named))
        by_sight false unseen =
            ap (λ (s : Option Seen). is_some s) (other_seen dir token rdns n (sound_stand dir sound) is
            (λ live. ap (λ (b : Bool). b && is_named rdns (seen_of dir token n)) unseen))

-- ---- one reading of the name that is told

pub matched_is : (dir : Directory) (token : Token) → IsSound dir → (rdns : List Rdn)
    → rdns_text (matched dir token rdns) ≡ nearest (view dir token) (drop 1 rdns)
unfolding matched nearest rdns_text
matched_is dir token sound [] = refl
matched_is dir token sound (rdn ∷ []) = by_bool (is_some (visible_of dir token []))
  where
    by_bool : (b : Bool) → rdns_text (if b then [] else []) ≡ []
    by_bool true = refl
    by_bool false = refl
matched_is dir token sound (rdn ∷ r ∷ rs) =
    by_bool (matched_is dir token sound (r ∷ rs)) (is_some (visible_of dir token (r ∷ rs)))
    ∙ ap (λ (b : Bool). if b then rdns_text (r ∷ rs) else nearest (view dir token) rs)
    (sym (there_is dir token (r ∷ rs) sound))
  where
    by_bool : rdns_text (matched dir token (r ∷ rs)) ≡ nearest (view dir token) rs → (b : Bool)
        → rdns_text (if b then r ∷ rs else matched dir token (r ∷ rs))
        ≡ (if b then rdns_text (r ∷ rs) else nearest (view dir token) rs)
    by_bool above true = refl
    by_bool above false = above

-- ---- the name of the root is seen

first_name : List Seen → List Rdn
first_name [] = []
first_name (s ∷ ss) = s.name

root_first : (dir : Directory) (token : Token) → IsSound dir → first_name (view dir token) ≡ rdns_of dir root
unfolding view numbers first_name object_of seen_of is_visible
root_first dir token sound = by_objects dir.objects sound.rise sound.frame.root_live
  where
    by_objects : (os : List Object) → RiseAbove 0 os → is_live os root ≡ true
        → first_name (seen_among dir token (map (λ o. o.number) os)) ≡ rdns_of dir root
    by_objects [] rise live = absurd (false≢true live)
    by_objects (o ∷ os) rise live = elim (cases_Bool (nat_eq o.number root)) [
      | inl here ↦
          let number : o.number ≡ root = eqb-true o.number root here in
          ap (λ (n : ℕ). first_name (seen_among dir token (n ∷ map (λ o. o.number) os))) number
          ∙ ap first_name (seen_more dir token root (map (λ o. o.number) os) refl)
      | inr apart ↦
          let lower : 0 < o.number = rise.0 in
          let above : o.number < root = live_above o.number os root rise.1
          (sym (ap (λ (b : Bool). is_some (cond b (Some o) (object_of os root))) apart) ∙ live) in
          absurd (omega (arith, lower, above))
    ]

root_named : (dir : Directory) (token : Token) (a : Add) → IsSound dir → is_root_named dir a
    ≡ same_rdns (first_name (view dir token)) (parts_in a.dn)
root_named dir token a sound =
    by_same (same_rdns (rdns_of dir root) (parts_in a.dn)) refl
    ∙ ap (λ (rs : List Rdn). same_rdns rs (parts_in a.dn)) (sym (root_first dir token sound))
  where
    by_same : (b : Bool) → same_rdns (rdns_of dir root) (parts_in a.dn) ≡ b → is_root_named dir a
        ≡ same_rdns (rdns_of dir root) (parts_in a.dn)
    by_same true same =
        ap (λ (f : Option ℕ). option_map_or (λ (n : ℕ). nat_eq n root) f false)
        (named_found dir root (parts_in a.dn) (sound_stand dir sound) sound.frame.root_live same)
        ∙ sym same
    by_same false differ = by_found (found dir (parts_in a.dn)) refl ∙ sym differ
      where
        by_found : (result : Option ℕ) → found dir (parts_in a.dn) ≡ result → option_map_or (λ (n : ℕ). nat_eq n root)
            result false ≡ false
        by_found None none = refl
        by_found (Some n) is = elim (cases_Bool (nat_eq n root)) [
          | inl itself ↦
              let it = found_named dir n (parts_in a.dn) sound is in
              absurd (both_ways (same_rdns (rdns_of dir root) (parts_in a.dn)) differ
              (ap (λ (k : ℕ). same_rdns (rdns_of dir k) (parts_in a.dn)) (sym (eqb-true n root itself)) ∙ it.named))
          | inr other ↦ other
        ]

-- ---- what is answered

-- 34 where a name can't be read, and else 32 with the name that is told
told_by : Bool → List ℕ → Effect
told_by reads name = if reads then answered 32 name [] else answered 34 [] []

unseen : Directory → Token → List ℕ → Check
unseen dir token dn = record { holds = false; refusal = hidden (matched dir token (parts_in dn)) }

hidden_is : (dir : Directory) (token : Token) (dn : List ℕ) → IsUnseen dir token dn → or_hidden dir token dn
    ≡ unseen dir token dn
unfolding unseen
hidden_is dir token dn none = ap (λ (o : Option ℕ). record
    { holds = is_some o; refusal = hidden (matched dir token (parts_in dn)) }) none

name_told : Directory → Token → List ℕ → List ℕ
name_told dir token dn = nearest (view dir token) (drop 1 (parts_in dn))

first_unseen : (dir : Directory) (token : Token) (reads : Bool) (dn : List ℕ) (rest : List Check) (act : Act)
    → IsSound dir → IsUnseen dir token dn
    → by_verdict dir token (by_checks (first_failing (or_code reads 34 ∷ or_hidden dir token dn ∷ rest)) act)
    ≡ told_by reads (name_told dir token dn)
unfolding first_failing told_by name_told unseen
first_unseen dir token reads dn rest act sound none =
    ap (λ (h : Check). by_verdict dir token (by_checks (first_failing (or_code reads 34 ∷ h ∷ rest)) act))
    (hidden_is dir token dn none)
    ∙ by_bool reads
    ∙ ap (λ (name : List ℕ). if reads then answered 32 name [] else answered 34 [] [])
    (matched_is dir token sound (parts_in dn))
  where
    by_bool : (b : Bool) → by_verdict dir token
        (by_checks (first_failing (or_code b 34 ∷ unseen dir token dn ∷ rest)) act)
        ≡ (if b then answered 32 (rdns_text (matched dir token (parts_in dn))) [] else answered 34 [] [])
    by_bool true = refl
    by_bool false = refl

delete_told : (dir : Directory) (token : Token) (dn : List ℕ) (s : Settings) → IsSound dir → IsUnseen dir token dn
    → effect dir token (DeleteOf dn) s ≡ told_by (is_name dn) (name_told dir token dn)
unfolding effect verdict_of delete_checks
delete_told dir token dn s sound none = first_unseen dir token (is_name dn) dn _ (delete_act dir token dn s.tree)
    sound none

modify_told : (dir : Directory) (token : Token) (m : Modify) (s : Settings) → IsSound dir → IsUnseen dir token m.dn
    → effect dir token (ModifyOf m) s ≡ told_by (is_name m.dn) (name_told dir token m.dn)
unfolding effect verdict_of modify_checks
modify_told dir token m s sound none = first_unseen dir token (is_name m.dn) m.dn _
    (modify_act dir token m s.sd_flags) sound none

-- ---- Rename

-- the first of these that fails
three_fail : (a b c : Bool) (name : List Rdn) (rest : List Check)
    → first_failing (or_code a 34 ∷ or_code b 34 ∷ or_code c 34 ∷ record { holds = false; refusal = hidden name }
    ∷ rest) ≡ Some (if a && (b && c) then hidden name else code 34)
unfolding first_failing
three_fail true true true name rest = refl
three_fail true true false name rest = refl
three_fail true false c name rest = refl
three_fail false b c name rest = refl

four_fail : (a b c : Bool) (h : Check) (name : List Rdn) (rest : List Check) → h.holds ≡ true
    → first_failing (or_code a 34 ∷ or_code b 34 ∷ or_code c 34 ∷ h ∷ record { holds = false; refusal = hidden name }
    ∷ rest) ≡ Some (if a && (b && c) then hidden name else code 34)
unfolding first_failing
four_fail true true true h name rest holds = rw holds refl
four_fail true true false h name rest holds = refl
four_fail true false c h name rest holds = refl
four_fail false b c h name rest holds = refl

refusal_told : (dir : Directory) (token : Token) (act : Act) (b : Bool) (name : List Rdn)
    → by_verdict dir token (by_checks (Some (if b then hidden name else code 34)) act) ≡ told_by b (rdns_text name)
unfolding told_by
refusal_told dir token act true name = refl
refusal_told dir token act false name = refl

none_there : (found : Option ℕ) → is_some found ≡ false → found ≡ None
none_there None lacking = refl
none_there (Some n) there = absurd (false≢true (sym there))

readable : Rename → Bool
readable r = is_name r.dn && (is_some (new_rdn r) && superior_reads r.superior)

rename_rest : Directory → Token → Rename → List Check
rename_rest dir token r =
    let number = number_named dir token r.dn in
    or_code (not (nat_eq number root)) 53
    ∷ or_code (is_typed dir.schema (class_at dir number) (unwrap_or (new_rdn r) no_rdn)) 64
    ∷ or_code (superior_outside dir token number r.superior) 53
    ∷ all_met dir token (rename_needs dir number (new_parent dir token r))

rename_begins : (dir : Directory) (token : Token) (r : Rename) → rename_checks dir token r
    ≡ or_code (is_name r.dn) 34 ∷ or_code (is_some (new_rdn r)) 34 ∷ or_code (superior_reads r.superior) 34
    ∷ or_hidden dir token r.dn ∷ (superior_seen dir token r.superior ++ rename_rest dir token r)
unfolding rename_checks rename_rest
rename_begins dir token r = refl

module _ (dir : Directory) (token : Token) (r : Rename) (s : Settings) (sound : IsSound dir) where
  effect_is : effect dir token (RenameOf r) s
      ≡ by_verdict dir token (by_checks (first_failing (rename_checks dir token r)) (rename_act dir token r))
  unfolding effect verdict_of
  effect_is = refl

  by_first : List Check → Effect
  by_first checks = by_verdict dir token (by_checks (first_failing checks) (rename_act dir token r))

  as_told : (dn : List ℕ) → told_by (readable r) (rdns_text (matched dir token (parts_in dn)))
      ≡ told_by (readable r) (name_told dir token dn)
  unfolding name_told
  as_told dn = ap (told_by (readable r)) (matched_is dir token sound (parts_in dn))

  target_told : IsUnseen dir token r.dn → effect dir token (RenameOf r) s
      ≡ told_by (readable r) (name_told dir token r.dn)
  unfolding by_first unseen readable
  target_told none =
      effect_is
      ∙ ap by_first (rename_begins dir token r)
      ∙ ap (λ (h : Check). by_first (or_code (is_name r.dn) 34 ∷ or_code (is_some (new_rdn r)) 34
      ∷ or_code (superior_reads r.superior) 34 ∷ h
      ∷ (superior_seen dir token r.superior ++ rename_rest dir token r))) (hidden_is dir token r.dn none)
      ∙ ap (λ (f : Option Refusal). by_verdict dir token (by_checks f (rename_act dir token r)))
      (three_fail (is_name r.dn) (is_some (new_rdn r)) (superior_reads r.superior) (matched dir token (parts_in r.dn))
      (superior_seen dir token r.superior ++ rename_rest dir token r))
      ∙ refusal_told dir token (rename_act dir token r) (readable r) (matched dir token (parts_in r.dn))
      ∙ as_told r.dn

  superior_told : (superior : List ℕ) → r.superior ≡ Some superior → IsUnseen dir token superior
      → is_some (object_named dir token r.dn) ≡ true
      → effect dir token (RenameOf r) s ≡ told_by (readable r) (name_told dir token superior)
  unfolding by_first unseen readable
  superior_told superior named none there =
      effect_is
      ∙ ap by_first (rename_begins dir token r)
      ∙ ap (λ (hs : List Check). by_first (or_code (is_name r.dn) 34 ∷ or_code (is_some (new_rdn r)) 34
      ∷ or_code (superior_reads r.superior) 34 ∷ or_hidden dir token r.dn
      ∷ (hs ++ rename_rest dir token r)))
      (ap (superior_seen dir token) named ∙ ap (λ (h : Check). h ∷ []) (hidden_is dir token superior none))
      ∙ ap (λ (f : Option Refusal). by_verdict dir token (by_checks f (rename_act dir token r)))
      (four_fail (is_name r.dn) (is_some (new_rdn r)) (superior_reads r.superior) (or_hidden dir token r.dn)
      (matched dir token (parts_in superior)) (rename_rest dir token r) there)
      ∙ refusal_told dir token (rename_act dir token r) (readable r) (matched dir token (parts_in superior))
      ∙ as_told superior

  rename_told : (superior : List ℕ) → r.superior ≡ Some superior → IsUnseen dir token superior → (b : Bool)
      → is_some (object_named dir token r.dn) ≡ b
      → effect dir token (RenameOf r) s ≡ told_by (readable r)
      (if b then name_told dir token superior else name_told dir token r.dn)
  rename_told superior named none true there = superior_told superior named none there
  rename_told superior named none false lacking = target_told (none_there (object_named dir token r.dn) lacking)

-- ---- Add

added_told : Bool → Bool → List ℕ → Effect
added_told named is_root name = if named then (if is_root then answered 68 [] [] else answered 32 name [])
    else answered 34 [] []

add_rest : Directory → Token → Add → ℕ → List Check
add_rest dir token a flags =
    all_naming_checks dir.schema [] a.attrs
    ++ (or_code (is_some (new_class dir a)) 65
    ∷ or_code (not (is_schema_class dir.schema (class_number dir a))) 53
    ∷ or_code (is_typed dir.schema (class_number dir a) (new_part a)) 64
    ∷ or_code (descriptor_reads a) 19
    ∷ (flat_map (own_checks dir.schema (class_number dir a) (new_part a).value) (all_ordinary dir.schema a)
    ++ all_met dir token (add_needs dir (parent_number dir token a) (class_number dir a) (new_sd a flags))))

add_begins : (dir : Directory) (token : Token) (a : Add) (s : Settings) → effect dir token (AddOf a) s
    ≡ by_verdict dir token (by_checks (first_failing
    (or_code (has_parts a) 34 ∷ or_code (not (is_root_named dir a)) 68 ∷ parent_seen dir token a
    ∷ add_rest dir token a s.sd_flags)) (add_act dir token a s.sd_flags))
unfolding effect verdict_of add_checks add_rest
add_begins dir token a s = refl

add_fails : (dir : Directory) (token : Token) (act : Act) (h : Check) (name : List Rdn) (rest : List Check) → h.holds
    ≡ false → h.refusal ≡ hidden name → (named is_root : Bool)
    → by_verdict dir token (by_checks (first_failing (or_code named 34 ∷ or_code (not is_root) 68 ∷ h ∷ rest)) act)
    ≡ added_told named is_root (rdns_text name)
unfolding added_told first_failing
add_fails dir token act h name rest holds refusal true true = refl
add_fails dir token act h name rest holds refusal true false = rw (holds, refusal) refl
add_fails dir token act h name rest holds refusal false is_root = refl

add_told : (dir : Directory) (token : Token) (a : Add) (s : Settings) → IsSound dir → parent_named dir token a ≡ None
    → effect dir token (AddOf a) s ≡ added_told (has_parts a)
    (same_rdns (first_name (view dir token)) (parts_in a.dn)) (name_told dir token a.dn)
unfolding name_told
add_told dir token a s sound none =
    add_begins dir token a s
    ∙ add_fails dir token (add_act dir token a s.sd_flags) (parent_seen dir token a)
    (matched dir token (parts_in a.dn)) (add_rest dir token a s.sd_flags)
    (ap (λ (o : Option ℕ). is_some o) none) refl (has_parts a) (is_root_named dir a)
    ∙ ap (λ (b : Bool). added_told (has_parts a) b (rdns_text (matched dir token (parts_in a.dn))))
    (root_named dir token a sound)
    ∙ ap (added_told (has_parts a) (same_rdns (first_name (view dir token)) (parts_in a.dn)))
    (matched_is dir token sound (parts_in a.dn))

-- ---- the same in both

module _ (dir other : Directory) (token : Token) (sound : IsSound dir) (sound_there : IsSound other)
    (same : view other token ≡ view dir token) where
  same_named : (rdns : List Rdn) → is_some (visible_of other token rdns) ≡ is_some (visible_of dir token rdns)
  same_named rdns = sym (there_is other token rdns sound_there) ∙ ap (λ (ss : List Seen). is_there ss rdns) same
      ∙ there_is dir token rdns sound

  same_object : (dn : List ℕ) → is_some (object_named other token dn) ≡ is_some (object_named dir token dn)
  unfolding object_named
  same_object dn = same_named (parts_in dn)

  unseen_there : (dn : List ℕ) → IsUnseen dir token dn → IsUnseen other token dn
  unseen_there dn none = none_there (object_named other token dn)
      (same_object dn ∙ ap (λ (o : Option ℕ). is_some o) none)

  parent_there : (a : Add) → parent_named dir token a ≡ None → parent_named other token a ≡ None
  unfolding parent_named
  parent_there a none = none_there (visible_of other token (drop 1 (parts_in a.dn)))
      (same_named (drop 1 (parts_in a.dn)) ∙ ap (λ (o : Option ℕ). is_some o) none)

  same_told : (dn : List ℕ) → name_told other token dn ≡ name_told dir token dn
  unfolding name_told
  same_told dn = ap (λ (ss : List Seen). nearest ss (drop 1 (parts_in dn))) same

  pub same_effect : (op : OpValue) (s : Settings) → IsAboutUnseen dir token op → effect other token op s
      ≡ effect dir token op s
  same_effect (ModifyOf m) s none =
      modify_told other token m s sound_there (unseen_there m.dn none) ∙ ap (told_by (is_name m.dn)) (same_told m.dn)
      ∙ sym (modify_told dir token m s sound none)
  same_effect (DeleteOf dn) s none =
      delete_told other token dn s sound_there (unseen_there dn none) ∙ ap (told_by (is_name dn)) (same_told dn)
      ∙ sym (delete_told dir token dn s sound none)
  same_effect (RenameOf r) s (inl none) =
      target_told other token r s sound_there (unseen_there r.dn none) ∙ ap (told_by (readable r)) (same_told r.dn)
      ∙ sym (target_told dir token r s sound none)
  same_effect (RenameOf r) s (inr it) =
      let there : Bool = is_some (object_named dir token r.dn) in
      rename_told other token r s sound_there it.superior it.named (unseen_there it.superior it.unseen) there
      (same_object r.dn)
      ∙ ap (λ (name : List ℕ). told_by (readable r) (if there then name else name_told other token r.dn))
      (same_told it.superior)
      ∙ ap (λ (name : List ℕ). told_by (readable r) (if there then name_told dir token it.superior else name))
      (same_told r.dn)
      ∙ sym (rename_told dir token r s sound it.superior it.named it.unseen there refl)
  same_effect (AddOf a) s none =
      add_told other token a s sound_there (parent_there a none)
      ∙ ap (λ (ss : List Seen). added_told (has_parts a) (same_rdns (first_name ss) (parts_in a.dn))
      (name_told other token a.dn)) same
      ∙ ap (added_told (has_parts a) (same_rdns (first_name (view dir token)) (parts_in a.dn))) (same_told a.dn)
      ∙ sym (add_told dir token a s sound none)
  same_effect (SearchOf search) s about = absurd about
  same_effect (CompareOf compare) s about = absurd about
  same_effect Bind s about = absurd about
  same_effect Unbind s about = absurd about
  same_effect Abandon s about = absurd about
  same_effect Extended s about = absurd about
