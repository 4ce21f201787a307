-- A rename or a move whose checks hold keeps a directory sound.
use Rattle.std.proofs.Common.{◌≡◌, ℕ, ◌≤◌, Bool, true, List, Option, Some, None, refl, sym, subst, ap, ◌∙◌}
use Rattle.std.specs.Prelude.{nat_eq, nat_le, find, unwrap_or}
use Rattle.std.specs.Option.{option_map_or}
use Rattle.std.proofs.lemmas.Bool.{eqb-true, eqb-false, eq-eqb, leb-true, and_parts, and_from, both_ways, or_parts}
use Rattle.std.proofs.lemmas.Slice.Eq.{bytes_eq-Decides}
use Rattle.ad_ids.specs.declared.token.Token.{Token}
use Rattle.ad_dn.specs.Value.{IsValue}
use Rattle.ad_dn.specs.Fold.{folded}
use Rattle.ad_ldap.specs.declared.requests.Rename.{Rename}
use Rattle.ad_dir_model.specs.Limits.{max_depth, max_weight}
use Rattle.ad_dir_model.specs.Object.{Object, links_in}
use Rattle.ad_dir_model.specs.Objects.{is_live, object_at, parent_at, put}
use Rattle.ad_dir_model.specs.Tree.{root}
use Rattle.ad_dir_model.specs.Identity.{first_of_attr, sid_in, self_sid}
use Rattle.ad_dir_model.specs.Directory.{Directory, with_objects}
use Rattle.ad_dir_model.specs.Names.{same_folded, is_child_named, child_named}
use Rattle.ad_dir_model.specs.Changes.{renamed_object, renamed, goes_with}
use Rattle.ad_dir_model.specs.Weight.{weight}
use Rattle.ad_dir_model.specs.Soundness.{IsSoundObject, IsSound, HasOwnName}
use Rattle.ad_dir_model.specs.Conditions.{MayReplace, MayMove}
use Rattle.ad_dir_model.proofs.Finding.{of-live, at_number, live-put, found_first, none_found}
use Rattle.ad_dir_model.proofs.ScratchLaws.{sound_at}
use Rattle.ad_dir_model.proofs.Placing.{all_live_more}
use Rattle.ad_dir_model.proofs.Renaming.{renamed_sound}
use Rattle.ad_needs_rules.specs.Checks.{first_failing}
use Rattle.ad_needs_rules.specs.Requests.{number_named, no_rdn}
use Rattle.ad_needs_rules.specs.Renaming.{new_rdn, new_parent, rename_checks}
use Rattle.ad_needs_rules.proofs.FirstFailing.{head_holds}
use Rattle.ad_change.specs.Tree.{depth_of, is_shallow_with, fits_weight_limit}
use Rattle.ad_change.specs.Renaming.{is_free, rename_later}
use Rattle.ad_change.proofs.DepthLaws.{shallow_placed, passes_at}
use Rattle.ad_change.proofs.Resolved.{IsRenaming, renaming_of}

-- ---- the new object

sid_renamed : (dir : Directory) (o : Object) (parent : ℕ) (name : List ℕ)
    → sid_in dir.schema (renamed_object o parent name) ≡ sid_in dir.schema o
unfolding sid_in first_of_attr
sid_renamed dir o parent name = refl

-- no sibling has the name
own_name : (dir : Directory) (number parent : ℕ) (name : List ℕ) → IsSound dir → is_live dir.objects number ≡ true
    → is_free dir number parent name ≡ true
    → HasOwnName dir.objects (renamed_object (object_at dir.objects number) parent name)
unfolding child_named
own_name dir number parent name sound live free m other is same_parent same_name =
    by_found (find test dir.objects) refl free ∙ sym (at_number dir.objects number live)
  where
    test : Object → Bool
    test x = is_child_named parent name x

    passes : test other ≡ true
    passes = and_from (nat_eq other.parent parent) (same_folded other.name name)
        (eq-eqb other.parent parent same_parent) ((bytes_eq-Decides (folded other.name) (folded name)).1 same_name)

    by_found : (r : Option Object) → find test dir.objects ≡ r
        → option_map_or (λ (x : Object). nat_eq x.number number) r true ≡ true → other.number ≡ number
    by_found None none free' = absurd (both_ways (test other) (none_found test dir.objects m other none is) passes)
    by_found (Some x) first free' =
        let found = found_first test 0 dir.objects x sound.rise first in
        let parts = and_parts (nat_eq x.parent parent) (same_folded x.name name) found.passes in
        let x_parent : x.parent ≡ parent = eqb-true x.parent parent parts.0 in
        let x_name : folded x.name ≡ folded name = (bytes_eq-Decides (folded x.name) (folded name)).0 parts.1 in
        (sound.each x.number x found.live).own_name m other is (same_parent ∙ sym x_parent) (same_name ∙ sym x_name)
        ∙ eqb-true x.number number free'

pub may_replace : (dir : Directory) (number parent : ℕ) (name : List ℕ) → IsSound dir → is_live dir.objects number
    ≡ true → IsValue name
    → is_free dir number parent name ≡ true
    → fits_weight_limit dir (renamed_object (object_at dir.objects number) parent name) ≡ true
    → MayReplace dir (renamed_object (object_at dir.objects number) parent name)
unfolding fits_weight_limit
may_replace dir number parent name sound live value free light = record {
  live = subst (λ (k : ℕ). is_live dir.objects k ≡ true) (sym (at_number dir.objects number live)) live;
  fits = record {
    content = record {
      class_of_schema = old.content.class_of_schema;
      name = value;
      attrs_rise = old.content.attrs_rise;
      each = old.content.each;
    };
    links = all_live_more dir.objects (put new dir.objects) (links_in o.values) (live-put new dir.objects) old.links;
    own_name = own_name dir number parent name sound live free;
    own_sid = λ m other sid is has own. old.own_sid m other sid is has (sym (sid_renamed dir o parent name) ∙ own);
  };
  same_sid = sid_renamed dir o parent name ∙ ap (λ (k : ℕ). self_sid dir k) (sym (at_number dir.objects number live));
  weight = leb-true (weight (with_objects (put new dir.objects) dir)) max_weight light;
}
  where
    o : Object
    o = object_at dir.objects number

    new : Object
    new = renamed_object o parent name

    old : IsSoundObject dir (object_at dir.objects number)
    old = sound_at dir sound.each number live

pub may_move : (dir : Directory) (number parent : ℕ) (name : List ℕ) → is_live dir.objects number ≡ true
    → (number ≡ root → ⊥) → is_live dir.objects parent ≡ true → (number ≡ parent → ⊥)
    → is_shallow_with dir (renamed_object (object_at dir.objects number) parent name) ≡ true
    → MayMove dir (renamed_object (object_at dir.objects number) parent name)
unfolding is_shallow_with
may_move dir number parent name live not_root parent_live apart shallow = record {
  below = λ (e : (object_at dir.objects number).number ≡ root). not_root (sym is ∙ e);
  parent_live = parent_live;
  apart = λ (e : (object_at dir.objects number).number ≡ parent). apart (sym is ∙ e);
  placed = λ n n_live.
      let passes : nat_le (depth_of after (object_at dir.objects n).number) max_depth ≡ true
      = passes_at (λ (x : Object). nat_le (depth_of after x.number) max_depth) dir.objects n (object_at dir.objects n)
      shallow (of-live dir.objects n n_live) in
      shallow_placed after n (subst (λ (k : ℕ). depth_of after k ≤ max_depth) (at_number dir.objects n n_live)
      (leb-true (depth_of after (object_at dir.objects n).number) max_depth passes));
}
  where
    is : (object_at dir.objects number).number ≡ number
    is = at_number dir.objects number live

    after : ℕ → ℕ
    after = parent_at (put (renamed_object (object_at dir.objects number) parent name) dir.objects)

pub rename_is_sound : (dir : Directory) (number parent : ℕ) (name : List ℕ) → IsSound dir
    → is_live dir.objects number ≡ true → (number ≡ root → ⊥) → is_live dir.objects parent ≡ true
    → (((object_at dir.objects number).parent ≡ parent → ⊥) → number ≡ parent → ⊥) → IsValue name
    → first_failing (rename_later dir number parent name) ≡ None → IsSound (renamed dir number parent name)
unfolding rename_later
rename_is_sound dir number parent name sound live not_root parent_live apart value none =
    let first = head_holds _ _ none in
    let second = head_holds _ _ first.1 in
    let third = head_holds _ _ second.1 in
    let fits = and_parts (is_shallow_with dir (renamed_object (object_at dir.objects number) parent name))
    (fits_weight_limit dir (renamed_object (object_at dir.objects number) parent name)) third.0 in
    renamed_sound dir number parent name sound live
    (may_replace dir number parent name sound live value second.0 fits.1)
    (λ differ. may_move dir number parent name live not_root parent_live (apart differ) fits.0)

-- ---- what the checks up to the required rights say

pub renamed_is_sound : (dir : Directory) (token : Token) (r : Rename) → IsSound dir
    → first_failing (rename_checks dir token r) ≡ None
    → first_failing (rename_later dir (number_named dir token r.dn) (new_parent dir token r)
    (unwrap_or (new_rdn r) no_rdn).value) ≡ None
    → IsSound (renamed dir (number_named dir token r.dn) (new_parent dir token r) (unwrap_or (new_rdn r) no_rdn).value)
unfolding goes_with
renamed_is_sound dir token r sound none later =
    let are : IsRenaming dir (number_named dir token r.dn) (new_parent dir token r)
    (unwrap_or (new_rdn r) no_rdn).value = renaming_of dir token r sound none in
    rename_is_sound dir (number_named dir token r.dn) (new_parent dir token r) (unwrap_or (new_rdn r) no_rdn).value
    sound are.live are.below are.parent_live
    (λ differ same. eqb-false (new_parent dir token r) (number_named dir token r.dn)
    (or_parts (nat_eq (new_parent dir token r) (number_named dir token r.dn)) _ (are.outside differ)).0 (sym same))
    are.value later
