-- The indexes after an edit of the objects.
use Rattle.std.proofs.Common.{◌≡◌, ℕ, true, List, [], ◌∷◌, Option, Some, None, refl, sym, subst, ap, ◌∙◌, inl, inr}
use Rattle.std.specs.Prelude.{nat_eq, find}
use Rattle.std.specs.Option.{option_map, option_and_then}
use Rattle.std.proofs.lemmas.Bool.{cases_Bool}
use Rattle.std.proofs.lemmas.Option.{none-some, same_Some}
use Rattle.ad_ids.specs.SidValue.{SidValue}
use Rattle.ad_ids.proofs.SidLaws.{same_sid-Decides}
use Rattle.ad_dn.specs.Fold.{folded}
use Rattle.ad_schema.specs.declared.line.SchemaRecord.{SchemaRecord}
use Rattle.ad_dir_model.specs.Object.{Object}
use Rattle.ad_dir_model.specs.Objects.{object_of, Rise, put, removed}
use Rattle.ad_dir_model.specs.Identity.{is_sid, sid_in}
use Rattle.ad_dir_model.specs.Names.{is_child_named, child_named}
use Rattle.ad_dir_model.proofs.Finding.{of_number}
use Rattle.ad_dir_table.specs.declared.change.Changes.{Changes}
use Rattle.ad_dir_table.specs.declared.index.Index.{Index}
use Rattle.ad_dir_table.specs.declared.name_key.NameKey.{NameKey}
use Rattle.ad_dir_table.specs.NameKeys.{ChildName, same_child, same_child_laws, name_at}
use Rattle.ad_dir_table.specs.Exact.{IsExact, name_of, sid_at}
use Rattle.ad_dir_table.specs.KeyChanges.{Removes}
use Rattle.ad_dir_table.specs.Lists.{listed, Drops}
use Rattle.ad_dir_table.specs.Indexed.{IsIndexed, HasOwnKeys, AreChanges, ShowSame, AreEdited, AreRemoved}
use Rattle.ad_dir_table.proofs.MapLaws.{same_name, name_told, sid_told}
use Rattle.ad_dir_table.proofs.ExactLaws.{none_exact, put_exact, removed_exact, exact_finds}
use Rattle.ad_dir_table.proofs.ChildLaws.{put_children, removed_lists}

pub none_indexed : (schema : List SchemaRecord) (index : Index) → index.names.entries ≡ [] → index.sids.entries ≡ []
    → index.children.entries ≡ [] → IsIndexed schema index []
none_indexed schema index names sids lists = record {
  names = none_exact name_told name_of (name_at index.names.entries) (λ v. ap (λ es. name_at es v) names);
  sids = none_exact sid_told (sid_in schema) (sid_at index.sids.entries) (λ v. ap (λ es. sid_at es v) sids);
  children = λ p. ap (λ es. listed es p) lists;
}

pub same_indexed : (schema : List SchemaRecord) (old new : Index) (objects : List Object) → ShowSame old new
    → IsIndexed schema old objects → IsIndexed schema new objects
same_indexed schema old new objects same indexed = record {
  names = subst (λ es. IsExact name_of (name_at es) objects) (sym same.names) indexed.names;
  sids = subst (λ es. IsExact (sid_in schema) (sid_at es) objects) (sym same.sids) indexed.sids;
  children = λ p. same.children p ∙ indexed.children p;
}

pub put_indexed : (schema : List SchemaRecord) (old new : Index) (changes : Changes) (o : Object)
    (objects : List Object) → Rise objects → HasOwnKeys schema objects o → AreChanges schema objects o changes
    → AreEdited changes o.number old new
    → IsIndexed schema old objects → IsIndexed schema new (put o objects)
put_indexed schema old new changes o objects rise own are edited indexed = record {
  names = put_exact name_told name_of (name_at old.names.entries) objects o indexed.names (name_at new.names.entries)
      _ _ edited.names
      (λ n x v live x_name o_name.
      let same = same_Some _ _ (x_name ∙ sym o_name) in
      own.name n x live (ap (λ k. k.parent) same) (ap (λ k. k.folded) same))
      are.names;
  sids = put_exact sid_told (sid_in schema) (sid_at old.sids.entries) objects o indexed.sids (sid_at new.sids.entries)
      _ _ edited.sids (λ n x v live x_sid o_sid. own.sid n x v live x_sid o_sid) are.sids;
  children = put_children o objects _ _ (listed old.children.entries) (listed new.children.entries) rise are.parents
      edited.children indexed.children;
}

pub removed_indexed : (schema : List SchemaRecord) (old new : Index) (number : ℕ) (o : Object) (sid : Option SidValue)
    (objects : List Object) → Rise objects → object_of objects number ≡ Some o → sid ≡ sid_in schema o
    → AreRemoved o sid old new
    → IsIndexed schema old objects → IsIndexed schema new (removed number objects)
removed_indexed schema old new number o sid objects rise live is gone indexed = record {
  names = removed_exact name_told name_of (name_at old.names.entries) (name_at new.names.entries) objects number
      indexed.names
      (subst (λ k. Removes k (name_at old.names.entries) (name_at new.names.entries))
      (sym (ap (option_and_then name_of) live)) gone.names);
  sids = removed_exact sid_told (sid_in schema) (sid_at old.sids.entries) (sid_at new.sids.entries) objects number
      indexed.sids
      (subst (λ k. Removes k (sid_at old.sids.entries) (sid_at new.sids.entries))
      (is ∙ sym (ap (option_and_then (sid_in schema)) live)) gone.sids);
  children = removed_lists number o objects (listed old.children.entries) (listed new.children.entries) rise live
      (subst (λ (n : ℕ). Drops (Some o.parent) n (listed old.children.entries) (listed new.children.entries))
      (of_number objects number o live) gone.children) indexed.children;
}

-- where no object has the number
none_removed : (number : ℕ) (objects : List Object) → object_of objects number ≡ None → removed number objects ≡ objects
unfolding object_of removed
none_removed number [] none = refl
none_removed number (x ∷ xs) none = elim (cases_Bool (nat_eq x.number number)) [
  | inl here ↦ absurd (none-some x (sym (rw here at none)))
  | inr other ↦ rw other (ap (λ (os : List Object). x ∷ os) (none_removed number xs (rw other at none)))
]

pub absent_indexed : (schema : List SchemaRecord) (index : Index) (number : ℕ) (objects : List Object)
    → object_of objects number ≡ None → IsIndexed schema index objects
    → IsIndexed schema index (removed number objects)
absent_indexed schema index number objects none indexed = subst (IsIndexed schema index)
    (sym (none_removed number objects none)) indexed

-- ---- what is found

pub name_found : (entries : List (NameKey × ℕ)) (objects : List Object) (parent : ℕ) (name : List ℕ) → Rise objects
    → IsExact name_of (name_at entries) objects
    → name_at entries (record { parent = parent; folded = folded name }) ≡ option_map (λ (o : Object). o.number)
    (child_named objects parent name)
unfolding child_named
name_found entries objects parent name rise exact =
    exact_finds name_told name_of (name_at entries) objects (is_child_named parent name)
    (record { parent = parent; folded = folded name }) rise
    (λ o is. ap Some (same_name (record { parent = o.parent; folded = folded o.name })
    (record { parent = parent; folded = folded name }) is))
    (λ o is. subst (λ (n : ChildName). same_child (record { parent = o.parent; folded = folded o.name }) n ≡ true)
    (same_Some _ _ is) (same_child_laws.refl (record { parent = o.parent; folded = folded o.name }))) exact

sid_test : (sid : SidValue) (own : Option SidValue) → is_sid sid own ≡ true → own ≡ Some sid
sid_test sid None is = absurd cc
sid_test sid (Some other) is = ap Some ((same_sid-Decides other sid).0 is)

pub sid_found : (schema : List SchemaRecord) (entries : List (SidValue × ℕ)) (objects : List Object) (sid : SidValue)
    → Rise objects → IsExact (sid_in schema) (sid_at entries) objects
    → sid_at entries sid ≡ option_map (λ (o : Object). o.number)
    (find (λ (o : Object). is_sid sid (sid_in schema o)) objects)
sid_found schema entries objects sid rise exact =
    exact_finds sid_told (sid_in schema) (sid_at entries) objects (λ (o : Object). is_sid sid (sid_in schema o)) sid
    rise
    (λ o is. sid_test sid (sid_in schema o) is) (λ o is. ap (is_sid sid) is ∙ (same_sid-Decides sid sid).1 refl) exact
