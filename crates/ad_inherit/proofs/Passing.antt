-- The lists of inheritance, entry by entry.
use Rattle.std.proofs.Common.{◌≡◌, Bool, true, false, not, ◌&&◌, cond, List, [], ◌∷◌, ◌++◌, ap, ◌∙◌, refl}
use Rattle.std.proofs.lemmas.List.Elements.{filter-append, filter_passes}
use Rattle.std.proofs.lemmas.List.Sums.{list_all-from_AllPass}
use Rattle.std.specs.List.{filter, flat_map, list_all}
use Rattle.ad_ids.specs.declared.guid.Guid.{Guid}
use Rattle.ad_ids.specs.SidValue.{SidValue}
use Rattle.ad_acl.specs.Entry.{Entry}
use Rattle.ad_inherit.specs.Flags.{inherited, has}
use Rattle.ad_inherit.specs.Copies.{passes, copies}
use Rattle.ad_inherit.specs.Whole.{is_explicit, explicit_entries, passed}
use Rattle.ad_inherit.proofs.CopyFlags.{each_inherited}

both_true : (p q : Bool) → p && q ≡ true → (p ≡ true) × (q ≡ true)
both_true true q e = (refl, e)
both_true false q e = absurd (cc e)

-- nothing is left of entries that all carry the flag
none_explicit : (entries : List Entry) → list_all (λ e. has e inherited) entries ≡ true → explicit_entries entries ≡ []
none_explicit [] all = refl
none_explicit (e ∷ es) all =
    let both = both_true (has e inherited) (list_all (λ x. has x inherited) es) all in
    ap (λ (b : Bool). cond (not b) (e ∷ explicit_entries es) (explicit_entries es)) both.0 ∙ none_explicit es both.1

-- the explicit entries of two lists
pub explicit-append : (xs ys : List Entry) → explicit_entries (xs ++ ys) ≡ explicit_entries xs ++ explicit_entries ys
explicit-append xs ys = filter-append is_explicit xs ys

-- explicit entries are explicit
pub explicit-explicit : (entries : List Entry) → list_all is_explicit entries ≡ true → explicit_entries entries
    ≡ entries
explicit-explicit [] all = refl
explicit-explicit (e ∷ es) all =
    let both = both_true (is_explicit e) (list_all is_explicit es) all in
    ap (λ (b : Bool). cond b (e ∷ explicit_entries es) (explicit_entries es)) both.0
    ∙ ap (λ (xs : List Entry). e ∷ xs) (explicit-explicit es both.1)

-- taking the explicit ones twice
pub explicit-twice : (entries : List Entry) → explicit_entries (explicit_entries entries) ≡ explicit_entries entries
explicit-twice entries = explicit-explicit (explicit_entries entries)
    (list_all-from_AllPass is_explicit (explicit_entries entries) (filter_passes is_explicit entries))

-- what one entry passes, and the others
pub passed-cons : (e : Entry) (es : List Entry) (class : Guid) (owner group : SidValue) → passed (e ∷ es) class owner
    group ≡ cond (passes e) (copies e class owner group) [] ++ passed es class owner group
passed-cons e es class owner group = kept (passes e)
  where
    kept : (b : Bool) → flat_map (λ x. copies x class owner group) (cond b (e ∷ filter passes es) (filter passes es))
        ≡ cond b (copies e class owner group) [] ++ passed es class owner group
    kept true = refl
    kept false = refl

-- what is passed is inherited
pub explicit-passed : (entries : List Entry) (class : Guid) (owner group : SidValue)
    → explicit_entries (passed entries class owner group) ≡ []
explicit-passed [] class owner group = refl
explicit-passed (e ∷ es) class owner group =
    ap explicit_entries (passed-cons e es class owner group)
    ∙ explicit-append (cond (passes e) (copies e class owner group) []) (passed es class owner group)
    ∙ ap (λ (xs : List Entry). xs ++ explicit_entries (passed es class owner group)) (kept (passes e))
    ∙ explicit-passed es class owner group
  where
    kept : (b : Bool) → explicit_entries (cond b (copies e class owner group) []) ≡ []
    kept true = none_explicit (copies e class owner group) (each_inherited e class owner group)
    kept false = refl
