-- The object of a name that a token sees, by the walk down the directory.
use Rattle.std.proofs.Common.{◌≡◌, ℕ, Bool, true, false, ◌&&◌, List, Some, None, inl, inr, sym, subst, ◌∙◌}
use Rattle.std.specs.Prelude.{find}
use Rattle.std.proofs.lemmas.Bool.{cases_Bool, both_ways, and_parts}
use Rattle.std.proofs.lemmas.Option.{none-some, same_Some}
use Rattle.ad_ids.specs.declared.token.Token.{Token}
use Rattle.ad_dn.specs.declared.rdn.Rdn.{Rdn}
use Rattle.ad_dir_model.specs.Objects.{is_live, numbers}
use Rattle.ad_dir_model.specs.Directory.{Directory}
use Rattle.ad_dir_model.specs.Names.{rdns_of, found}
use Rattle.ad_access_dir.specs.Sight.{is_visible}
use Rattle.ad_entries.specs.Seen.{seen_of, view}
use Rattle.ad_search.specs.Scope.{same_rdns, is_named}
use Rattle.ad_search.proofs.SeenLaws.{numbers_live, number_listed, none_found, one_found}
use Rattle.ad_search.proofs.FoundLaws.{Stands, named_found}

-- the object is seen and has the name
abbrev Is : Directory → Token → List Rdn → ℕ → Bool
Is dir token rdns n = is_visible dir token n && is_named rdns (seen_of dir token n)

-- whatever has the name is found by it
leads : (dir : Directory) (token : Token) (rdns : List Rdn) → Stands dir → (n : ℕ) → is_live dir.objects n ≡ true
    → Is dir token rdns n ≡ true → found dir rdns ≡ Some n
unfolding seen_of
leads dir token rdns stands n live is = named_found dir n rdns stands live
    (and_parts (is_visible dir token n) (same_rdns (rdns_of dir n) rdns) is).1

-- where the walk finds none, none is seen
pub none_seen : (dir : Directory) (token : Token) (rdns : List Rdn) → Stands dir → found dir rdns ≡ None
    → find (is_named rdns) (view dir token) ≡ None
unfolding view
none_seen dir token rdns stands none =
    none_found dir token rdns (numbers dir.objects) (numbers_live dir.objects)
    (λ n live. elim (cases_Bool (Is dir token rdns n)) [
      | inl is ↦ absurd (none-some n (sym none ∙ leads dir token rdns stands n live is))
      | inr not_so ↦ not_so
    ])

-- where what it finds isn't live, or isn't seen by the name, none is
pub other_seen : (dir : Directory) (token : Token) (rdns : List Rdn) (n : ℕ) → Stands dir → found dir rdns ≡ Some n
    → (is_live dir.objects n ≡ true → Is dir token rdns n ≡ false) → find (is_named rdns) (view dir token) ≡ None
unfolding view
other_seen dir token rdns n stands is not_it =
    none_found dir token rdns (numbers dir.objects) (numbers_live dir.objects)
    (λ m live. elim (cases_Bool (Is dir token rdns m)) [
      | inl named ↦
          let same : m ≡ n = same_Some m n (sym (leads dir token rdns stands m live named) ∙ is) in
          absurd (both_ways (Is dir token rdns m)
          (subst (λ (k : ℕ). Is dir token rdns k ≡ false) (sym same)
          (not_it (subst (λ (k : ℕ). is_live dir.objects k ≡ true) same live))) named)
      | inr not_so ↦ not_so
    ])

-- and else it is what is seen
pub it_is_seen : (dir : Directory) (token : Token) (rdns : List Rdn) (n : ℕ) → Stands dir → is_live dir.objects n
    ≡ true → Is dir token rdns n ≡ true → find (is_named rdns) (view dir token) ≡ Some (seen_of dir token n)
unfolding view
it_is_seen dir token rdns n stands live is =
    one_found dir token rdns n (numbers dir.objects) (numbers_live dir.objects) (number_listed dir.objects n live) is
    (λ m other named. same_Some m n (sym (leads dir token rdns stands m other named) ∙ leads dir token rdns stands n
    live is))
