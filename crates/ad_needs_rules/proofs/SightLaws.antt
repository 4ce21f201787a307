-- Which objects a token sees, and what is told of a name whose object it doesn't see.
use Rattle.std.proofs.Common.{◌≡◌, ℕ, ◌+◌, ◌<◌, ◌≤◌, true, false, List, [], ◌∷◌, Option, Some, None, refl, sym, ap}
use Rattle.std.proofs.Common.{subst, ◌∙◌, inl, inr, get_or, length, drop}
use Rattle.std.specs.Prelude.{is_some, IfSome, if◌then◌else◌}
use Rattle.std.specs.Option.{option_and_then}
use Rattle.std.proofs.lemmas.Bool.{cases_Bool}
use Rattle.std.proofs.lemmas.List.{drop_more, drop_all}
use Rattle.ad_ids.specs.declared.token.Token.{Token}
use Rattle.ad_dn.specs.declared.rdn.Rdn.{Rdn}
use Rattle.ad_dir_model.specs.Objects.{is_live, Rise}
use Rattle.ad_dir_model.specs.Directory.{Directory}
use Rattle.ad_dir_model.specs.Names.{found}
use Rattle.ad_access_dir.specs.Sight.{if_visible, visible_of, matched}
use Rattle.ad_needs_rules.specs.Requests.{no_rdn}
use Rattle.ad_needs_rules.proofs.Named.{visible_live}

-- ---- the object of a name

pub visible_some : (dir : Directory) (token : Token) (rdns : List Rdn) (number : ℕ) (r : Option ℕ) → Some number
    ≡ found dir rdns → r ≡ if_visible dir token number
    → r ≡ visible_of dir token rdns
unfolding visible_of
visible_some dir token rdns number r some is = is ∙ ap (λ (o : Option ℕ). option_and_then (if_visible dir token) o) some

pub visible_none : (dir : Directory) (token : Token) (rdns : List Rdn) → None ≡ found dir rdns → None
    ≡ visible_of dir token rdns
unfolding visible_of
visible_none dir token rdns none = ap (λ (o : Option ℕ). option_and_then (if_visible dir token) o) none

pub visible_lives : (dir : Directory) (token : Token) (rdns : List Rdn) (r : Option ℕ) → Rise dir.objects → r
    ≡ visible_of dir token rdns
    → IfSome r (λ number. is_live dir.objects number ≡ true)
visible_lives dir token rdns None rise is = tt
visible_lives dir token rdns (Some number) rise is = visible_live dir token rdns number rise (sym is)

-- ---- the names above it

-- the nearest of a name and those above it whose object is visible
unfoldable pub nearest : Directory → Token → List Rdn → List Rdn
nearest dir token [] = []
nearest dir token (rdn ∷ rdns) = if is_some (visible_of dir token (rdn ∷ rdns)) then rdn ∷ rdns
    else nearest dir token rdns

pub matched_nearest : (dir : Directory) (token : Token) (rdns : List Rdn) → matched dir token rdns
    ≡ nearest dir token (drop 1 rdns)
unfolding matched nearest
matched_nearest dir token [] = refl
matched_nearest dir token (rdn ∷ []) = elim (cases_Bool (is_some (visible_of dir token []))) [
  | inl seen ↦ rw seen refl
  | inr unseen ↦ rw unseen refl
]
matched_nearest dir token (rdn ∷ other ∷ others) =
    ap (λ (rest : List Rdn). if is_some (visible_of dir token (other ∷ others)) then other ∷ others else rest)
    (matched_nearest dir token (other ∷ others))

pub nearest_here : (dir : Directory) (token : Token) (rdns : List Rdn) (levels : ℕ) → levels < length rdns
    → is_some (visible_of dir token (drop levels rdns)) ≡ true
    → drop levels rdns ≡ nearest dir token (drop levels rdns)
unfolding nearest
nearest_here dir token rdns levels lt seen =
    let parts : drop levels rdns ≡ get_or rdns levels no_rdn ∷ drop (levels + 1) rdns = drop_more rdns levels no_rdn
    lt in
    let seen' = subst (λ (xs : List Rdn). is_some (visible_of dir token xs) ≡ true) parts seen in
    subst (λ (xs : List Rdn). xs ≡ nearest dir token xs) (sym parts) (rw seen' refl)

pub nearest_later : (dir : Directory) (token : Token) (rdns : List Rdn) (levels : ℕ) → levels < length rdns
    → is_some (visible_of dir token (drop levels rdns)) ≡ false
    → nearest dir token (drop levels rdns) ≡ nearest dir token (drop (levels + 1) rdns)
unfolding nearest
nearest_later dir token rdns levels lt unseen =
    let parts : drop levels rdns ≡ get_or rdns levels no_rdn ∷ drop (levels + 1) rdns = drop_more rdns levels no_rdn
    lt in
    let unseen' = subst (λ (xs : List Rdn). is_some (visible_of dir token xs) ≡ false) parts unseen in
    ap (nearest dir token) parts ∙ rw unseen' refl

pub nearest_none : (dir : Directory) (token : Token) (rdns : List Rdn) (levels : ℕ) → length rdns ≤ levels → []
    ≡ nearest dir token (drop levels rdns)
unfolding nearest
nearest_none dir token rdns levels le = sym (ap (nearest dir token) (drop_all levels rdns le))
