-- The names above one that leads nowhere: where no object has a name, none has one below it.
use Rattle.std.proofs.Common.{◌≡◌, ℕ, zero, suc, ◌+◌, ◌-◌, ◌<◌, ◌≤◌, Bool, true, false, ◌&&◌, List, [], ◌∷◌}
use Rattle.std.proofs.Common.{length, drop, Option, Some, None, add-one, inl, inr, refl, sym, ap, ◌∙◌, arith}
use Rattle.std.specs.Prelude.{if◌then◌else◌, is_some, find}
use Rattle.std.proofs.lemmas.Bool.{cases_Bool, cases_lt}
use Rattle.std.proofs.lemmas.List.{length-drop, drop_all}
use Rattle.ad_ids.specs.declared.token.Token.{Token}
use Rattle.ad_dn.specs.declared.rdn.Rdn.{Rdn}
use Rattle.ad_dn.specs.Text.{rdns_text}
use Rattle.ad_dir_model.specs.Objects.{is_live}
use Rattle.ad_dir_model.specs.Directory.{Directory}
use Rattle.ad_dir_model.specs.Names.{found}
use Rattle.ad_dir_model.proofs.Above.{found_short, found_none}
use Rattle.ad_access_dir.specs.Sight.{is_visible}
use Rattle.ad_entries.specs.Seen.{Seen, seen_of, view}
use Rattle.ad_search.specs.Scope.{is_named, is_there, nearest}
use Rattle.ad_search.proofs.FoundLaws.{Stands}
use Rattle.ad_search.proofs.SeenLaws.{any_found}
use Rattle.ad_search.proofs.SightLaws.{none_seen, other_seen, it_is_seen}
use Rattle.ad_search.proofs.NameLaws.{first_left, nearest_here, nearest_later}

-- ---- the nearest that is seen

-- no object is seen that has a name which leads nowhere
not_there : (dir : Directory) (token : Token) (rdns : List Rdn) → Stands dir → found dir rdns ≡ None
    → is_there (view dir token) rdns ≡ false
unfolding is_there
not_there dir token rdns stands none = any_found (is_named rdns) (view dir token)
    ∙ ap (λ (s : Option Seen). is_some s) (none_seen dir token rdns stands none)

pub nearest_short : (dir : Directory) (token : Token) (rdns : List Rdn) → Stands dir → length rdns
    ≤ length dir.meta.suffix → nearest (view dir token) rdns ≡ []
unfolding nearest
nearest_short dir token [] stands le = refl
nearest_short dir token (rdn ∷ rdns) stands le =
    ap (λ (b : Bool). if b then rdns_text (rdn ∷ rdns) else nearest (view dir token) rdns)
    (not_there dir token (rdn ∷ rdns) stands (found_short dir (rdn ∷ rdns) le))
    ∙ nearest_short dir token rdns stands (omega (arith, le))

-- below a name that leads nowhere none is seen
pub nearest_above : (dir : Directory) (token : Token) (rdns : List Rdn) (levels first : ℕ) → Stands dir → levels
    + length dir.meta.suffix < length rdns → first ≤ levels
    → found dir (drop levels rdns) ≡ None → nearest (view dir token) (drop first rdns) ≡ nearest (view dir token)
    (drop (levels + 1) rdns)
nearest_above dir token rdns zero zero stands lt le none = nearest_later (view dir token) rdns 0 (omega (arith, lt))
    (sym (not_there dir token (drop 0 rdns) stands none))
nearest_above dir token rdns zero (suc first) stands lt le none = absurd (omega (arith, le))
nearest_above dir token rdns (suc levels) first stands lt le none = elim (cases_lt first (suc levels)) [
  | inl less ↦
      nearest_above dir token rdns levels first stands (omega (arith, lt)) (omega (arith, less)) before
      ∙ ap (λ (n : ℕ). nearest (view dir token) (drop n rdns)) (add-one levels)
      ∙ here
  | inr more ↦
      let same : first ≡ suc levels = omega (arith, le, more) in
      ap (λ (n : ℕ). nearest (view dir token) (drop n rdns)) same ∙ here
]
  where
    here : nearest (view dir token) (drop (suc levels) rdns) ≡ nearest (view dir token) (drop (suc levels + 1) rdns)
    here = nearest_later (view dir token) rdns (suc levels) (omega (arith, lt))
        (sym (not_there dir token (drop (suc levels) rdns) stands none))

    parts : (x : Rdn) × (drop levels rdns ≡ x ∷ drop (suc levels) rdns)
    parts = first_left rdns levels (omega (arith, lt))

    long : length dir.meta.suffix < length (drop (suc levels) rdns)
    long = omega (arith, lt, length-drop (suc levels) rdns)

    before : found dir (drop levels rdns) ≡ None
    before = ap (found dir) parts.1 ∙ found_none dir parts.0 (drop (suc levels) rdns) long none

-- ---- from the root's name down

pub starts : (dir : Directory) (token : Token) (rdns : List Rdn) (parts levels : ℕ) → Stands dir → length rdns ≤ parts
    → length rdns ≤ levels + length dir.meta.suffix
    → rdns_text (drop parts rdns) ≡ nearest (view dir token) (drop levels rdns)
unfolding rdns_text
starts dir token rdns parts levels stands all short =
    ap rdns_text (drop_all parts rdns all)
    ∙ sym (nearest_short dir token (drop levels rdns) stands (omega (arith, short, length-drop levels rdns)))

pub stops : (dir : Directory) (token : Token) (rdns : List Rdn) (before : ℕ) (text : List ℕ) → Stands dir → 1 < before
    → before + length dir.meta.suffix ≤ length rdns
    → found dir (drop (before - 1) rdns) ≡ None → text ≡ nearest (view dir token) (drop before rdns) → text
    ≡ nearest (view dir token) (drop 1 rdns)
stops dir token rdns before text stands lt le none so_far =
    let at : before - 1 + 1 ≡ before = omega (arith, lt) in
    so_far
    ∙ sym (nearest_above dir token rdns (before - 1) 1 stands (omega (arith, lt, le)) (omega (arith, lt)) none
    ∙ ap (λ (n : ℕ). nearest (view dir token) (drop n rdns)) at)

pub steps : (seen : List Seen) (rdns : List Rdn) (before so_far : ℕ) (is : Bool) → 1 < before → before ≤ length rdns
    → is ≡ is_there seen (drop (before - 1) rdns)
    → rdns_text (drop so_far rdns) ≡ nearest seen (drop before rdns)
    → rdns_text (drop (if is then before - 1 else so_far) rdns) ≡ nearest seen (drop (before - 1) rdns)
steps seen rdns before so_far true lt le is before_it = nearest_here seen rdns (before - 1) (omega (arith, lt, le)) is
steps seen rdns before so_far false lt le is before_it =
    let at : before - 1 + 1 ≡ before = omega (arith, lt) in
    before_it ∙ sym (nearest_later seen rdns (before - 1) (omega (arith, lt, le)) is
    ∙ ap (λ (n : ℕ). nearest seen (drop n rdns)) at)

pub either_within : (is : Bool) (a b most : ℕ) → a ≤ most → b ≤ most → (if is then a else b) ≤ most
either_within true a b most la lb = la
either_within false a b most la lb = lb

pub none_there : (dir : Directory) (token : Token) (rdns : List Rdn) → find (is_named rdns) (view dir token) ≡ None
    → false ≡ is_there (view dir token) rdns
unfolding is_there
none_there dir token rdns none = sym (any_found (is_named rdns) (view dir token) ∙ ap (λ (s : Option Seen). is_some s)
    none)

-- whether the object that a name leads to is seen by it is whether one is
pub there_by : (dir : Directory) (token : Token) (rdns : List Rdn) (n : ℕ) → Stands dir → found dir rdns ≡ Some n
    → is_live dir.objects n ≡ true
    → (is_visible dir token n && is_named rdns (seen_of dir token n)) ≡ is_there (view dir token) rdns
unfolding is_there
there_by dir token rdns n stands leads live
    = elim (cases_Bool (is_visible dir token n && is_named rdns (seen_of dir token n))) [
      | inl is ↦ is ∙ sym (any_found (is_named rdns) (view dir token) ∙ ap (λ (s : Option Seen). is_some s)
          (it_is_seen dir token rdns n stands live is))
      | inr not_so ↦ not_so ∙ none_there dir token rdns (other_seen dir token rdns n stands leads (λ still. not_so))
    ]
