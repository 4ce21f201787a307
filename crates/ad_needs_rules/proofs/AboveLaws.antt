-- The names above one that leads nowhere: where no object has a name, none has one below it.
use Rattle.std.proofs.Common.{◌≡◌, ℕ, zero, suc, ◌+◌, ◌-◌, ◌<◌, ◌≤◌, Bool, true, false, List, [], ◌∷◌}
use Rattle.std.proofs.Common.{length, drop, get_or, Option, Some, None, add-one, inl, inr, refl, sym, ap}
use Rattle.std.proofs.Common.{◌∙◌, arith}
use Rattle.std.specs.Prelude.{if◌then◌else◌, is_some}
use Rattle.std.specs.Option.{option_and_then}
use Rattle.std.proofs.lemmas.Bool.{cases_lt}
use Rattle.std.proofs.lemmas.List.{length-drop, drop_more, drop_all}
use Rattle.ad_ids.specs.declared.token.Token.{Token}
use Rattle.ad_dn.specs.declared.rdn.Rdn.{Rdn}
use Rattle.ad_dir_model.specs.Directory.{Directory}
use Rattle.ad_dir_model.specs.Names.{found}
use Rattle.ad_dir_model.proofs.Above.{found_short, found_none}
use Rattle.ad_access_dir.specs.Sight.{is_visible, if_visible, visible_of}
use Rattle.ad_needs_rules.specs.Requests.{no_rdn}
use Rattle.ad_needs_rules.proofs.SightLaws.{nearest, nearest_here, nearest_later}

-- ---- the nearest that is visible

pub not_visible : (dir : Directory) (token : Token) (rdns : List Rdn) → found dir rdns ≡ None
    → is_some (visible_of dir token rdns) ≡ false
unfolding visible_of
not_visible dir token rdns none = ap (λ (o : Option ℕ). is_some (option_and_then (if_visible dir token) o)) none

pub visible_by : (dir : Directory) (token : Token) (rdns : List Rdn) (number : ℕ) (b : Bool) → found dir rdns
    ≡ Some number → is_visible dir token number ≡ b → is_some (visible_of dir token rdns) ≡ b
unfolding visible_of
visible_by dir token rdns number b leads is
    = ap (λ (o : Option ℕ). is_some (option_and_then (if_visible dir token) o)) leads
    ∙ by_test (is_visible dir token number) ∙ is
  where
    by_test : (t : Bool) → is_some (if t then Some number else None) ≡ t
    by_test true = refl
    by_test false = refl

pub nearest_short : (dir : Directory) (token : Token) (rdns : List Rdn) → length rdns ≤ length dir.meta.suffix
    → nearest dir token rdns ≡ []
unfolding nearest
nearest_short dir token [] le = refl
nearest_short dir token (rdn ∷ rdns) le =
    ap (λ (b : Bool). if b then rdn ∷ rdns else nearest dir token rdns)
    (not_visible dir token (rdn ∷ rdns) (found_short dir (rdn ∷ rdns) le))
    ∙ nearest_short dir token rdns (omega (arith, le))

-- above a name that leads nowhere none is visible that is nearer
pub nearest_above : (dir : Directory) (token : Token) (rdns : List Rdn) (levels first : ℕ) → levels
    + length dir.meta.suffix < length rdns → first ≤ levels
    → found dir (drop levels rdns) ≡ None → nearest dir token (drop first rdns)
    ≡ nearest dir token (drop (levels + 1) rdns)
nearest_above dir token rdns zero zero lt le none = nearest_later dir token rdns 0 (omega (arith, lt))
    (not_visible dir token (drop 0 rdns) none)
nearest_above dir token rdns zero (suc first) lt le none = absurd (omega (arith, le))
nearest_above dir token rdns (suc levels) first lt le none = elim (cases_lt first (suc levels)) [
  | inl less ↦
      nearest_above dir token rdns levels first (omega (arith, lt)) (omega (arith, less)) before
      ∙ ap (λ (n : ℕ). nearest dir token (drop n rdns)) (add-one levels)
      ∙ here
  | inr more ↦
      let same : first ≡ suc levels = omega (arith, le, more) in
      ap (λ (n : ℕ). nearest dir token (drop n rdns)) same ∙ here
]
  where
    here : nearest dir token (drop (suc levels) rdns) ≡ nearest dir token (drop (suc levels + 1) rdns)
    here = nearest_later dir token rdns (suc levels) (omega (arith, lt))
        (not_visible dir token (drop (suc levels) rdns) none)

    parts : drop levels rdns ≡ get_or rdns levels no_rdn ∷ drop (levels + 1) rdns
    parts = drop_more rdns levels no_rdn (omega (arith, lt))

    next : drop (levels + 1) rdns ≡ drop (suc levels) rdns
    next = ap (λ (n : ℕ). drop n rdns) (add-one levels)

    long : length dir.meta.suffix < length (drop (suc levels) rdns)
    long = omega (arith, lt, length-drop (suc levels) rdns)

    before : found dir (drop levels rdns) ≡ None
    before =
        ap (found dir) (parts ∙ ap (λ (rest : List Rdn). get_or rdns levels no_rdn ∷ rest) next)
        ∙ found_none dir (get_or rdns levels no_rdn) (drop (suc levels) rdns) long none

-- ---- from the root's name down

pub starts : (dir : Directory) (token : Token) (rdns : List Rdn) (parts levels : ℕ) → length rdns ≤ parts
    → length rdns ≤ levels + length dir.meta.suffix
    → drop parts rdns ≡ nearest dir token (drop levels rdns)
starts dir token rdns parts levels all short =
    drop_all parts rdns all ∙ sym (nearest_short dir token (drop levels rdns)
    (omega (arith, short, length-drop levels rdns)))

pub stops : (dir : Directory) (token : Token) (rdns : List Rdn) (before : ℕ) (near : List Rdn) → 1 < before → before
    + length dir.meta.suffix ≤ length rdns
    → found dir (drop (before - 1) rdns) ≡ None → near ≡ nearest dir token (drop before rdns) → near
    ≡ nearest dir token (drop 1 rdns)
stops dir token rdns before near lt le none so_far =
    let at : before - 1 + 1 ≡ before = omega (arith, lt) in
    so_far
    ∙ sym (nearest_above dir token rdns (before - 1) 1 (omega (arith, lt, le)) (omega (arith, lt)) none
    ∙ ap (λ (n : ℕ). nearest dir token (drop n rdns)) at)

pub steps : (dir : Directory) (token : Token) (rdns : List Rdn) (before so_far : ℕ) (is : Bool) → 1 < before → before
    ≤ length rdns → is_some (visible_of dir token (drop (before - 1) rdns)) ≡ is
    → drop so_far rdns ≡ nearest dir token (drop before rdns) → drop (if is then before - 1 else so_far) rdns
    ≡ nearest dir token (drop (before - 1) rdns)
steps dir token rdns before so_far true lt le is before_it = nearest_here dir token rdns (before - 1)
    (omega (arith, lt, le)) is
steps dir token rdns before so_far false lt le is before_it =
    let at : before - 1 + 1 ≡ before = omega (arith, lt) in
    before_it ∙ sym (nearest_later dir token rdns (before - 1) (omega (arith, lt, le)) is
    ∙ ap (λ (n : ℕ). nearest dir token (drop n rdns)) at)

pub either_within : (is : Bool) (a b most : ℕ) → a ≤ most → b ≤ most → (if is then a else b) ≤ most
either_within true a b most la lb = la
either_within false a b most la lb = lb
