-- What an object has to show for a filter to be true of it, and the next object that shows it.
use Rattle.std.specs.Prelude.{◌≡◌, ◌⊎◌, ℕ, ◌<◌, true, Option, List, [], ◌∷◌, IfSome}
use Rattle.std.specs.List.{AllByRecursion}
use Rattle.ad_ids.specs.declared.token.Token.{Token}
use Rattle.ad_schema.specs.declared.info.AttrId.{AttrId}
use Rattle.ad_ldap.specs.FilterValue.{FilterValue}
use Rattle.ad_filter.specs.ThreeValues.{is_true}
use Rattle.ad_filter.specs.Filtering.{truth}
use Rattle.ad_dir_model.specs.Objects.{is_live}
use Rattle.ad_dir_model.specs.Shown.{shown}
use Rattle.ad_dir_model.specs.Directory.{Directory}
use Rattle.ad_entries.specs.Seen.{reads, seen_of}
use Rattle.ad_search.specs.declared.index_plan.Leaf.{Leaf}
use Rattle.ad_search.specs.declared.index_plan.IndexPlan.{IndexPlan, One, Present, AnyOf', AllOf', Row_of-IndexPlan, end_of-IndexPlan}
use Rattle.ad_search.specs.declared.index_plan.IndexPlan.{more_of-IndexPlan}
use Rattle.ad_search.specs.Needles.{has_key, IsPlain}
use Rattle.ad_search.specs.Indexed.{IsQueryFor, IsBefore}

-- The object shows a value of the key. What is sought by an index, if anything, is that.
pub record Shows (dir : Directory) (number : ℕ) (leaf : Leaf) : Type 0 where
  pub plain : IsPlain dir.schema leaf.needle.attr.0
  pub query_for : IfSome leaf.query (IsQueryFor dir.schema leaf.needle)
  pub value : has_key leaf.needle.value.key (shown dir number leaf.needle.attr.0) ≡ true

-- The object shows some value.
pub record ShowsSome (dir : Directory) (number : ℕ) (attr : AttrId) : Type 0 where
  pub plain : IsPlain dir.schema attr.0
  pub some : shown dir number attr.0 ≡ [] → ⊥

module _ (dir : Directory) (number : ℕ) where
  abbrev mutual
    -- The object shows what is needed.
    pub IsMet : IndexPlan → Type 0
    IsMet (One leaf) = Shows dir number leaf
    IsMet (Present attr) = ShowsSome dir number attr
    IsMet (AnyOf' shape row) = HasMetIn row
    IsMet (AllOf' shape row) = AreMetIn row

    pub HasMetIn : {m : _} → Row_of-IndexPlan m → Type 0
    HasMetIn end_of-IndexPlan = ⊥
    HasMetIn (more_of-IndexPlan plan rest) = IsMet plan ⊎ HasMetIn rest

    pub AreMetIn : {m : _} → Row_of-IndexPlan m → Type 0
    AreMetIn end_of-IndexPlan = Unit {0}
    AreMetIn (more_of-IndexPlan plan rest) = IsMet plan × AreMetIn rest

-- it shows what one of these is, and what each is
abbrev pub HasMet : Directory → ℕ → List IndexPlan → Type 0
HasMet dir number [] = ⊥
HasMet dir number (plan ∷ plans) = IsMet dir number plan ⊎ HasMet dir number plans

abbrev pub AreMet : Directory → ℕ → List IndexPlan → Type 0
AreMet dir number plans = AllByRecursion (IsMet dir number) plans

-- Whoever asks, the filter is true only of objects that show what is needed.
abbrev pub IsNeededBy : Directory → FilterValue → IndexPlan → Type 0
IsNeededBy dir f plan = (token : Token) (number : ℕ)
    → is_true (truth (reads dir.schema (seen_of dir token number)) f) ≡ true → IsMet dir number plan

-- A number above this one, such that no live object between them meets the condition.
pub record IsNextOf (dir : Directory) (Meets : ℕ → Type 0) (above : ℕ) (result : Option ℕ) : Type 0 where
  pub is_above : IfSome result (λ next. above < next)
  pub none : (number : ℕ) → is_live dir.objects number ≡ true → above < number → IsBefore number result
      → Meets number → ⊥
