-- Facts tell of live objects alone.
use Rattle.std.proofs.Common.{◌≡◌, ℕ, ◌+◌, Bool, true, false, Option, Some, None, List, [], ◌∷◌, ◌++◌, length, map}
use Rattle.std.specs.List.{All, AllByRecursion}
use Rattle.std.specs.Option.{option_map_or}
use Rattle.std.proofs.lemmas.List.Elements.{All-map, All-filter, recursion_from_All, All-from_recursion}
use Rattle.ad_ids.specs.declared.token.Token.{Token}
use Rattle.ad_dir_model.specs.Objects.{is_live}
use Rattle.ad_dir_model.specs.Directory.{Directory}
use Rattle.ad_identities.specs.declared.identity.Identity.{Identity}
use Rattle.ad_questions.specs.declared.question.Question.{Question}
use Rattle.ad_sets.specs.declared.told.Fact.{Fact}
use Rattle.ad_sets.specs.declared.told.Fact.TheVariants.{In, On}
use Rattle.ad_sets.specs.Told.{RowValue, place_in, members_from, facts_from, row_facts}
use Rattle.ad_rights_rows.specs.Rows.{row_at, rows_of, is_told}
use Rattle.ad_rights_dir.specs.Kept.{IsOfLive}

module _ (dir : Directory) where
  abbrev are_live : List Fact → Type 0
  are_live facts = AllByRecursion (IsOfLive dir) facts

  members_live : (set : List Bool) (number place : ℕ) (facts : List Fact) → are_live facts
      → are_live (members_from number place set ++ facts)
  unfolding members_from
  members_live [] number place facts live = live
  members_live (true ∷ set) number place facts live = (tt, members_live set number (place + 1) facts live)
  members_live (false ∷ set) number place facts live = members_live set number (place + 1) facts live

  step : (told : List (List Bool)) (row : RowValue) (rows : List RowValue) (found : Option ℕ)
      → is_live dir.objects row.object ≡ true → are_live (facts_from told rows)
      → are_live (facts_from (told ++ row.set ∷ []) rows)
      → are_live (option_map_or (λ (place : ℕ). On (place + 1) row.sign row.object ∷ facts_from told rows) found
      (members_from (length told + 1) 0 row.set
      ++ On (length told + 1) row.sign row.object ∷ facts_from (told ++ row.set ∷ []) rows))
  step told row rows None live old new =
      members_live row.set (length told + 1) 0
      (On (length told + 1) row.sign row.object ∷ facts_from (told ++ row.set ∷ []) rows) (live, new)
  step told row rows (Some place) live old new = (live, old)

  from_live : (rows : List RowValue) (told : List (List Bool))
      → AllByRecursion (λ (row : RowValue). is_live dir.objects row.object ≡ true) rows
      → are_live (facts_from told rows)
  unfolding facts_from
  from_live [] told live = tt
  from_live (row ∷ rows) told live =
      step told row rows (place_in told row.set) live.0 (from_live rows told live.1)
      (from_live rows (told ++ row.set ∷ []) live.1)

  pub facts_live : (rows : List RowValue)
      → AllByRecursion (λ (row : RowValue). is_live dir.objects row.object ≡ true) rows
      → All (IsOfLive dir) (row_facts rows)
  facts_live rows live = All-from_recursion (IsOfLive dir) (row_facts rows) (from_live rows [] live)

  pub rows_live : (members : List Identity) (tokens : List Token) (question : Question) (all : List ℕ)
      → All (λ (number : ℕ). is_live dir.objects number ≡ true) all
      → AllByRecursion (λ (row : RowValue). is_live dir.objects row.object ≡ true)
      (rows_of dir members tokens question all)
  rows_live members tokens question all live =
      recursion_from_All (λ (row : RowValue). is_live dir.objects row.object ≡ true)
      (rows_of dir members tokens question all)
      (All-map (λ (row : RowValue). is_live dir.objects row.object ≡ true) (row_at dir members tokens question)
      _ (All-filter (is_told dir tokens question) (λ (number : ℕ). is_live dir.objects number ≡ true) all live))
