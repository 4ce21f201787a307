-- Who is told yes to a question on each object of a directory, as a set and a sign.
use Rattle.std.specs.Prelude.{◌≡◌, ◌⊎◌, ℕ, ◌+◌, Bool, not, if◌then◌else◌, Option, None, Some, List, [], ◌∷◌, filter, map}
use Rattle.std.specs.List.{list_any, list_all}
use Rattle.std.specs.Option.{option_map}
use Rattle.ad_ids.specs.declared.token.Token.{Token}
use Rattle.ad_dir_model.specs.Objects.{numbers}
use Rattle.ad_dir_model.specs.Changes.{goes_with}
use Rattle.ad_dir_model.specs.Directory.{Directory}
use Rattle.ad_identities.specs.declared.identity.Identity.{Identity}
use Rattle.ad_identities.specs.Identities.{IsIdentityToken, HasTooManyIn, is_of}
use Rattle.ad_needs_rules.specs.Needs.{Alternative}
use Rattle.ad_questions.specs.declared.question.Question.{Question}
use Rattle.ad_questions.specs.Requirements.{requirements, are_met, is_allowed}
use Rattle.ad_rights_judged.specs.Judged.{is_granted_apart}
use Rattle.ad_sets.specs.Told.{RowValue}
use Rattle.ad_sets.specs.Sets.{is_nobody}
use Rattle.ad_sets.specs.Rows.{row_of}

-- ---- who there is

-- Each of these identities has a token, or too many groups for one, in their order: who has one, the tokens, and who
-- has none.
abbrev pub AreParties : Directory → List Identity → List Identity → List Token → List Identity → Type 0
AreParties dir [] parties tokens without = (parties ≡ []) × ((tokens ≡ []) × (without ≡ []))
AreParties dir (identity ∷ others) parties tokens without =
    ((token : Token) × (rest : List Identity) × (left : List Token) × IsIdentityToken dir identity token
    × (parties ≡ identity ∷ rest) × (tokens ≡ token ∷ left) × AreParties dir others rest left without)
    ⊎ ((rest : List Identity) × HasTooManyIn dir identity × (without ≡ identity ∷ rest)
    × AreParties dir others parties tokens rest)

-- ---- an object

-- what a question asks for is met, if no object had an identifier
abbrev pub is_met_apart : Directory → Token → List Alternative → Bool
is_met_apart dir token requirement = list_any (λ a. is_granted_apart dir token a.object a.path a.bit) requirement

abbrev pub are_met_apart : Directory → Token → List (List Alternative) → Bool
are_met_apart dir token needed = list_all (is_met_apart dir token) needed

-- who would meet what is needed if no object had an identifier, and who does
abbrev pub base_of : Directory → List Token → List (List Alternative) → List Bool
base_of dir tokens needed = map (λ token. are_met_apart dir token needed) tokens

abbrev pub whole_of : Directory → List Token → List (List Alternative) → List Bool
whole_of dir tokens needed = map (λ token. are_met dir token needed) tokens

-- who would be told yes to a question if no object had an identifier, and who is
unfoldable pub base_at : Directory → List Token → Question → ℕ → List Bool
base_at dir tokens question number = map (λ token. are_met_apart dir token (requirements dir question number)) tokens

unfoldable pub whole_at : Directory → List Token → Question → ℕ → List Bool
whole_at dir tokens question number = map (λ token. is_allowed dir token question number) tokens

-- the place of the object itself among who has a token
unfoldable pub own_at : List Identity → ℕ → Option ℕ
own_at [] number = None
own_at (identity ∷ others) number = if is_of number identity then Some 0
    else option_map (λ (n : ℕ). n + 1) (own_at others number)

-- an object is told by the set of the others, with a sign for itself, where that tells its own set
abbrev pub row_at : Directory → List Identity → List Token → Question → ℕ → RowValue
row_at dir parties tokens question number =
    row_of number (own_at parties number) (base_at dir tokens question number) (whole_at dir tokens question number)

abbrev pub is_told : Directory → List Token → Question → ℕ → Bool
is_told dir tokens question number = not (is_nobody (whole_at dir tokens question number))

-- the objects on which anybody is told yes
abbrev pub rows_of : Directory → List Identity → List Token → Question → List ℕ → List RowValue
rows_of dir parties tokens question all =
    map (row_at dir parties tokens question) (filter (is_told dir tokens question) all)

-- those at and below a base, by rising numbers
abbrev pub rows_below : Directory → List Identity → List Token → Question → ℕ → List RowValue
rows_below dir parties tokens question base =
    rows_of dir parties tokens question (filter (goes_with dir base) (numbers dir.objects))
