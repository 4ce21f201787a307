-- What an operation tries of its requirements: them in order, up to the first that is missing.
use Rattle.std.specs.Prelude.{◌^◌, Option, find, List, [], ◌∷◌}
use Rattle.std.specs.Option.{option_map_or}
use Rattle.ad_ids.specs.declared.token.Token.{Token}
use Rattle.ad_dir_model.specs.Directory.{Directory}
use Rattle.ad_access_dir.specs.Sight.{is_granted}
use Rattle.ad_types.specs.Tried.{TriedValue, success_on, failure_on}
use Rattle.ad_needs_rules.specs.Needs.{Alternative}

-- the first of the alternatives that is granted
abbrev pub first_granted : Directory → Token → List Alternative → Option Alternative
first_granted dir token requirement = find (λ a. is_granted dir token a.object a.path a.bit) requirement

abbrev pub success_of : Alternative → TriedValue
success_of a = success_on a.object (2 ^ a.bit) a.path

-- Of a requirement that is missing the first alternative is told. Each has one.
abbrev pub failure_of : List Alternative → List TriedValue
failure_of [] = []
failure_of (a ∷ others) = failure_on a.object (2 ^ a.bit) a.path ∷ []

-- Of a requirement that is met the first alternative that is granted was tried, and the next requirement follows.
-- One that is missing is the last.
unfoldable pub tries : Directory → Token → List (List Alternative) → List TriedValue
tries dir token [] = []
tries dir token (requirement ∷ others) =
    option_map_or (λ a. success_of a ∷ tries dir token others) (first_granted dir token requirement)
    (failure_of requirement)
