-- One requirement after the other, and what is kept of what was tried.
use Rattle.std.specs.Prelude.{◌≡◌, if◌then◌else◌, Option, Some, None, option_map, List, ◌++◌}
use Rattle.ad_ids.specs.declared.token.Token.{Token}
use Rattle.ad_dir_model.specs.Directory.{Directory}
use Rattle.ad_types.specs.Tried.{TriedValue, tried_values}
use Rattle.ad_needs_rules.specs.declared.outcome.Verdict.{Verdict}
use Rattle.ad_needs_rules.specs.Needs.{Alternative}
use Rattle.ad_needs.specs.declared.trying.Trace.{Trace}
use Rattle.ad_needs.specs.Tries.{tries}

-- what was tried so far, where that is kept
abbrev pub kept : Trace → Option (List TriedValue)
kept trace = if trace.is_kept then Some (tried_values trace.tried.items) else None

-- the same after more was tried
abbrev pub and_then : Option (List TriedValue) → List TriedValue → Option (List TriedValue)
and_then before more = option_map (λ tried. tried ++ more) before

-- what is kept, with what is tried of these requirements where none before them is missing
abbrev pub goes_on : Directory → Token → Option Verdict → Option (List TriedValue) → List (List Alternative)
    → Option (List TriedValue)
goes_on dir token None tried others = and_then tried (tries dir token others)
goes_on dir token (Some refusal) tried others = tried

-- What is kept after these requirements, where there is this refusal or none, whatever follows.
abbrev pub Steps : Directory → Token → Trace → List (List Alternative) → Trace → Option Verdict → Type 0
Steps dir token before requirements after refusal =
    (others : List (List Alternative)) → goes_on dir token refusal (kept after) others ≡ and_then (kept before)
    (tries dir token (requirements ++ others))
