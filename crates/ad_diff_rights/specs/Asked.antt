-- Only for private contracts, invariants and proofs: what is asked of a token and an object.
use Rattle.std.specs.Prelude.{◌≡◌, ℕ, Bool, true, List}
use Rattle.ad_ids.specs.declared.guid.Guid.{Guid}
use Rattle.ad_dir_model.specs.Objects.{is_live}
use Rattle.ad_diff_rights.specs.declared.asked.Asked.{Asked}
use Rattle.ad_diff_rights.specs.Own.{grants_in}

-- the object is live
abbrev pub IsLiveAsked : Asked → Type 0
IsLiveAsked asked = is_live asked.dir.now.objects asked.number ≡ true

-- what is granted on which path
abbrev pub grants_of : Asked → List Guid → ℕ → Bool
grants_of asked = grants_in asked.dir.now asked.token.now asked.own asked.number
