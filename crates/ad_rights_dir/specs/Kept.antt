-- Only for private contracts, invariants and proofs: of which objects facts tell.
use Rattle.std.specs.Prelude.{◌≡◌, true}
use Rattle.ad_dir_model.specs.Objects.{is_live}
use Rattle.ad_dir_model.specs.Directory.{Directory}
use Rattle.ad_sets.specs.declared.told.Fact.{Fact}
use Rattle.ad_sets.specs.declared.told.Fact.TheVariants.{In, On}

-- an object of which a fact tells is live
abbrev pub IsOfLive : Directory → Fact → Type 0
IsOfLive dir (In number place) = Unit {0}
IsOfLive dir (On number sign object) = is_live dir.objects object ≡ true
