use Rattle.std.proofs.Common.{◌≡◌, ◌∷◌, drop}
use Rattle.ad_schema_defaults.proofs.Naming.{ids}
use Rattle.ad_schema_defaults.proofs.OnePass.{found}
use Rattle.ad_schema_defaults.proofs.class.candidate.Given as goal

-- none so far but the one that is left may have all in its chain
abbrev pub invariant-loop-one : goal.invariant-loop-one
invariant-loop-one l = found l.schema (ids l.classes) (l.class.0 ∷ ids (drop l.one-index l.classes))
    ≡ found l.schema (ids l.classes) (ids l.classes)
