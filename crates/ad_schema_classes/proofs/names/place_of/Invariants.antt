use Rattle.std.proofs.Common.{◌≡◌, drop}
use Rattle.std.specs.Prelude.{find}
use Rattle.ad_schema_classes.specs.Hashes.{hash_of, bucket, place_by, is_at}
use Rattle.ad_schema_classes.proofs.names.place_of.Given as goal

abbrev pub invariant-loop-n : goal.invariant-loop-n
invariant-loop-n l = find (is_at l.case l.names l.name) (drop l.n (bucket (hash_of l.name) 0 l.names))
    ≡ place_by l.case l.names l.name
