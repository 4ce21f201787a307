use Rattle.std.proofs.Common.{◌≡◌, map, length}
use Rattle.ad_ldif.specs.Story.{untold}
use Rattle.ad_load_records.specs.Pieces.{read_on}
use Rattle.ad_load_records.specs.Prefixed.{prefixed}
use Rattle.ad_load_records.specs.Records.{all_of}
use Rattle.ad_load_records.specs.Seen.{seen}
use Rattle.ad_load_records.proofs.records.read_all.Given as goal

-- the records so far, and those that are still to come
abbrev pub invariant-records : goal.invariant-records
invariant-records l = read_on (map seen l.fn.records.items) l.line l.text ≡ prefixed (map seen l.records.items)
    (all_of (untold l.reader))

abbrev pub decreases-records : goal.decreases-records
decreases-records l = length (untold l.reader).records
