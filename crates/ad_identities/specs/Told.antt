-- How the identifiers that count without a principal are found.
use Rattle.std.specs.Prelude.{◌≡◌, Bool, not, ◌&&◌, ◌||◌, List}
use Rattle.ad_ids.specs.SidValue.{SidValue, contains_sid}
use Rattle.ad_dir_model.specs.Directory.{Directory}
use Rattle.ad_identities.specs.Identities.{placeholders, has_principal}

-- those of which the test holds were put to a set
abbrev pub Adds : (SidValue → Bool) → List SidValue → List SidValue → Type 0
Adds test old new = (sid : SidValue) → contains_sid new sid ≡ (contains_sid old sid || test sid)

-- it represents nobody else, and is no principal's
abbrev pub may_stand : Directory → SidValue → Bool
may_stand dir sid = not (contains_sid placeholders sid) && not (has_principal dir sid)
