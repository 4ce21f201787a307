-- A deletion whose checks hold keeps a directory sound.
use Rattle.std.proofs.Common.{◌≡◌, ℕ, Bool, List, None}
use Rattle.ad_ids.specs.declared.token.Token.{Token}
use Rattle.ad_dir_model.specs.Directory.{Directory}
use Rattle.ad_dir_model.specs.Changes.{deleted}
use Rattle.ad_dir_model.specs.Soundness.{IsSound}
use Rattle.ad_dir_model.proofs.Deleting.{deleted_sound}
use Rattle.ad_needs_rules.specs.Checks.{first_failing}
use Rattle.ad_needs_rules.specs.Requests.{number_named}
use Rattle.ad_needs_rules.specs.Deleting.{delete_checks}
use Rattle.ad_change.proofs.Resolved.{deletion_of}

pub delete_is_sound : (dir : Directory) (token : Token) (dn : List ℕ) (below : Bool) → IsSound dir
    → first_failing (delete_checks dir token dn below) ≡ None
    → IsSound (deleted dir (number_named dir token dn))
delete_is_sound dir token dn below sound none = deleted_sound dir (number_named dir token dn) sound
    (deletion_of dir token dn below sound none).below
