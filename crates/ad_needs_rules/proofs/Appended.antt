-- The pieces of an alternative's text.
use Rattle.std.proofs.Common.{◌≡◌, ℕ, List, ◌++◌, Option, refl}
use Rattle.std.specs.Prelude.{codes}
use Rattle.ad_ids.specs.declared.guid.Guid.{Guid}
use Rattle.ad_dir_model.specs.Directory.{Directory}
use Rattle.ad_dir_model.specs.Names.{name_text}
use Rattle.ad_needs_rules.specs.declared.need.Want.{Want}
use Rattle.ad_needs_rules.specs.Needs.{want_text}
use Rattle.ad_ids.specs.GuidText.{guid_or_hyphen}
use Rattle.ad_acl.specs.Codes.{letters_of}

-- the pieces of an alternative's text
pub want_pieces : (dir : Directory) (want : Want) (code : List ℕ) (guid : Option Guid) → code ≡ letters_of want.right
    → guid ≡ want.guid
    → code ++ (codes " " ++ (guid_or_hyphen guid ++ (codes " at " ++ name_text dir want.object))) ≡ want_text dir want
unfolding want_text
want_pieces dir want code guid e f = rw (e, f) refl
