-- A requirement of which one right is the only alternative.
use Rattle.std.proofs.Common.{◌≡◌, ℕ, Bool, true, false, ◌||◌, List, [], ◌∷◌, refl}
use Rattle.ad_ids.specs.declared.guid.Guid.{Guid}
use Rattle.ad_ids.specs.declared.token.Token.{Token}
use Rattle.ad_dir_model.specs.Directory.{Directory}
use Rattle.ad_access_dir.specs.Sight.{is_granted}
use Rattle.ad_needs_rules.specs.Needs.{needs, is_met}

or_no : (b : Bool) → (b || false) ≡ b
or_no true = refl
or_no false = refl

pub one_right : (dir : Directory) (token : Token) (number bit : ℕ) (path : List Guid)
    → is_met dir token (needs number bit path ∷ []) ≡ is_granted dir token number path bit
unfolding is_met
one_right dir token number bit path = or_no (is_granted dir token number path bit)
