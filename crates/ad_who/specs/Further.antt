-- The token of an identity with further identifiers.
use Rattle.std.specs.Prelude.{◌≡◌, ℕ, ◌||◌, Option, Some, None, List, [], ◌∷◌}
use Rattle.ad_ids.specs.SidValue.{SidValue, same_sid}
use Rattle.ad_ids.specs.WellKnown.{everyone}
use Rattle.ad_ids.specs.declared.token.Token.{Token}
use Rattle.ad_dir_model.specs.Directory.{Directory}
use Rattle.ad_principals.specs.Groups.{anonymous, first_with}
use Rattle.ad_principals.specs.Tokens.{IsTokenFrom, IsTokenOf, HasTooManyFrom, HasTooManyGroups}
use Rattle.ad_identities.specs.declared.identity.Identity.{Identity}
use Rattle.ad_identities.specs.Identities.{lone, IsIdentityToken, HasTooManyIn}

-- Everyone, Authenticated Users but for Everyone and who hasn't bound, and the further ones
abbrev pub first_further : SidValue → List SidValue → List SidValue
first_further sid sids = first_with (same_sid sid everyone || same_sid sid anonymous) sids

-- of an identifier without a principal: its own token, and with further ones what all of them bring
abbrev pub IsLoneToken : Directory → SidValue → List SidValue → Token → Type 0
IsLoneToken dir sid [] token = IsIdentityToken dir (lone sid) token
IsLoneToken dir sid (s ∷ sids) token = IsTokenFrom dir (Some sid) everyone (first_further sid (s ∷ sids)) token

abbrev pub HasTooManyLone : Directory → SidValue → List SidValue → Type 0
HasTooManyLone dir sid [] = HasTooManyIn dir (lone sid)
HasTooManyLone dir sid (s ∷ sids) = HasTooManyFrom dir (Some sid) (first_further sid (s ∷ sids))

-- of a principal that of its object
abbrev pub IsTokenWith : Directory → SidValue → Option ℕ → List SidValue → Token → Type 0
IsTokenWith dir sid None sids token = IsLoneToken dir sid sids token
IsTokenWith dir sid (Some number) sids token = IsTokenOf dir number sids token

abbrev pub HasTooManyWith : Directory → SidValue → Option ℕ → List SidValue → Type 0
HasTooManyWith dir sid None sids = HasTooManyLone dir sid sids
HasTooManyWith dir sid (Some number) sids = HasTooManyGroups dir number sids

-- of what a name represents
pub record IsTokenFound (dir : Directory) (found : Option Identity) (sids : List SidValue) (token : Token) : Type 0 where
  pub identity : Identity
  pub is : found ≡ Some identity
  pub has : IsTokenWith dir identity.sid identity.number sids token
