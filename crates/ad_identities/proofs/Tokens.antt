-- An identity has one token at most, and none where it has too many groups.
use Rattle.std.proofs.Common.{◌≡◌, ℕ, Bool, true, false, [], Option, Some, None, refl, sym, ◌∙◌}
use Rattle.ad_ids.specs.SidValue.{SidValue, same_sid}
use Rattle.ad_ids.specs.WellKnown.{everyone}
use Rattle.ad_ids.specs.declared.token.Token.{Token}
use Rattle.ad_dir_model.specs.Directory.{Directory}
use Rattle.ad_principals.specs.Groups.{anonymous}
use Rattle.ad_principals.proofs.Remaining.{too_many, too_many_from}
use Rattle.ad_principals.proofs.TokenLaws.{same_from, same_token, same_directory}
use Rattle.ad_identities.specs.declared.identity.Identity.{Identity}
use Rattle.ad_identities.specs.Identities.{first_alone, IsTokenAlone, IsTokenBy, IsIdentityToken, HasTooManyAlone}
use Rattle.ad_identities.specs.Identities.{HasTooManyBy, HasTooManyIn}

alone_same : (is : Bool) (dir : Directory) (sid : SidValue) (a b : Token) → IsTokenAlone is dir sid a
    → IsTokenAlone is dir sid b → a ≡ b
alone_same true dir sid a b one other = one ∙ sym other
alone_same false dir sid a b one other =
    same_from dir dir (Some sid) everyone (first_alone sid) (first_alone sid) a b (same_directory dir)
    (same_directory dir) (λ s. refl) one other

token_same : (dir : Directory) (sid : SidValue) (number : Option ℕ) (a b : Token) → IsTokenBy dir sid number a
    → IsTokenBy dir sid number b → a ≡ b
token_same dir sid (Some n) a b one other =
    same_token dir dir n [] [] a b (same_directory dir) (same_directory dir) (λ s. refl) one other
token_same dir sid None a b one other = alone_same (same_sid sid anonymous) dir sid a b one other

pub one_token : (dir : Directory) (identity : Identity) (a b : Token) → IsIdentityToken dir identity a
    → IsIdentityToken dir identity b → a ≡ b
one_token dir identity = token_same dir identity.sid identity.number

alone_many : (is : Bool) (dir : Directory) (sid : SidValue) (t : Token) → HasTooManyAlone is dir sid
    → IsTokenAlone is dir sid t → ⊥
alone_many true dir sid t many is = many
alone_many false dir sid t many is = too_many_from dir (Some sid) everyone (first_alone sid) t many is

token_many : (dir : Directory) (sid : SidValue) (number : Option ℕ) (t : Token) → HasTooManyBy dir sid number
    → IsTokenBy dir sid number t → ⊥
token_many dir sid (Some n) t many is = too_many dir n [] t many is
token_many dir sid None t many is = alone_many (same_sid sid anonymous) dir sid t many is

pub no_token : (dir : Directory) (identity : Identity) (t : Token) → HasTooManyIn dir identity
    → IsIdentityToken dir identity t → ⊥
no_token dir identity = token_many dir identity.sid identity.number
