-- Whose rights can be asked for: each principal, and each identifier that counts without one.
use Rattle.std.specs.Prelude.{◌≡◌, ℕ, Bool, true, false, not, ◌==◌, ◌&&◌, ◌||◌, Option, Some, None, List, [], ◌∷◌, ◌++◌, map}
use Rattle.std.specs.Prelude.{filter_map}
use Rattle.std.specs.List.{list_any}
use Rattle.std.specs.Option.{option_map, option_map_or}
use Rattle.ad_ids.specs.SidValue.{SidValue, same_sid, contains_sid}
use Rattle.ad_ids.specs.WellKnown.{everyone, authenticated_users}
use Rattle.ad_ids.specs.declared.token.Token.{Token}
use Rattle.ad_acl.specs.Entry.{Entry}
use Rattle.ad_acl.specs.declared.kind.AceKind.{AceKind}
use Rattle.ad_acl.specs.declared.kind.AceKind.TheVariants.{Allow, Deny, Audit}
use Rattle.ad_sd.specs.declared.parts.Sd.{Sd}
use Rattle.ad_dir_model.specs.Objects.{sd_at, numbers}
use Rattle.ad_dir_model.specs.Identity.{self_sid, with_sid}
use Rattle.ad_dir_model.specs.Directory.{Directory}
use Rattle.ad_principals.specs.Groups.{is_principal, principals, anonymous, first_with}
use Rattle.ad_principals.specs.Tokens.{token_version, SidsRise, IsTokenFrom, IsTokenOf, HasTooManyFrom, HasTooManyGroups}
use Rattle.ad_principals.specs.declared.fault.TokenFault.{TokenFault}
use Rattle.ad_principals.specs.declared.fault.TokenFault.TheVariants as fault
use Rattle.ad_identities.specs.declared.identity.Identity.{Identity}

-- ---- identifiers without a principal

abbrev pub well_known : ℕ → ℕ → SidValue
well_known authority number = record { authority = authority; sub_authorities = number ∷ [] }

-- Creator Owner, Creator Group, Owner Rights and Principal Self: each represents somebody else
abbrev pub placeholders : List SidValue
placeholders = well_known 3 0 ∷ well_known 3 1 ∷ well_known 3 4 ∷ well_known 5 10 ∷ []

-- who hasn't bound, what everybody has, and what each account has
abbrev pub always : List SidValue
always = anonymous ∷ everyone ∷ authenticated_users ∷ []

abbrev pub allows_or_denies : AceKind → Bool
allows_or_denies Allow = true
allows_or_denies Deny = true
allows_or_denies Audit = false

-- an entry that allows or denies has the identifier
abbrev pub is_for : SidValue → Entry → Bool
is_for sid entry = allows_or_denies entry.kind && same_sid entry.sid sid

-- the identifier is the owner, or stands in such an entry
unfoldable pub is_told_in : Sd → SidValue → Bool
is_told_in sd sid = same_sid sd.owner sid || list_any (is_for sid) sd.dacl.entries

-- in the descriptor of a live object
abbrev pub is_told : Directory → SidValue → Bool
is_told dir sid = list_any (λ number. is_told_in (sd_at dir.objects number) sid) (numbers dir.objects)

abbrev pub has_principal : Directory → SidValue → Bool
has_principal dir sid = option_map_or (is_principal dir) (with_sid dir sid) false

-- One of the three, or one that a descriptor tells and that represents nobody else; and it is no principal's.
unfoldable pub is_without_principal : Directory → SidValue → Bool
is_without_principal dir sid =
    (contains_sid always sid || is_told dir sid)
    && (not (contains_sid placeholders sid) && not (has_principal dir sid))

-- ---- identities

-- that of an object, if it has an identifier
abbrev pub identity_at : Directory → ℕ → Option Identity
identity_at dir number = option_map (λ sid. record { sid = sid; number = Some number }) (self_sid dir number)

abbrev pub lone : SidValue → Identity
lone sid = record { sid = sid; number = None }

abbrev pub IsIdentityBy : Directory → SidValue → Option ℕ → Type 0
IsIdentityBy dir sid (Some number) = (is_principal dir number ≡ true) × (self_sid dir number ≡ Some sid)
IsIdentityBy dir sid None = is_without_principal dir sid ≡ true

-- a principal with its number, or an identifier without one
abbrev pub IsIdentity : Directory → Identity → Type 0
IsIdentity dir identity = IsIdentityBy dir identity.sid identity.number

-- All: first the principals by rising number, then the others in rising order of their bytes, each once.
pub record AreIdentities (dir : Directory) (all : List Identity) : Type 0 where
  pub others : List SidValue
  pub rise : SidsRise others
  pub each : (sid : SidValue) → contains_sid others sid ≡ is_without_principal dir sid
  pub are : all ≡ filter_map (identity_at dir) (principals dir) ++ map lone others

-- the identity is that of the object of this number
abbrev pub is_of : ℕ → Identity → Bool
is_of number identity = option_map_or (λ own. own == number) identity.number false

-- ---- the token of an identity

-- that of a connection without one
abbrev pub anonymous_token : Token
anonymous_token = record {
  version = token_version;
  privileges = 0;
  user = anonymous;
  owner = anonymous;
  primary = everyone;
  groups = everyone ∷ [];
  deny_only = [];
  restricting = [];
}

-- Everyone, and Authenticated Users but for Everyone itself
abbrev pub first_alone : SidValue → List SidValue
first_alone sid = first_with (same_sid sid everyone) []

abbrev pub IsTokenAlone : Bool → Directory → SidValue → Token → Type 0
IsTokenAlone true dir sid token = token ≡ anonymous_token
IsTokenAlone false dir sid token = IsTokenFrom dir (Some sid) everyone (first_alone sid) token

-- of S-1-5-7 that of a connection without one, and of others what these bring
abbrev pub IsTokenBy : Directory → SidValue → Option ℕ → Token → Type 0
IsTokenBy dir sid (Some number) token = IsTokenOf dir number [] token
IsTokenBy dir sid None token = IsTokenAlone (same_sid sid anonymous) dir sid token

abbrev pub IsIdentityToken : Directory → Identity → Token → Type 0
IsIdentityToken dir identity token = IsTokenBy dir identity.sid identity.number token

-- ---- where there is none

abbrev pub HasTooManyAlone : Bool → Directory → SidValue → Type 0
HasTooManyAlone true dir sid = ⊥
HasTooManyAlone false dir sid = HasTooManyFrom dir (Some sid) (first_alone sid)

abbrev pub HasTooManyBy : Directory → SidValue → Option ℕ → Type 0
HasTooManyBy dir sid (Some number) = HasTooManyGroups dir number []
HasTooManyBy dir sid None = HasTooManyAlone (same_sid sid anonymous) dir sid

abbrev pub HasTooManyIn : Directory → Identity → Type 0
HasTooManyIn dir identity = HasTooManyBy dir identity.sid identity.number

-- it is never that there is no identifier
abbrev pub IsFaultBy : Directory → SidValue → Option ℕ → TokenFault → Type 0
IsFaultBy dir sid number fault.NoSid = ⊥
IsFaultBy dir sid number fault.TooMany = HasTooManyBy dir sid number
IsFaultBy dir sid number fault.Memory = Unit {0}

abbrev pub IsIdentityFault : Directory → Identity → TokenFault → Type 0
IsIdentityFault dir identity fault = IsFaultBy dir identity.sid identity.number fault
