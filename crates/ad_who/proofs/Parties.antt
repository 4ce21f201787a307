-- What follows of an identity: its object is live, its token has no restricting identifiers, and a name has one.
use Rattle.std.proofs.Common.{◌≡◌, ℕ, Bool, true, false, List, [], Option, Some, None, Result, Ok, Err, refl, ap, subst}
use Rattle.std.specs.Prelude.{if◌then◌else◌, IfSome}
use Rattle.std.specs.Option.{option_map, option_map_or}
use Rattle.std.proofs.lemmas.Option.{none-some, same_Some}
use Rattle.ad_ids.specs.SidValue.{SidValue, same_sid}
use Rattle.ad_ids.specs.SidFront.{sid_of_text}
use Rattle.ad_ids.specs.declared.token.Token.{Token}
use Rattle.ad_dir_model.specs.Directory.{Directory}
use Rattle.ad_dir_model.specs.Identity.{self_sid, with_sid}
use Rattle.ad_principals.specs.Groups.{is_principal, anonymous}
use Rattle.ad_principals.specs.Named.{named, or_no_object}
use Rattle.ad_principals.specs.declared.fault.NameFault.{NameFault}
use Rattle.ad_principals.proofs.Identified.{principal_live}
use Rattle.ad_identities.specs.declared.identity.Identity.{Identity}
use Rattle.ad_identities.specs.Identities.{is_without_principal, identity_at, lone, IsIdentityBy, IsIdentity}
use Rattle.ad_identities.specs.Identities.{IsTokenAlone, IsTokenBy}
use Rattle.ad_identities.specs.Named.{object_identity, sid_identity, identity_named}
use Rattle.ad_who.specs.Faults.{IsLiveIf}

pub live_if : (dir : Directory) (sid : SidValue) (number : Option ℕ) → IsIdentityBy dir sid number → IsLiveIf dir number
live_if dir sid None is = tt
live_if dir sid (Some number) is = principal_live dir number is.0

alone_by : (by : Bool) (dir : Directory) (sid : SidValue) (token : Token) → IsTokenAlone by dir sid token
    → token.restricting ≡ []
alone_by true dir sid token is = ap (λ (t : Token). t.restricting) is
alone_by false dir sid token is = is.restricting

pub token_alone : (dir : Directory) (sid : SidValue) (number : Option ℕ) (token : Token) → IsTokenBy dir sid number token
    → token.restricting ≡ []
token_alone dir sid (Some number) token is = is.restricting
token_alone dir sid None token is = alone_by (same_sid sid anonymous) dir sid token is

-- ---- the identity of a name

same_ok : {x y : Option Identity} → ◌≡◌ {A = Result (Option Identity) NameFault} (Ok x) (Ok y) → x ≡ y
same_ok e = cc

at_is : (dir : Directory) (number : ℕ) (sid : Option SidValue) (identity : Identity) → is_principal dir number ≡ true
    → self_sid dir number ≡ sid
    → option_map (λ (s : SidValue). record { sid = s; number = Some number }) sid ≡ Some identity
    → IsIdentity dir identity
at_is dir number None identity principal there is = absurd (none-some identity is)
at_is dir number (Some sid) identity principal there is =
    subst (λ (i : Identity). IsIdentity dir i) (same_Some (record { sid = sid; number = Some number }) identity is)
    (principal, there)

object_is : (dir : Directory) (found : Result ℕ NameFault) (identity : Identity)
    → object_identity dir found ≡ Ok (Some identity) → IsIdentity dir identity
object_is dir (Ok number) identity is = by (is_principal dir number) refl (same_ok is)
  where
    by : (b : Bool) → is_principal dir number ≡ b → (if b then identity_at dir number else None) ≡ Some identity
        → IsIdentity dir identity
    by true e some = at_is dir number (self_sid dir number) identity e refl some
    by false e some = absurd (none-some identity some)
object_is dir (Err cause) identity is = absurd cc

pub named_is : (dir : Directory) (text : List ℕ) (identity : Identity)
    → identity_named dir text ≡ Ok (Some identity) → IsIdentity dir identity
unfolding identity_named
named_is dir text identity is = by (sid_of_text text) is
  where
    of_sid : (sid : SidValue) (b : Bool) → is_without_principal dir sid ≡ b
        → (if b then Ok (Some (lone sid)) else object_identity dir (or_no_object (with_sid dir sid)))
        ≡ Ok (Some identity)
        → IsIdentity dir identity
    of_sid sid true e some = subst (λ (i : Identity). IsIdentity dir i)
        (same_Some (lone sid) identity (same_ok some)) e
    of_sid sid false e some = object_is dir (or_no_object (with_sid dir sid)) identity some

    by : (found : Option SidValue)
        → option_map_or (sid_identity dir) found (object_identity dir (named dir text)) ≡ Ok (Some identity)
        → IsIdentity dir identity
    by (Some sid) some = of_sid sid (is_without_principal dir sid) refl some
    by None some = object_is dir (named dir text) identity some

pub found_is : (dir : Directory) (text : List ℕ) (found : Option Identity) → identity_named dir text ≡ Ok found
    → IfSome found (IsIdentity dir)
found_is dir text None is = tt
found_is dir text (Some identity) is = named_is dir text identity is
