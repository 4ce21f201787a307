-- No question is both answered and refused.
use Rattle.std.proofs.Common.{◌≡◌, ◌∙◌, inl, inr, ℕ, false, List, [], ◌∷◌, Option, Some, None, Result, Ok, sym, subst}
use Rattle.std.proofs.lemmas.Option.{none-some, same_Some}
use Rattle.ad_ids.specs.SidValue.{SidValue}
use Rattle.ad_ids.specs.WellKnown.{everyone}
use Rattle.ad_ids.specs.declared.token.Token.{Token}
use Rattle.ad_dir_model.specs.Directory.{Directory}
use Rattle.ad_principals.specs.Named.{named}
use Rattle.ad_principals.specs.declared.fault.NameFault.{NameFault}
use Rattle.ad_principals.proofs.Remaining.{too_many_from, too_many}
use Rattle.ad_identities.specs.declared.identity.Identity.{Identity}
use Rattle.ad_identities.specs.Identities.{lone, IsIdentityToken}
use Rattle.ad_identities.specs.Named.{identity_named}
use Rattle.ad_identities.proofs.Tokens.{no_token}
use Rattle.ad_who.specs.declared.fault.AskFault.{AskFault}
use Rattle.ad_who.specs.declared.fault.AskFault.TheVariants.{NoObject, Several, NoPrincipal, NoIdentifier, NoRight}
use Rattle.ad_who.specs.declared.fault.AskFault.TheVariants.{TooMany, Memory}
use Rattle.ad_who.specs.Faults.{is_memory, IsNameFault, IsNoToken, IsNoIdentity}
use Rattle.ad_who.specs.Further.{first_further, IsLoneToken, HasTooManyLone, IsTokenWith, HasTooManyWith}
use Rattle.ad_who.specs.Answers.{base_named, IsTokenText, IsTokenRefusal, IsWhoText, IsWhoRefusal, IsCanText}
use Rattle.ad_who.specs.Answers.{IsCanRefusal}

-- ---- names and tokens

name_clash : {A : Type 0} (r : Result A NameFault) (number : A) (fault : AskFault) → r ≡ Ok number → IsNameFault r fault
    → is_memory fault ≡ false → ⊥
name_clash r number NoObject is none told = cc
name_clash r number Several is none told = cc
name_clash r number NoPrincipal is none told = none
name_clash r number NoIdentifier is none told = none
name_clash r number NoRight is none told = none
name_clash r number (TooMany other) is none told = none
name_clash r number Memory is none told = cc

same_number : (r : Result ℕ NameFault) (a b : ℕ) → r ≡ Ok a → r ≡ Ok b → a ≡ b
same_number r a b is_a is_b = cc

same_named : (r : Result (Option Identity) NameFault) (found : Option Identity) (identity : Identity) → r ≡ Ok found
    → r ≡ Ok (Some identity) → found ≡ Some identity
same_named r found identity is_a is_b = cc

-- an identity with too many groups has no token, with further identifiers either
lone_clash : (dir : Directory) (sid : SidValue) (sids : List SidValue) (token : Token) → HasTooManyLone dir sid sids
    → IsLoneToken dir sid sids token → ⊥
lone_clash dir sid [] token many is = no_token dir (lone sid) token many is
lone_clash dir sid (s ∷ sids) token many is = too_many_from dir (Some sid) everyone (first_further sid (s ∷ sids)) token
    many is

with_clash : (dir : Directory) (sid : SidValue) (number : Option ℕ) (sids : List SidValue) (token : Token)
    → HasTooManyWith dir sid number sids → IsTokenWith dir sid number sids token → ⊥
with_clash dir sid None sids token many is = lone_clash dir sid sids token many is
with_clash dir sid (Some number) sids token many is = too_many dir number sids token many is

token_clash : (dir : Directory) (identity : Identity) (sids : List SidValue) (token : Token) (found : Option Identity)
    (fault : AskFault) → found ≡ Some identity → IsTokenWith dir identity.sid identity.number sids token
    → IsNoToken dir found sids fault → is_memory fault ≡ false → ⊥
token_clash dir identity sids token found NoObject there is none told = none
token_clash dir identity sids token found Several there is none told = none
token_clash dir identity sids token found NoPrincipal there is none told = none-some identity (sym none ∙ there)
token_clash dir identity sids token found NoIdentifier there is none told = none
token_clash dir identity sids token found NoRight there is none told = none
token_clash dir identity sids token found (TooMany number) there is (other, same, at, many) told =
    with_clash dir other.sid other.number sids token many
    (subst (λ (i : Identity). IsTokenWith dir i.sid i.number sids token) (same_Some identity other (sym there ∙ same))
    is)
token_clash dir identity sids token found Memory there is none told = cc

identity_clash : (dir : Directory) (identity : Identity) (token : Token) (found : Option Identity) (fault : AskFault)
    → found ≡ Some identity → IsIdentityToken dir identity token → IsNoIdentity dir found fault
    → is_memory fault ≡ false → ⊥
identity_clash dir identity token found NoObject there is none told = none
identity_clash dir identity token found Several there is none told = none
identity_clash dir identity token found NoPrincipal there is none told = none-some identity (sym none ∙ there)
identity_clash dir identity token found NoIdentifier there is none told = none
identity_clash dir identity token found NoRight there is none told = none
identity_clash dir identity token found (TooMany number) there is (other, same, at, many) told =
    no_token dir other token many
    (subst (λ (i : Identity). IsIdentityToken dir i token) (same_Some identity other (sym there ∙ same)) is)
identity_clash dir identity token found Memory there is none told = cc

-- ---- the questions

pub token_either : (dir : Directory) (name : List ℕ) (texts : List (List ℕ)) (text : List ℕ) (fault : AskFault)
    → IsTokenText dir name texts text
    → IsTokenRefusal dir name texts fault → is_memory fault ≡ false → ⊥
token_either dir name texts text fault is (inl none) told = name_clash (identity_named dir name) (Some is.identity)
    fault is.is_named none told
token_either dir name texts text fault is (inr (found, is_named, inl none)) told
    = none-some is.sids (sym none.1 ∙ is.are_sids)
token_either dir name texts text fault is (inr (found, is_named, inr (sids, are_sids, none))) told =
    token_clash dir is.identity is.sids is.token found fault
    (same_named (identity_named dir name) found is.identity is_named is.is_named) is.is_token
    (subst (λ (s : List SidValue). IsNoToken dir found s fault)
    (same_Some sids is.sids (sym are_sids ∙ is.are_sids)) none) told

pub who_either : (dir : Directory) (right name text : List ℕ) (fault : AskFault) → IsWhoText dir right name text
    → IsWhoRefusal dir right name fault → is_memory fault ≡ false → ⊥
who_either dir right name text fault is (inl none) told = none-some is.question (sym none.1 ∙ is.is_asked)
who_either dir right name text fault is (inr (a, is_asked, none)) told = name_clash (named dir name) is.number
    fault is.is_named none told

pub can_either : (dir : Directory) (name right : List ℕ) (base : Option (List ℕ)) (text : List ℕ) (fault : AskFault)
    → IsCanText dir name right base text → IsCanRefusal dir name right base fault → is_memory fault ≡ false → ⊥
can_either dir name right base text fault is (inl none) told = name_clash (identity_named dir name)
    (Some is.identity) fault is.is_named none told
can_either dir name right base text fault is (inr (found, is_named, inl none)) told
    = none-some is.question (sym none.1 ∙ is.is_asked)
can_either dir name right base text fault is (inr (found, is_named, inr (a, is_asked, inl none))) told =
    name_clash (base_named dir base) is.from fault is.is_base none told
can_either dir name right base text fault is (inr (found, is_named, inr (a, is_asked, inr (from, is_base, none))))
    told =
    identity_clash dir is.identity is.token found fault (same_named (identity_named dir name) found is.identity is_named
    is.is_named) is.is_token none told
