-- Whether an identifier counts without a principal, and that its object is live.
use Rattle.std.proofs.Common.{◌≡◌, ◌∙◌, ℕ, Bool, true, false, Option, Some, None, List, Result, Ok, Err, refl, sym, ap, subst}
use Rattle.std.specs.Prelude.{if◌then◌else◌, is_some, is_none, not}
use Rattle.std.proofs.lemmas.Bool.{false≢true}
use Rattle.std.specs.Option.{option_map, option_map_or}
use Rattle.ad_ids.specs.SidValue.{SidValue}
use Rattle.ad_ids.specs.SidFront.{sid_of_text}
use Rattle.ad_dir.specs.Standing.{AreStanding}
use Rattle.ad_dir_model.specs.Directory.{Directory}
use Rattle.ad_dir_model.specs.Objects.{is_live}
use Rattle.ad_dir_model.specs.Identity.{self_sid, with_sid}
use Rattle.ad_principals.specs.Groups.{is_principal}
use Rattle.ad_principals.specs.Named.{or_no_object}
use Rattle.ad_principals.specs.declared.fault.NameFault.{NameFault}
use Rattle.ad_principals.proofs.Identified.{with_sid_has, live_by_sid}
use Rattle.ad_identities.specs.declared.identity.Identity.{Identity}
use Rattle.ad_identities.specs.Identities.{identity_at, lone, is_without_principal}
use Rattle.ad_identities.specs.Named.{object_identity, sid_identity, identity_named}

-- ---- whether an identifier counts without a principal, by the identity that its text names

abbrev pub is_alone : Result (Option Identity) NameFault → Bool
is_alone (Ok (Some identity)) = is_none identity.number
is_alone (Ok None) = false
is_alone (Err fault) = false

not_alone_at : (dir : Directory) (n : ℕ) (sid : Option SidValue)
    → is_alone (Ok (option_map (λ (s : SidValue). record { sid = s; number = Some n }) sid)) ≡ false
not_alone_at dir n None = refl
not_alone_at dir n (Some sid) = refl

not_alone_if : (dir : Directory) (n : ℕ) (principal : Bool)
    → is_alone (Ok (if principal then identity_at dir n else None)) ≡ false
not_alone_if dir n true = not_alone_at dir n (self_sid dir n)
not_alone_if dir n false = refl

not_alone : (dir : Directory) (found : Option ℕ) → is_alone (object_identity dir (or_no_object found)) ≡ false
not_alone dir None = refl
not_alone dir (Some n) = not_alone_if dir n (is_principal dir n)

alone_by : (dir : Directory) (sid : SidValue) (alone : Bool)
    → is_alone (if alone then Ok (Some (lone sid)) else object_identity dir (or_no_object (with_sid dir sid))) ≡ alone
alone_by dir sid true = refl
alone_by dir sid false = not_alone dir (with_sid dir sid)

pub none_if : (number : Option ℕ) (none : Bool) → is_some number ≡ not none → none ≡ is_none number
none_if None true is = refl
none_if None false is = absurd (false≢true is)
none_if (Some n) true is = absurd (false≢true (sym is))
none_if (Some n) false is = refl

pub alone : (dir : Directory) (text : List ℕ) (sid : SidValue) → sid_of_text text ≡ Some sid
    → is_alone (identity_named dir text) ≡ is_without_principal dir sid
unfolding identity_named
alone dir text sid is = rw is (alone_by dir sid (is_without_principal dir sid))

-- ---- the object of an identifier is live

pub live_with : (dir : Directory) (sid : SidValue) (n : ℕ) → AreStanding dir.schema dir.objects
    → with_sid dir sid ≡ Some n → is_live dir.objects n ≡ true
live_with dir sid n stands is = live_by_sid dir n sid (with_sid_has dir sid n stands is)
