-- An identity is named by the text of its identifier.
use Rattle.std.proofs.Common.{◌≡◌, ℕ, Bool, true, false, List, Option, Some, None, refl, ap, ◌∙◌}
use Rattle.std.specs.Prelude.{not, ◌&&◌, ◌||◌, if◌then◌else◌, Result, Ok}
use Rattle.std.specs.Option.{option_map, option_map_or}
use Rattle.ad_ids.specs.SidValue.{SidValue, contains_sid}
use Rattle.ad_ids.specs.SidFront.{sid_of_text}
use Rattle.ad_dir.specs.Standing.{AreStanding}
use Rattle.ad_dir_model.specs.Identity.{self_sid, with_sid}
use Rattle.ad_dir_model.specs.Directory.{Directory}
use Rattle.ad_principals.specs.Groups.{is_principal}
use Rattle.ad_principals.specs.Named.{named, or_no_object}
use Rattle.ad_principals.specs.declared.fault.NameFault.{NameFault}
use Rattle.ad_principals.proofs.Identified.{with_sid_has, with_sid_none, one_of_sid}
use Rattle.ad_identities.specs.declared.identity.Identity.{Identity}
use Rattle.ad_identities.specs.Identities.{placeholders, always, is_told, has_principal, is_without_principal}
use Rattle.ad_identities.specs.Identities.{identity_at, lone, IsIdentityBy, IsIdentity}
use Rattle.ad_identities.specs.Named.{object_identity, sid_identity, identity_named}

-- the object of an identifier is found
with_sid_is : (dir : Directory) (sid : SidValue) (n : ℕ) → AreStanding dir.schema dir.objects → self_sid dir n
    ≡ Some sid → with_sid dir sid ≡ Some n
with_sid_is dir sid n stands own = by_found (with_sid dir sid) refl
  where
    by_found : (found : Option ℕ) → with_sid dir sid ≡ found → with_sid dir sid ≡ Some n
    by_found None e = absurd (with_sid_none dir sid n e own)
    by_found (Some m) e = e ∙ ap Some (one_of_sid dir sid m n stands (with_sid_has dir sid m stands e) own)

never : (a b : Bool) → (a && (b && not true)) ≡ false
never true true = refl
never true false = refl
never false b = refl

-- who has a principal isn't without one
not_without : (dir : Directory) (sid : SidValue) → has_principal dir sid ≡ true → is_without_principal dir sid ≡ false
unfolding is_without_principal
not_without dir sid is =
    ap (λ (b : Bool). (contains_sid always sid || is_told dir sid) && (not (contains_sid placeholders sid) && not b)) is
    ∙ never (contains_sid always sid || is_told dir sid) (not (contains_sid placeholders sid))

abbrev ok_some : Option Identity → Result (Option Identity) NameFault
ok_some found = Ok found

sid_names : (dir : Directory) (sid : SidValue) (number : Option ℕ) → AreStanding dir.schema dir.objects
    → IsIdentityBy dir sid number → sid_identity dir sid ≡ Ok (Some (record { sid = sid; number = number }))
sid_names dir sid None stands is =
    ap (λ (b : Bool). if b then ok_some (Some (lone sid)) else object_identity dir (or_no_object (with_sid dir sid))) is
sid_names dir sid (Some n) stands is =
    let found : with_sid dir sid ≡ Some n = with_sid_is dir sid n stands is.1 in
    let has_one : has_principal dir sid ≡ true = ap (λ (o : Option ℕ). option_map_or (is_principal dir) o false) found
    ∙ is.0 in
    ap (λ (b : Bool). if b then ok_some (Some (lone sid)) else object_identity dir (or_no_object (with_sid dir sid)))
    (not_without dir sid has_one)
    ∙ ap (λ (o : Option ℕ). object_identity dir (or_no_object o)) found
    ∙ ap (λ (b : Bool). ok_some (if b then identity_at dir n else None)) is.0
    ∙ ap (λ (own : Option SidValue). ok_some (option_map (λ s. record { sid = s; number = Some n }) own)) is.1

pub text_names : (dir : Directory) (identity : Identity) (text : List ℕ) → AreStanding dir.schema dir.objects
    → IsIdentity dir identity → sid_of_text text ≡ Some identity.sid → identity_named dir text ≡ Ok (Some identity)
unfolding identity_named
text_names dir identity text stands is reads =
    ap (λ (sid : Option SidValue). option_map_or (sid_identity dir) sid (object_identity dir (named dir text))) reads
    ∙ sid_names dir identity.sid identity.number stands is
