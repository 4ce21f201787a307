-- What a name leads to is there.
use Rattle.std.proofs.Common.{◌≡◌, ℕ, true, false, List, Option, Some, None, refl, subst}
use Rattle.std.specs.Prelude.{is_some, unwrap_or, if◌then◌else◌}
use Rattle.std.proofs.lemmas.Bool.{false≢true}
use Rattle.std.proofs.lemmas.Option.{cond_some, option_and_then_some}
use Rattle.ad_ids.specs.declared.token.Token.{Token}
use Rattle.ad_dn.specs.declared.rdn.Rdn.{Rdn}
use Rattle.ad_dir_model.specs.Objects.{Rise, is_live}
use Rattle.ad_dir_model.specs.Directory.{Directory}
use Rattle.ad_dir_model.specs.Names.{found}
use Rattle.ad_dir_model.proofs.Named.{found_live}
use Rattle.ad_access_dir.specs.Sight.{is_visible, visible_of}
use Rattle.ad_needs_rules.specs.Requests.{parts_in, object_named, number_named}

-- the object of a visible name is live
pub visible_live : (dir : Directory) (token : Token) (rdns : List Rdn) (m : ℕ) → Rise dir.objects
    → visible_of dir token rdns ≡ Some m → is_live dir.objects m ≡ true
unfolding visible_of
visible_live dir token rdns m rise is =
    option_and_then_some (λ (n : ℕ). if is_visible dir token n then Some n else None) (found dir rdns) m is
    (λ (n : ℕ) first seen.
    let number : n ≡ m = (cond_some (is_visible dir token n) n m seen).1 in
    subst (λ (k : ℕ). is_live dir.objects k ≡ true) number (found_live dir rdns n rise first))

-- the number of a visible object, where there is one
pub live_or : (dir : Directory) (token : Token) (rdns : List Rdn) (found : Option ℕ) → Rise dir.objects
    → visible_of dir token rdns ≡ found → is_some found ≡ true → is_live dir.objects (unwrap_or found 0) ≡ true
live_or dir token rdns (Some n) rise is some = visible_live dir token rdns n rise is
live_or dir token rdns None rise is some = absurd (false≢true some)

-- the number that a text names is a live object's, where it names a visible one
pub named_live : (dir : Directory) (token : Token) (text : List ℕ) → Rise dir.objects
    → is_some (object_named dir token text) ≡ true → is_live dir.objects (number_named dir token text) ≡ true
unfolding object_named
named_live dir token text rise some = live_or dir token (parts_in text) (object_named dir token text) rise refl some
