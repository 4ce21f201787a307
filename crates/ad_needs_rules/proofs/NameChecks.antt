-- The checks that a name reads and that its object is visible, by what the code finds.
use Rattle.std.proofs.Common.{◌≡◌, ℕ, Bool, true, false, List, [], ◌∷◌, Option, Some, None, sym, ap, ◌∙◌}
use Rattle.std.specs.Prelude.{option_map, is_some, unwrap_or}
use Rattle.ad_ids.specs.declared.token.Token.{Token}
use Rattle.ad_dn.specs.declared.rdn.Rdn.{Rdn}
use Rattle.ad_dn.specs.declared.rdn.Dn.{Dn}
use Rattle.ad_dn.specs.Reading.{dn_of}
use Rattle.ad_dir_model.specs.Directory.{Directory}
use Rattle.ad_access_dir.specs.Sight.{visible_of, matched}
use Rattle.ad_needs_rules.specs.declared.outcome.Verdict.TheVariants.{Refused, Hidden}
use Rattle.ad_needs_rules.specs.Checks.{Check, or_code}
use Rattle.ad_needs_rules.specs.Requests.{is_name, parts_in, object_named, number_named, or_hidden}
use Rattle.ad_needs_rules.specs.Judged.{refusal_of}
use Rattle.ad_needs_rules.proofs.Refusing.{passes, fails}

-- ---- a code

pub coded : (cs : List Check) (number : ℕ) (test : Bool) → test ≡ false → Some (Refused number)
    ≡ refusal_of (or_code test number ∷ cs)
coded cs number test fails' = fails (or_code test number) cs fails'

pub holds : (cs : List Check) (number : ℕ) (test : Bool) → test ≡ true → refusal_of (or_code test number ∷ cs)
    ≡ refusal_of cs
holds cs number test is = passes (or_code test number) cs is

-- ---- the name

pub unread : (cs : List Check) (text : List ℕ) → None ≡ dn_of text → Some (Refused 34)
    ≡ refusal_of (or_code (is_name text) 34 ∷ cs)
unread cs text none = coded cs 34 (is_name text)
    (sym (ap (λ (found : Option Dn). is_some (option_map (λ dn. dn.rdns) found)) none))

pub reads : (cs : List Check) (text : List ℕ) (dn : Dn) → Some dn ≡ dn_of text
    → refusal_of (or_code (is_name text) 34 ∷ cs) ≡ refusal_of cs
reads cs text dn some = holds cs 34 (is_name text)
    (sym (ap (λ (found : Option Dn). is_some (option_map (λ dn. dn.rdns) found)) some))

pub parts_read : (text : List ℕ) (dn : Dn) → Some dn ≡ dn_of text → dn.rdns ≡ parts_in text
parts_read text dn some = ap (λ (found : Option Dn). unwrap_or (option_map (λ dn. dn.rdns) found) []) some

-- ---- its object

pub object_read : (dir : Directory) (token : Token) (text : List ℕ) (dn : Dn) (found : Option ℕ) → Some dn ≡ dn_of text
    → found ≡ visible_of dir token dn.rdns → found ≡ object_named dir token text
unfolding object_named
object_read dir token text dn found some is = is ∙ ap (visible_of dir token) (parts_read text dn some)

pub number_read : (dir : Directory) (token : Token) (text : List ℕ) (dn : Dn) (number : ℕ) → Some dn ≡ dn_of text
    → Some number ≡ visible_of dir token dn.rdns → number ≡ number_named dir token text
number_read dir token text dn number some is = ap (λ (found : Option ℕ). unwrap_or found 0)
    (object_read dir token text dn (Some number) some is)

pub unseen : (cs : List Check) (dir : Directory) (token : Token) (text : List ℕ) (dn : Dn) → Some dn ≡ dn_of text
    → None ≡ visible_of dir token dn.rdns
    → Some (Hidden (record { rdns = matched dir token dn.rdns })) ≡ refusal_of (or_hidden dir token text ∷ cs)
unseen cs dir token text dn some none =
    ap (λ (rdns : List Rdn). Some (Hidden (record { rdns = matched dir token rdns }))) (parts_read text dn some)
    ∙ fails (or_hidden dir token text) cs
    (sym (ap (λ (found : Option ℕ). is_some found) (object_read dir token text dn None some none)))

pub seen : (cs : List Check) (dir : Directory) (token : Token) (text : List ℕ) (dn : Dn) (number : ℕ) → Some dn
    ≡ dn_of text
    → Some number ≡ visible_of dir token dn.rdns → refusal_of (or_hidden dir token text ∷ cs) ≡ refusal_of cs
seen cs dir token text dn number some is =
    passes (or_hidden dir token text) cs (sym
    (ap (λ (found : Option ℕ). is_some found) (object_read dir token text dn (Some number) some is)))
