-- That the texts of who and can are of such lines, and which ones.
use Rattle.std.specs.Prelude.{◌≡◌, ℕ, ◌^◌, ◌<◌, true, Option, Some, None, List, [], ◌∷◌, ◌++◌, filter, length}
use Rattle.std.specs.List.{AllByRecursion, flat_map}
use Rattle.ad_ids.specs.SidValue.{SidValue}
use Rattle.ad_ids.specs.Sid.{IsSid}
use Rattle.ad_ids.specs.declared.token.Token.{Token}
use Rattle.ad_dn.specs.declared.rdn.Dn.{Dn}
use Rattle.ad_dn.specs.Value.{AreRdns}
use Rattle.ad_dir_model.specs.Directory.{Directory}
use Rattle.ad_dir_model.specs.Objects.{is_live, numbers, sd_at}
use Rattle.ad_dir_model.specs.Identity.{self_sid}
use Rattle.ad_dir_model.specs.Names.{rdns_of}
use Rattle.ad_dir_model.specs.Changes.{goes_with}
use Rattle.ad_identities.specs.declared.identity.Identity.{Identity}
use Rattle.ad_identities.specs.Identities.{is_told}
use Rattle.ad_who.specs.Lines.{IsTokenIf}
use Rattle.ad_needs_rules.specs.Needs.{Alternative}
use Rattle.ad_questions.specs.declared.question.Question.{Question}
use Rattle.ad_questions.specs.Requirements.{requirements}
use Rattle.ad_who.specs.declared.reason.Reason.{Reason}
use Rattle.ad_who.specs.Reason.{told}
use Rattle.ad_who.specs.Lines.{can_text}
use Rattle.ad_text_laws.specs.Lines.{facts_of}
use Rattle.ad_text_laws.specs.Facts.{Holder, holder_by, holder_of, IsHolder, holders_text}
use Rattle.ad_text_laws.specs.Facts.{Held, held_by, held_of, IsHeld, helds_text}

-- The names and the identifiers of a directory have their form, and the entries of a list can be counted.
pub record HasForms (dir : Directory) : Type 0 where
  pub names : (number : ℕ) → is_live dir.objects number ≡ true → AreRdns (rdns_of dir number)
  pub sids : (number : ℕ) (sid : SidValue) → self_sid dir number ≡ Some sid → IsSid sid
  pub told : (sid : SidValue) → is_told dir sid ≡ true → IsSid sid
  pub lists : (number : ℕ) → length (sd_at dir.objects number).dacl.entries < 2 ^ 63

abbrev pub name_at : Directory → ℕ → Dn
name_at dir number = record { rdns = rdns_of dir number }

-- ---- who

-- where there is a reason
abbrev pub holders_if : Option Reason → SidValue → Option Dn → List Holder
holders_if None sid name = []
holders_if (Some reason) sid name = holder_by (Some reason) sid name ∷ []

abbrev pub title_at : Directory → Option ℕ → Option Dn
title_at dir None = None
title_at dir (Some number) = Some (name_at dir number)

-- an identity with its token, where it meets what is needed; and each that has none
abbrev pub holder_at : Directory → ℕ → List (List Alternative) → Identity → Option Token → List Holder
holder_at dir number needed identity None = holder_by None identity.sid (title_at dir identity.number) ∷ []
holder_at dir number needed identity (Some token) =
    holders_if (told dir token number needed) identity.sid (title_at dir identity.number)

-- those of these identities, in their order
abbrev pub AreHolders : Directory → ℕ → List (List Alternative) → List Identity → List Holder → Type 0
AreHolders dir number needed [] holders = holders ≡ []
AreHolders dir number needed (identity ∷ others) holders =
    (token : Option Token) × (rest : List Holder) × IsTokenIf dir identity token
    × (holders ≡ holder_at dir number needed identity token ++ rest) × AreHolders dir number needed others rest

-- A text is of the lines of those who meet what is needed or have no token, and reads back to them.
pub record IsOfHolders (dir : Directory) (number : ℕ) (needed : List (List Alternative)) (identities : List Identity)
    (text : List ℕ) : Type 0 where
  pub holders : List Holder
  pub are : AreHolders dir number needed identities holders
  pub form : AllByRecursion IsHolder holders
  pub lines : text ≡ holders_text holders
  pub read : facts_of holder_of text ≡ Some holders

-- ---- can

-- where there is a reason
abbrev pub held_if : Option Reason → Dn → List Held
held_if None name = []
held_if (Some reason) name = held_by reason name ∷ []

-- an object, where the token is told yes about it
abbrev pub held_at : Directory → Token → Question → ℕ → List Held
held_at dir token question number = held_if (told dir token number (requirements dir question number))
    (name_at dir number)

-- those at and below a base
abbrev pub helds_at : Directory → Token → Question → ℕ → List Held
helds_at dir token question base = flat_map (held_at dir token question) (filter (goes_with dir base) (numbers dir.objects))

-- the text of can is of the lines of the objects about which the token is told yes, and reads back to them
pub record IsOfHeld (dir : Directory) (token : Token) (question : Question) (base : ℕ) : Type 0 where
  pub form : AllByRecursion IsHeld (helds_at dir token question base)
  pub lines : can_text dir token question base ≡ helds_text (helds_at dir token question base)
  pub read : facts_of held_of (can_text dir token question base) ≡ Some (helds_at dir token question base)
