-- The lines that tell who can do what.
use Rattle.std.specs.Prelude.{◌≡◌, ℕ, Option, Some, None, List, [], ◌∷◌, ◌++◌, codes, decimal, filter}
use Rattle.std.specs.List.{flat_map}
use Rattle.ad_bytes.specs.Puts.{spaced, ended, labelled}
use Rattle.ad_ids.specs.SidValue.{SidValue}
use Rattle.ad_ids.specs.SidText.{sid_text}
use Rattle.ad_ids.specs.declared.token.Token.{Token}
use Rattle.ad_dir_model.specs.Directory.{Directory}
use Rattle.ad_dir_model.specs.Objects.{numbers}
use Rattle.ad_dir_model.specs.Names.{name_text}
use Rattle.ad_dir_model.specs.Changes.{goes_with}
use Rattle.ad_identities.specs.declared.identity.Identity.{Identity}
use Rattle.ad_identities.specs.Identities.{IsIdentityToken, HasTooManyIn}
use Rattle.ad_needs_rules.specs.Needs.{Alternative}
use Rattle.ad_questions.specs.declared.question.Question.{Question}
use Rattle.ad_questions.specs.Requirements.{requirements}
use Rattle.ad_who.specs.declared.decider.Decider.{Decider}
use Rattle.ad_who.specs.declared.decider.Decider.TheVariants.{Privilege, Owner, Allowed, Refused, Nothing}
use Rattle.ad_who.specs.declared.reason.Reason.{Reason}
use Rattle.ad_who.specs.declared.reason.Reason.TheVariants.{Free, Own, Above}
use Rattle.ad_who.specs.Reason.{told}

-- ---- a token

abbrev pub group_line : SidValue → List ℕ
group_line sid = labelled (codes "group ") (sid_text sid)

-- the user, the owner, the primary group, the groups in their order, and the privileges
unfoldable pub token_text : Token → List ℕ
token_text token =
    labelled (codes "user ") (sid_text token.user)
    ++ (labelled (codes "owner ") (sid_text token.owner)
    ++ (labelled (codes "primary ") (sid_text token.primary)
    ++ (flat_map group_line token.groups
    ++ labelled (codes "privileges ") (decimal token.privileges))))

-- ---- a yes

-- what decides, where it grants
abbrev pub decider_text : Decider → List ℕ
decider_text Privilege = codes "privilege"
decider_text Owner = codes "owner"
decider_text (Allowed place) = decimal place
decider_text (Refused place) = []
decider_text Nothing = []

-- of an object itself, or of its parent; a hyphen where nothing is needed
abbrev pub reason_text : Reason → List ℕ
reason_text Free = codes "-"
reason_text (Own decider) = decider_text decider
reason_text (Above decider) = codes "parent:" ++ decider_text decider

-- A line stands where there is a reason, and begins with it.
abbrev pub line_if : Option Reason → List ℕ → List ℕ
line_if None rest = []
line_if (Some reason) rest = spaced (reason_text reason) ++ rest

unfoldable pub told_line : Directory → Token → ℕ → List (List Alternative) → List ℕ → List ℕ
told_line dir token number all rest = line_if (told dir token number all) rest

-- ---- identities

-- the name of an identity's object; a hyphen where it has none
abbrev pub name_or : Directory → Option ℕ → List ℕ
name_or dir None = codes "-"
name_or dir (Some number) = name_text dir number

-- its identifier and its name
abbrev pub identity_text : Directory → Identity → List ℕ
identity_text dir identity = spaced (sid_text identity.sid) ++ ended (name_or dir identity.number)

-- its token, or that it has none, which is where it has too many groups
abbrev pub IsTokenIf : Directory → Identity → Option Token → Type 0
IsTokenIf dir identity None = HasTooManyIn dir identity
IsTokenIf dir identity (Some token) = IsIdentityToken dir identity token

-- ---- who

-- the line of an identity with its token, and that of one without
abbrev pub who_line : Directory → ℕ → List (List Alternative) → Identity → Option Token → List ℕ
who_line dir number all identity None = codes "none " ++ identity_text dir identity
who_line dir number all identity (Some token) = told_line dir token number all (identity_text dir identity)

-- the lines of these, one after the other
abbrev pub AreWhoLines : Directory → ℕ → List (List Alternative) → List Identity → List ℕ → Type 0
AreWhoLines dir number all [] text = text ≡ []
AreWhoLines dir number all (identity ∷ others) text =
    (token : Option Token) × (rest : List ℕ) × IsTokenIf dir identity token
    × (text ≡ who_line dir number all identity token ++ rest) × AreWhoLines dir number all others rest

-- ---- can

-- the line of an object: its name
abbrev pub can_line : Directory → Token → Question → ℕ → List ℕ
can_line dir token question number = told_line dir token number (requirements dir question number)
    (ended (name_text dir number))

-- those of the object at the base and of all below it
unfoldable pub can_text : Directory → Token → Question → ℕ → List ℕ
can_text dir token question base = flat_map (can_line dir token question)
    (filter (goes_with dir base) (numbers dir.objects))
