-- What the lines of a token tell, and how they are read back.
use Rattle.std.specs.Prelude.{ℕ, ◌^◌, ◌<◌, Option, None, option_map, option_and_then, List, [], ◌∷◌, ◌++◌}
use Rattle.std.specs.Prelude.{if◌then◌else◌, codes, decimal, map}
use Rattle.std.specs.List.{AllByRecursion}
use Rattle.std.specs.Str.{bytes_eq}
use Rattle.ad_ids.specs.SidValue.{SidValue}
use Rattle.ad_ids.specs.Sid.{IsSid}
use Rattle.ad_ids.specs.SidText.{sid_text}
use Rattle.ad_ids.specs.SidFront.{sid_of_text}
use Rattle.ad_ids.specs.declared.token.Token.{Token}
use Rattle.ad_text_laws.specs.Lines.{word_of, number_of}

-- a part of a token
pub data Part : Type 0 where
  user : SidValue → Part
  owned_by : SidValue → Part
  primary : SidValue → Part
  group : SidValue → Part
  privileges : ℕ → Part

abbrev pub part_line : Part → List ℕ
part_line (user sid) = codes "user " ++ sid_text sid
part_line (owned_by sid) = codes "owner " ++ sid_text sid
part_line (primary sid) = codes "primary " ++ sid_text sid
part_line (group sid) = codes "group " ++ sid_text sid
part_line (privileges sum) = codes "privileges " ++ decimal sum

abbrev pub part_by : List ℕ → List ℕ → Option Part
part_by label rest =
    if bytes_eq label (codes "user") then option_map user (sid_of_text rest)
    else if bytes_eq label (codes "owner") then option_map owned_by (sid_of_text rest)
    else if bytes_eq label (codes "primary") then option_map primary (sid_of_text rest)
    else if bytes_eq label (codes "group") then option_map group (sid_of_text rest)
    else if bytes_eq label (codes "privileges") then option_map privileges (number_of rest)
    else None

unfoldable pub part_of : List ℕ → Option Part
part_of line = option_and_then (λ (w : List ℕ × List ℕ). part_by w.0 w.1) (word_of line)

abbrev pub IsPart : Part → Type 0
IsPart (user sid) = IsSid sid
IsPart (owned_by sid) = IsSid sid
IsPart (primary sid) = IsSid sid
IsPart (group sid) = IsSid sid
IsPart (privileges sum) = sum < 2 ^ 64

-- the parts of a token without deny-only groups and restricting identifiers, as the directory gives one
abbrev pub parts_of : Token → List Part
parts_of token =
    user token.user ∷ owned_by token.owner ∷ primary token.primary
    ∷ (map group token.groups ++ privileges token.privileges ∷ [])

-- its identifiers have their form
pub record HasForm (token : Token) : Type 0 where
  pub user : IsSid token.user
  pub owner : IsSid token.owner
  pub primary : IsSid token.primary
  pub groups : AllByRecursion IsSid token.groups
  pub privileges : token.privileges < 256
