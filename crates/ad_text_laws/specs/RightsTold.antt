-- What the text of rights tells: the lines of an answer.
use Rattle.std.specs.Prelude.{◌≡◌, ℕ, Option, Some, None, List, [], ◌∷◌, ◌++◌, map, slice_get}
use Rattle.std.specs.List.{AllByRecursion, flat_map}
use Rattle.ad_dir_model.specs.Directory.{Directory}
use Rattle.ad_identities.specs.declared.identity.Identity.{Identity}
use Rattle.ad_sets.specs.declared.told.Fact.{Fact}
use Rattle.ad_sets.specs.declared.told.Fact.TheVariants.{In, On}
use Rattle.ad_rights_dir.specs.Rights.{IsRightsText}
use Rattle.ad_rights_dir.specs.Granted.{facts_told}
use Rattle.ad_text_laws.specs.Lines.{facts_of}
use Rattle.ad_text_laws.specs.Printed.{name_at, title_at}
use Rattle.ad_text_laws.specs.Rights.{RightsLine, without, member, object, rights_line_of, IsRightsLine, rights_text}

-- who has no token
abbrev pub without_at : Directory → Identity → RightsLine
without_at dir identity = without identity.sid (title_at dir identity.number)

-- who stands in the set of a number
abbrev pub member_if : Directory → ℕ → Option Identity → List RightsLine
member_if dir number None = []
member_if dir number (Some identity) = member number identity.sid (title_at dir identity.number) ∷ []

abbrev pub fact_told : Directory → List Identity → Fact → List RightsLine
fact_told dir parties (In number place) = member_if dir number (slice_get parties place)
fact_told dir parties (On number sign place) = object number sign (name_at dir place) ∷ []

-- those without a token, and then each fact
abbrev pub rights_told : Directory → List Identity → List Identity → List Fact → List RightsLine
rights_told dir lacking parties facts = map (without_at dir) lacking ++ flat_map (fact_told dir parties) facts

-- A text is of the lines of its facts, and reads back to them.
pub record IsRightsRead (dir : Directory) (right : List ℕ) (base : Option (List ℕ)) (text : List ℕ)
    (told : IsRightsText dir right base text) : Type 0 where
  pub form : AllByRecursion IsRightsLine
      (rights_told dir told.without told.parties (facts_told dir right base text told))
  pub lines : text ≡ rights_text (rights_told dir told.without told.parties (facts_told dir right base text told))
  pub read : facts_of rights_line_of text
      ≡ Some (rights_told dir told.without told.parties (facts_told dir right base text told))
