-- Whom rights are granted to: the principals of a token.
use Rattle.std.specs.Prelude.{Bool, List, ◌∷◌, ◌++◌}
use Rattle.ad_ids.specs.SidValue.{SidValue, contains_sid}
use Rattle.ad_ids.specs.declared.token.Token.{Token}
use Rattle.ad_acl.specs.declared.kind.AceKind.{AceKind}
use Rattle.ad_acl.specs.declared.kind.AceKind.TheVariants.{Allow, Deny, Audit}

-- the identifiers that a principal holds, and those that it denies by
pub record Holder : Type 0 where
  pub held : List SidValue
  pub denied_by : List SidValue

-- The first principal of a token holds its user and its enabled groups, and denies by these and the deny-only groups.
abbrev pub first_holder : Token → Holder
first_holder token = record {
  held = token.user ∷ token.groups;
  denied_by = (token.user ∷ token.groups) ++ token.deny_only;
}

-- The second principal, where there is one, holds the restricting identifiers and denies by them.
abbrev pub second_holder : Token → Holder
second_holder token = record { held = token.restricting; denied_by = token.restricting }

-- the principal holds the identifier
abbrev pub holds : Holder → SidValue → Bool
holds holder sid = contains_sid holder.held sid

-- the principal denies by the identifier
abbrev pub denies_by : Holder → SidValue → Bool
denies_by holder sid = contains_sid holder.denied_by sid

-- The principal answers to the identifier: an allow entry asks whether it holds it, any other whether it denies by
-- it.
abbrev pub answers_to : AceKind → Holder → SidValue → Bool
answers_to Allow holder sid = holds holder sid
answers_to Deny holder sid = denies_by holder sid
answers_to Audit holder sid = denies_by holder sid
