-- Identifiers of an object of its own to which the principals of a token answer alike.
use Rattle.std.specs.Prelude.{◌≡◌, Option}
use Rattle.ad_ids.specs.SidValue.{SidValue}
use Rattle.ad_ids.specs.declared.token.Token.{Token}
use Rattle.ad_acl.specs.declared.kind.AceKind.{AceKind}
use Rattle.ad_access.specs.Holder.{first_holder, second_holder}
use Rattle.ad_access.specs.Matching.{answers_to_self}

-- each principal answers to both or to neither, for an entry of each kind
pub record AnswerAlike (token : Token) (self other : Option SidValue) : Type 0 where
  pub first : (kind : AceKind) → answers_to_self kind (first_holder token) self
      ≡ answers_to_self kind (first_holder token) other
  pub second : (kind : AceKind) → answers_to_self kind (second_holder token) self
      ≡ answers_to_self kind (second_holder token) other
