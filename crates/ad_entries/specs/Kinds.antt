-- The kinds of objects: of those of one kind a token may read and change the same attributes.
use Rattle.std.specs.Prelude.{◌≡◌, ℕ, Option}
use Rattle.ad_ids.specs.SidValue.{SidValue}
use Rattle.ad_ids.specs.declared.token.Token.{Token}
use Rattle.ad_acl.specs.declared.kind.AceKind.TheVariants.{Allow, Deny}
use Rattle.ad_access.specs.Holder.{first_holder, second_holder}
use Rattle.ad_access.specs.Matching.{answers_to_self}
use Rattle.ad_dir_model.specs.Objects.{object_at, sd_at}
use Rattle.ad_dir_model.specs.Identity.{self_sid}
use Rattle.ad_dir_model.specs.Directory.{Directory}
use Rattle.ad_entries.specs.declared.kinds.SelfMatch.{SelfMatch}
use Rattle.ad_entries.specs.declared.kinds.Kind.{Kind}

-- How the principals of a token answer to the identifier that an object has of its own: whether the first holds it,
-- whether it denies by it, and whether the second holds it.
pub record AnswersSo (token : Token) (self : Option SidValue) (own : SelfMatch) : Type 0 where
  pub holds : own.holds ≡ answers_to_self Allow (first_holder token) self
  pub denies : own.denies ≡ answers_to_self Deny (first_holder token) self
  pub restricted : own.restricted ≡ answers_to_self Allow (second_holder token) self

-- The object has the descriptor of the kind's sample, its class, and an identifier that is answered to so.
pub record IsOf (dir : Directory) (token : Token) (kind : Kind) (number : ℕ) : Type 0 where
  pub sd : sd_at dir.objects number ≡ sd_at dir.objects kind.sample
  pub class_is : (object_at dir.objects number).class ≡ kind.class
  pub answers : AnswersSo token (self_sid dir number) kind.own
