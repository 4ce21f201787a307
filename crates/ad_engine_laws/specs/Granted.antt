-- What is granted where a message changes the directory.
use Rattle.std.specs.Prelude.{◌≡◌, true, List, ℕ, Ok}
use Rattle.std.specs.List.{AllByRecursion}
use Rattle.ad_ids.specs.declared.token.Token.{Token}
use Rattle.ad_ldap.specs.declared.controls.Settings.{Settings}
use Rattle.ad_ldap.specs.MessageValue.{MessageValue}
use Rattle.ad_ldap.specs.MessageReading.{message_of}
use Rattle.ad_ldap.specs.Settings.{settings_of}
use Rattle.ad_dir_model.specs.Directory.{Directory}
use Rattle.ad_needs_rules.specs.Needs.{is_met}
use Rattle.ad_needs.specs.Traces.{requirements}

-- The bytes are a message, and the token has each right that its operation requires: of each requirement one
-- alternative is granted.
pub record IsGranted (dir : Directory) (token : Token) (bytes : List ℕ) : Type 0 where
  pub message : MessageValue
  pub settings : Settings
  pub read : message_of bytes ≡ Ok message
  pub controls : settings_of message ≡ Ok settings
  pub all : AllByRecursion (λ requirement. is_met dir token requirement ≡ true)
      (requirements dir token message.op settings)
