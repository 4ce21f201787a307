-- The parts of a descriptor that a token is told that it may write, beside what a request to write them is granted.
use Rattle.std.specs.Prelude.{◌≡◌, ℕ, Bool, true, is_some, option_map, Some, List, [], ◌∷◌, decimal}
use Rattle.ad_ids.specs.declared.token.Token.{Token}
use Rattle.ad_acl.specs.Mask.{has_bit, write_owner, write_dac, access_system_security}
use Rattle.ad_sd.specs.declared.parts.SdParts.{SdParts}
use Rattle.ad_constructed.specs.Rights.{parts_of}
use Rattle.ad_constructed_dir.specs.Changing.{rights_at, changing_of}
use Rattle.ad_dir_model.specs.Directory.{Directory}
use Rattle.ad_access_dir.specs.Sight.{is_granted}
use Rattle.ad_needs_rules.specs.Descriptors.{sd_in_one, asked_parts}

-- The bit of a part in the number that is told: 0 is the owner's, 1 the group's, 2 the DACL's, 3 the SACL's.
abbrev pub is_part_told : Directory → Token → ℕ → ℕ → Bool
is_part_told dir token number part = has_bit (parts_of (rights_at dir token number)) part

-- What is told is one number, of which the bit of each part is the right to write it on the object as a whole.
pub record IsNumberOfParts (dir : Directory) (token : Token) (number : ℕ) : Type 0 where
  pub value : (changing_of dir token number).parts ≡ decimal (parts_of (rights_at dir token number)) ∷ []
  pub owner : is_part_told dir token number 0 ≡ is_granted dir token number [] write_owner
  pub group : is_part_told dir token number 1 ≡ is_granted dir token number [] write_owner
  pub dacl : is_part_told dir token number 2 ≡ is_granted dir token number [] write_dac
  pub sacl : is_part_told dir token number 3 ≡ is_granted dir token number [] access_system_security

-- of each part that is there the bit is told
pub record ArePartsTold (dir : Directory) (token : Token) (number : ℕ) (parts : SdParts) : Type 0 where
  pub owner : is_some parts.owner ≡ true → is_part_told dir token number 0 ≡ true
  pub group : is_some parts.group ≡ true → is_part_told dir token number 1 ≡ true
  pub dacl : is_some parts.dacl ≡ true → is_part_told dir token number 2 ≡ true
  pub sacl : is_some parts.sacl ≡ true → is_part_told dir token number 3 ≡ true

-- the value encodes a descriptor, of which these parts are asked for
abbrev pub AreAsked : ℕ → List ℕ → SdParts → Type 0
AreAsked flags value parts = option_map (asked_parts flags) (sd_in_one (value ∷ [])) ≡ Some parts
