-- The descriptor in a request: which of its parts are meant, and whom it may name as owner.
use Rattle.std.specs.Prelude.{ℕ, Bool, true, false, ◌||◌, if◌then◌else◌, Option, None, is_some, List, [], ◌∷◌}
use Rattle.std.specs.Option.{option_map_or, option_and_then}
use Rattle.std.specs.Result.{result_ok}
use Rattle.ad_ids.specs.SidValue.{SidValue}
use Rattle.ad_ids.specs.Token.{holds}
use Rattle.ad_ids.specs.declared.token.Token.{Token}
use Rattle.ad_acl.specs.Mask.{has_bit}
use Rattle.ad_sd.specs.declared.parts.SdParts.{SdParts}
use Rattle.ad_sd.specs.Reading.{parts_of}
use Rattle.ad_ldap.specs.Choices.{owner_part, group_part, dacl_part, sacl_part}
use Rattle.ad_needs_rules.specs.Privileges.{restore}

-- the parts in the one value, where it can be read
abbrev pub sd_in_one : List (List ℕ) → Option SdParts
sd_in_one (bytes ∷ []) = result_ok (parts_of bytes)
sd_in_one _ = None

abbrev pub part_if : {A : Type 0} → Bool → Option A → Option A
part_if asked part = if asked then part else None

-- those of them that are asked for, by a bit each
unfoldable pub asked_parts : ℕ → SdParts → SdParts
asked_parts flags parts = record {
  owner = part_if (has_bit flags owner_part) parts.owner;
  group = part_if (has_bit flags group_part) parts.group;
  dacl = part_if (has_bit flags dacl_part) parts.dacl;
  sacl = part_if (has_bit flags sacl_part) parts.sacl;
}

abbrev pub has_owner_or_group : SdParts → Bool
has_owner_or_group parts = is_some parts.owner || is_some parts.group

abbrev pub has_part : SdParts → Bool
has_part parts = has_owner_or_group parts || (is_some parts.dacl || is_some parts.sacl)

-- what is asked of the one value is there too
abbrev pub has_asked_part : ℕ → List (List ℕ) → Bool
has_asked_part flags values = option_map_or (λ parts. has_part (asked_parts flags parts)) (sd_in_one values) false

-- ---- the owner

-- the token's user, one of its enabled groups, or anyone with the privilege to restore
abbrev pub may_give : Token → SidValue → Bool
may_give token sid = holds token sid || has_bit token.privileges restore

abbrev pub is_owner_allowed : Token → Option SdParts → Bool
is_owner_allowed token sd = option_map_or (may_give token) (option_and_then (λ parts. parts.owner) sd) true
