-- Which access is audited, by which entry of the SACL.
use Rattle.std.specs.Prelude.{ℕ, zero, suc, ◌+◌, ◌-◌, ◌^◌, Bool, true, false, not, ◌&&◌, ◌||◌, min, Option, None}
use Rattle.std.specs.Prelude.{Some, List, [], ◌∷◌, if◌then◌else◌}
use Rattle.ad_ids.specs.SidValue.{SidValue}
use Rattle.ad_ids.specs.declared.guid.Guid.{Guid}
use Rattle.ad_ids.specs.declared.token.Token.{Token}
use Rattle.ad_acl.specs.declared.kind.AceKind.{AceKind}
use Rattle.ad_acl.specs.declared.kind.AceKind.TheVariants.{Allow, Deny, Audit}
use Rattle.ad_acl.specs.Entry.{Entry}
use Rattle.ad_acl.specs.Mask.{has_bit, mapped_has}
use Rattle.ad_sd.specs.declared.parts.Sd.{Sd}
use Rattle.ad_access.specs.Holder.{first_holder}
use Rattle.ad_access.specs.Matching.{matches, is_about, is_inherit_only}

-- ---- one entry

-- the places of the two flags: the entry asks for events of granted accesses, and of refused ones
abbrev pub successful_access : ℕ
successful_access = 6

abbrev pub failed_access : ℕ
failed_access = 7

abbrev pub wants : Entry → Bool → Bool
wants entry true = has_bit entry.flags successful_access
wants entry false = has_bit entry.flags failed_access

-- of the first so many rights, one is among these and, after generic mapping, in the mask
unfoldable pub has_right_below : ℕ → ℕ → ℕ → Bool
has_right_below zero mask rights = false
has_right_below (suc bit) mask rights = (has_bit rights bit && mapped_has mask bit) || has_right_below bit mask rights

-- the mask has the right after generic mapping, or one of them where the right is a mask of several
unfoldable pub has_right : ℕ → ℕ → Bool
has_right mask right = has_right_below 32 mask right

abbrev pub is_audit_kind : AceKind → Bool
is_audit_kind Allow = false
is_audit_kind Deny = false
is_audit_kind Audit = true

-- an audit entry of the object itself, which isn't there only to be inherited
abbrev pub is_audit : Entry → Bool
is_audit entry = is_audit_kind entry.kind && not (is_inherit_only entry)

-- The entry asks for the event of an access: of a right that was tried on a path, and was granted or not. It is for
-- somebody by whom the first principal of the token denies.
unfoldable pub asks : Entry → SidValue → Token → Option SidValue → List Guid → ℕ → Bool → Bool
asks entry owner token self path right success =
    is_audit entry && (wants entry success && (has_right entry.mask right && (is_about entry.object path
    && matches entry (first_holder token) self owner)))

-- ---- the list

-- the greatest place that is told
abbrev pub last_place : ℕ
last_place = 2 ^ 32 - 1

abbrev pub next_place : ℕ → ℕ
next_place place = min (place + 1) last_place

-- the place of the first entry that asks, where the list begins at this place
unfoldable pub first_asking : (Entry → Bool) → ℕ → List Entry → Option ℕ
first_asking asking place [] = None
first_asking asking place (entry ∷ others) = if asking entry then Some place
    else first_asking asking (next_place place) others

-- the place of the first entry of the SACL that asks for the event, none where no entry does
unfoldable pub audited : Sd → Token → Option SidValue → List Guid → ℕ → Bool → Option ℕ
audited sd token self path right success =
    first_asking (λ entry. asks entry sd.owner token self path right success) 0 sd.sacl.entries
