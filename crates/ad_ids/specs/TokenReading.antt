-- How an access token is read, with the fault that stands first.
use Rattle.std.specs.Prelude.{ℕ, zero, suc, Bool, true, false, List, [], length, ◌==◌, ◌||◌, nat_lt, nat_le}
use Rattle.std.specs.Prelude.{if◌then◌else◌, Result, Ok, Err}
use Rattle.ad_bytes.specs.Reading.{Reading, ◌>>=◌, need, fault_as, or_fault, many_at}
use Rattle.ad_bytes.specs.Numbers.{byte_at, be_at}
use Rattle.ad_ids.specs.declared.token.Token.{Token}
use Rattle.ad_ids.specs.declared.token_fault.TokenFault.{TokenFault}
use Rattle.ad_ids.specs.declared.token_fault.TokenFault.TheVariants as fault
use Rattle.ad_ids.specs.declared.mark.Mark.{Mark}
use Rattle.ad_ids.specs.declared.mark.Mark.TheVariants.{Enabled, DenyOnly}
use Rattle.ad_ids.specs.SidValue.{SidValue}
use Rattle.ad_ids.specs.SidReading.{sid_at}
use Rattle.ad_ids.specs.Token.{enabled_of, deny_only_of, has_own_owner, Lists}

-- the one fault that no bytes have
abbrev pub is_memory : TokenFault → Bool
is_memory fault.Memory = true
is_memory _ = false

abbrev pub mark_of : ℕ → Result Mark TokenFault
mark_of zero = Ok Enabled
mark_of (suc zero) = Ok DenyOnly
mark_of (suc (suc n)) = Err (fault.Mark (suc (suc n)))

-- a group with its mark
unfoldable pub marked_at : List ℕ → Reading (Mark × SidValue) TokenFault
marked_at bytes = do
  byte ← or_fault fault.Short (byte_at bytes)
  mark ← mark_of byte.0
  sid ← fault_as fault.Sid (sid_at byte.1)
  Ok ((mark, sid.0), sid.1)

-- n identifiers
unfoldable pub sids_at : ℕ → List ℕ → Reading (List SidValue) TokenFault
sids_at n bytes = fault_as fault.Sid (many_at sid_at n bytes)

-- n groups with their marks: the enabled ones, and those that only deny
unfoldable pub groups_at : ℕ → List ℕ → Reading (List SidValue × List SidValue) TokenFault
groups_at n bytes = do
  marked ← many_at marked_at n bytes
  Ok ((enabled_of marked.0, deny_only_of marked.0), marked.1)

-- a count of at most 1,024, or this is the fault
unfoldable pub count_at : (ℕ → TokenFault) → List ℕ → Reading ℕ TokenFault
count_at too_many bytes = do
  count ← or_fault fault.Short (be_at 2 bytes)
  _ ← need (nat_le count.0 1024) (too_many count.0)
  Ok count

unfoldable pub plain_lists_at : List ℕ → Reading Lists TokenFault
plain_lists_at bytes = do
  count ← count_at fault.Groups bytes
  groups ← sids_at count.0 count.1
  Ok (record { groups = groups.0; deny_only = []; restricting = [] }, groups.1)

unfoldable pub marked_lists_at : List ℕ → Reading Lists TokenFault
marked_lists_at bytes = do
  count ← count_at fault.Groups bytes
  groups ← groups_at count.0 count.1
  others ← count_at fault.Restricting groups.1
  restricting ← sids_at others.0 others.1
  Ok (record { groups = groups.0.0; deny_only = groups.0.1; restricting = restricting.0 }, restricting.1)

unfoldable pub version_at : List ℕ → Reading ℕ TokenFault
version_at bytes = do
  version ← or_fault fault.Short (byte_at bytes)
  _ ← need (version.0 == 1 || version.0 == 2) (fault.Version version.0)
  Ok version

unfoldable pub privileges_at : List ℕ → Reading ℕ TokenFault
privileges_at bytes = do
  privileges ← or_fault fault.Short (byte_at bytes)
  _ ← need (nat_lt privileges.0 8) (fault.Privileges privileges.0)
  Ok privileges

unfoldable pub lists_at : ℕ → List ℕ → Reading Lists TokenFault
lists_at version bytes = if version == 1 then plain_lists_at bytes else marked_lists_at bytes

-- the fields of a token, one after the other
unfoldable pub fields_at : List ℕ → Reading Token TokenFault
fields_at bytes = do
  version ← version_at bytes
  privileges ← privileges_at version.1
  user ← fault_as fault.Sid (sid_at privileges.1)
  owner ← fault_as fault.Sid (sid_at user.1)
  primary ← fault_as fault.Sid (sid_at owner.1)
  lists ← lists_at version.0 primary.1
  Ok (
    record {
      version = version.0;
      privileges = privileges.0;
      user = user.0;
      owner = owner.0;
      primary = primary.0;
      groups = lists.0.groups;
      deny_only = lists.0.deny_only;
      restricting = lists.0.restricting;
    },
    lists.1,
  )

-- a token that all of the bytes encode
unfoldable pub token_of : List ℕ → Result Token TokenFault
token_of bytes = do
  token ← fields_at bytes
  _ ← need (length token.1 == 0) fault.Rest
  _ ← need (has_own_owner token.0) fault.Owner
  Ok token.0
