-- Lists of entries after their count, as they stand in normal bytes.
use Rattle.std.specs.Prelude.{◌≡◌, Bool, true, false, ℕ, List, [], Ok, Err}
use Rattle.ad_bytes.specs.Reading.{Reading}
use Rattle.ad_ids.specs.SidReading.{sid_at}
use Rattle.ad_acl.specs.Entry.{Entry}
use Rattle.ad_sd.specs.declared.exact.NotNormal.{NotNormal}
use Rattle.ad_sd.specs.declared.parts.Sd.{Sd}
use Rattle.ad_sd.specs.NormalReading.{not_normal, entries_exactly_at}

abbrev pub given : Reading (List Entry) NotNormal → List Entry
given (Ok x) = x.0
given (Err e) = []

abbrev pub is_given : Reading (List Entry) NotNormal → Bool
is_given (Ok x) = true
is_given (Err e) = false

-- the entries of the list at the start of bytes
unfoldable pub listed : List ℕ → List Entry
listed bytes = given (entries_exactly_at bytes)

-- the bytes begin with a list
unfoldable pub begins_list : List ℕ → Bool
begins_list bytes = is_given (entries_exactly_at bytes)

-- a reader has a fault, or it reads to where these bytes are left
abbrev pub IsNotRead : {A : Type 0} → Reading A NotNormal → Type 0
IsNotRead read = read ≡ Err not_normal

abbrev pub IsReadTo : {A : Type 0} → Reading A NotNormal → List ℕ → Type 0
IsReadTo {A = A} read left = (value : A) × (read ≡ Ok (value, left))

-- the bytes are the two lists of the descriptor
pub record HasLists (sd : Sd) (bytes : List ℕ) : Type 0 where
  pub after : List ℕ
  pub dacl : entries_exactly_at bytes ≡ Ok (sd.dacl.entries, after)
  pub sacl : entries_exactly_at after ≡ Ok (sd.sacl.entries, [])

-- the bytes are the owner, the group and the two lists
pub record HasParts (sd : Sd) (bytes : List ℕ) : Type 0 where
  pub after_owner : List ℕ
  pub after_group : List ℕ
  pub owner : sid_at bytes ≡ Ok (sd.owner, after_owner)
  pub group : sid_at after_owner ≡ Ok (sd.group, after_group)
  pub lists : HasLists sd after_group
