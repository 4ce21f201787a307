-- What an access tried, as contracts see it.
use Rattle.std.specs.Prelude.{ℕ, Bool, true, false, List, map}
use Rattle.ad_ids.specs.declared.guid.Guid.{Guid}
use Rattle.ad_types.specs.declared.tried.Tried.{Tried}
use Rattle.ad_types.specs.Path.{guids_of}

-- one right, as a mask, that was asked for at an object, on a path of GUIDs, and whether it was granted
pub record TriedValue : Type 0 where
  pub object : ℕ
  pub right : ℕ
  pub path : List Guid
  pub success : Bool

abbrev pub tried_value : Tried → TriedValue
tried_value t = record { object = t.object; right = t.right; path = guids_of t.path; success = t.success }

-- in order
abbrev pub tried_values : List Tried → List TriedValue
tried_values ts = map tried_value ts

-- one that was granted, and one that wasn't
abbrev pub success_on : ℕ → ℕ → List Guid → TriedValue
success_on object right path = record { object = object; right = right; path = path; success = true }

abbrev pub failure_on : ℕ → ℕ → List Guid → TriedValue
failure_on object right path = record { object = object; right = right; path = path; success = false }
