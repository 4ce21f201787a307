-- Attributes by their numbers.
use Rattle.std.specs.Prelude.{ℕ, List, map, unwrap_or}
use Rattle.std.specs.BTreeMap.{BTreeMap, get}
use Rattle.std.specs.Ordering.{nat_cmp}
use Rattle.ad_dir_objects.specs.declared.object.Stored.{Stored as StoredIn}
use Rattle.ad_dir_objects.specs.Seen.{stored_seen}
use Rattle.ad_dir_model.specs.Object.{Held}

-- attributes, each with its values
abbrev pub by_attr : List (ℕ × List StoredIn) → List Held
by_attr entries = map (λ entry. record { attr = entry.0; values = map stored_seen entry.1 }) entries

-- how many values the attribute has
abbrev pub count_in : BTreeMap ℕ ℕ → ℕ → ℕ
count_in counts attr = unwrap_or (get nat_cmp counts attr) 0
