-- What is held of an addition, by its attributes' numbers.
use Rattle.std.proofs.Common.{◌≡◌, ℕ, List, [], ◌∷◌, length, map, refl}
use Rattle.std.specs.Ordering.{nat_cmp}
use Rattle.std.specs.BTreeMap.{insert_entry}
use Rattle.ad_dir_objects.specs.declared.object.Stored.{Stored as StoredIn}
use Rattle.ad_dir_objects.specs.Seen.{stored_seen}
use Rattle.ad_change_values.specs.ByAttr.{by_attr}
use Rattle.ad_change_values.proofs.RowLaws.{put_among}
use Rattle.ad_change.specs.Adding.{held_before}

-- with values it is held before the others
pub put_in : (es : List (ℕ × List StoredIn)) (attr : ℕ) (vs : List StoredIn) → (length vs ≡ 0 → ⊥)
    → by_attr (insert_entry nat_cmp es attr vs) ≡ held_before attr (map stored_seen vs) (by_attr es)
put_in es attr [] some = absurd (some refl)
put_in es attr (v ∷ vs) some = put_among es attr (v ∷ vs)
