-- The list of pending parents, and what each call makes of it.
use Rattle.std.specs.Prelude.{◌≡◌, ℕ, Bool, false, not, ◌==◌, if◌then◌else◌, List, [], ◌∷◌}
use Rattle.std.specs.List.{filter, list_any}
use Rattle.prop_queue.specs.declared.pending.Pending.{Pending}

abbrev pub is_of : ℕ → Pending → Bool
is_of parent entry = entry.parent == parent

-- the parent is pending
abbrev pub is_pending : ℕ → List Pending → Bool
is_pending parent queue = list_any (is_of parent) queue

-- no parent is pending twice
abbrev pub AreDistinct : List Pending → Type 0
AreDistinct [] = Unit {0}
AreDistinct (entry ∷ others) = (is_pending entry.parent others ≡ false) × AreDistinct others

abbrev pub from_the_start : ℕ → Pending
from_the_start parent = record { parent = parent; cursor = 0 }

-- A parent that is pending keeps its place and starts again; any other is put last.
abbrev pub marked : ℕ → List Pending → List Pending
marked parent [] = from_the_start parent ∷ []
marked parent (entry ∷ others) =
    if is_of parent entry then from_the_start parent ∷ others
    else entry ∷ marked parent others

-- the cursor of the head is at the child
abbrev pub advanced : ℕ → List Pending → List Pending
advanced child [] = []
advanced child (head ∷ others) = record { parent = head.parent; cursor = child } ∷ others

-- the parent is not pending any more
abbrev pub without : ℕ → List Pending → List Pending
without parent queue = filter (λ entry. not (is_of parent entry)) queue
