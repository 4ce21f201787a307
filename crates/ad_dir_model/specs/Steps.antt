-- The steps by which the pending list is worked off, and how much work it still is.
use Rattle.std.specs.Prelude.{◌≡◌, ◌≢◌, ℕ, zero, suc, ◌+◌, ◌*◌, ◌<◌, Bool, if◌then◌else◌, Option, None, Some, List}
use Rattle.std.specs.Prelude.{[], ◌∷◌}
use Rattle.prop_queue.specs.declared.pending.Pending.{Pending}
use Rattle.prop_queue.specs.Pending.{advanced}
use Rattle.ad_dir_model.specs.Objects.{numbers, object_at, next_child}
use Rattle.ad_dir_model.specs.Tree.{is_reached}
use Rattle.ad_dir_model.specs.Directory.{Directory, parents, with_pending}
use Rattle.ad_dir_model.specs.Inheritance.{written}

-- ---- one step

-- the cursor of the head is at the child, which is written
abbrev pub child_stepped : Directory → ℕ → Directory
child_stepped dir child = written (with_pending (advanced child dir.pending) dir) (object_at dir.objects child)

-- the least child above the head's cursor takes its turn; where there is none, the head goes
abbrev pub head_stepped : Directory → List Pending → Option ℕ → Directory
head_stepped dir others None = with_pending others dir
head_stepped dir others (Some child) = child_stepped dir child

abbrev pub stepped : Directory → List Pending → Directory
stepped dir [] = dir
stepped dir (head ∷ others) = head_stepped dir others (next_child dir.objects head.parent head.cursor)

-- One step. Where nothing is pending there is none, and nothing changes.
unfoldable pub step : Directory → Directory
step dir = stepped dir dir.pending

unfoldable pub steps : ℕ → Directory → Directory
steps zero dir = dir
steps (suc n) dir = steps n (step dir)

-- The pending list is empty after so many steps and not before.
pub record EmptiesAfter (n : ℕ) (dir : Directory) : Type 0 where
  pub empty : (steps n dir).pending ≡ []
  pub not_before : (m : ℕ) → m < n → (steps m dir).pending ≢ []

-- ---- work

-- how many numbers of the list pass the test
unfoldable pub count : (ℕ → Bool) → List ℕ → ℕ
count test [] = 0
count test (n ∷ ns) = (if test n then 1 else 0) + count test ns

-- The objects that an entry still reaches: the children above its cursor, and all that stand below these.
unfoldable pub reach : Directory → Pending → ℕ
reach dir entry = count (is_reached (parents dir) entry.parent entry.cursor) (numbers dir.objects)

-- for each entry 1, and for each object that it still reaches 2
unfoldable pub work_of : Directory → List Pending → ℕ
work_of dir [] = 0
work_of dir (entry ∷ others) = 1 + 2 * reach dir entry + work_of dir others

unfoldable pub work : Directory → ℕ
work dir = work_of dir dir.pending
