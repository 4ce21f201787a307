-- The least cursor of each pending parent.
use Rattle.std.specs.Prelude.{◌≡◌, ℕ, min, Bool, false, nat_lt, Option, None, Some, List}
use Rattle.std.specs.Ordering.{nat_cmp}
use Rattle.std.specs.BTreeMap.{get, BTreeMap}
use Rattle.std.specs.BTreeSet.{contains, BTreeSet}
use Rattle.prop_queue.specs.declared.pending.Pending.{Pending}
use Rattle.prop_queue.specs.Pending.{is_pending}
use Rattle.ad_dir_model.specs.Inheritance.{covers}

-- the cursor of a parent is below the child
abbrev pub is_below : Option ℕ → ℕ → Bool
is_below None child = false
is_below (Some cursor) child = nat_lt cursor child

-- the lesser of two cursors, where there is an earlier one
abbrev pub least_of : Option ℕ → ℕ → ℕ
least_of None cursor = cursor
least_of (Some earlier) cursor = min cursor earlier

-- each pending parent has its least cursor
abbrev pub AreLeast : BTreeMap ℕ ℕ → List Pending → Type 0
AreLeast least pending = (parent child : ℕ) → is_below (get nat_cmp least parent) child ≡ covers pending parent child

-- the set has the pending parents
abbrev pub AreParents : BTreeSet ℕ → List Pending → Type 0
AreParents parents pending = (parent : ℕ) → contains nat_cmp parents parent ≡ is_pending parent pending
