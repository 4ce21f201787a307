-- What is true of each change record that is read.
use Rattle.std.specs.Prelude.{ℕ, ◌≤◌, List}
use Rattle.std.specs.List.{AllByRecursion}
use Rattle.ad_ldif.specs.declared.change.LdifItem.{LdifItem}
use Rattle.ad_ldif.specs.Change.{Op, Adds, Deletes, Renames, Modifies, Change}

-- each item adds, deletes or replaces
abbrev pub HasOps : Op → Type 0
HasOps (Modifies items) = AllByRecursion (λ item. item.op ≤ 2) items
HasOps _ = Unit {0}

abbrev pub HasItemOps : Change → Type 0
HasItemOps c = HasOps c.op
