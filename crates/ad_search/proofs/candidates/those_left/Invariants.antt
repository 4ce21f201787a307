use Rattle.std.proofs.Common.{◌≡◌, ℕ, true, ◌++◌, drop}
use Rattle.std.specs.List.{AllByRecursion}
use Rattle.ad_ldap.specs.MessageValue.{search_seen}
use Rattle.ad_dir_model.specs.Objects.{is_live}
use Rattle.ad_search.specs.Needles.{HaveSameEntries}
use Rattle.ad_search.proofs.candidates.those_left.Given as goal

-- those that are left so far and those that weren't looked at have the entries of all
abbrev pub invariant-each : goal.invariant-each
invariant-each l =
    HaveSameEntries l.dir (search_seen l.search) (l.left.items ++ drop l.number-index l.numbers) l.numbers
    × AllByRecursion (λ (n : ℕ). is_live l.dir.objects n ≡ true) l.left.items
