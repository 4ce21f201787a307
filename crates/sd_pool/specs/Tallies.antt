-- How many live ids have bytes of one hash, and one of these ids.
use Rattle.std.specs.Prelude.{◌≡◌, ℕ, ◌+◌, ◌*◌, ◌==◌, Bool, if◌then◌else◌, Option, None, Some, List, [], ◌∷◌}
use Rattle.std.specs.Ordering.{nat_cmp}
use Rattle.std.specs.BTreeMap.{get, BTreeMap}
use Rattle.std.specs.Hash.DefaultHasher as sip
use Rattle.std.specs.declared.hash.DefaultHasher.{DefaultHasher}
use Rattle.sd_pool.specs.declared.tally.Tally.{Tally}
use Rattle.sd_pool.specs.Blocks.{Extent}

abbrev pub Tallies : Type 0
Tallies = BTreeMap ℕ Tally

-- two numbers of 64 bits out of one state of SipHash
abbrev pub both_of : DefaultHasher → ℕ
both_of state = sip.finish state * 18446744073709551616 + sip.finish (sip.write state (1 ∷ []))

unfoldable pub hash : List ℕ → ℕ
hash bytes = both_of (sip.write sip.initial bytes)

abbrev pub has_hash : ℕ → Extent → Bool
has_hash h extent = hash extent.bytes == h

unfoldable pub count_of_hash : ℕ → List Extent → ℕ
count_of_hash h [] = 0
count_of_hash h (extent ∷ others) = (if has_hash h extent then 1 else 0) + count_of_hash h others

abbrev pub count_in : Option Tally → ℕ
count_in None = 0
count_in (Some tally) = tally.count

-- each hash has the number of live ids of it
abbrev pub AreTallied : Tallies → List Extent → Type 0
AreTallied tallies live = (h : ℕ) → count_in (get nat_cmp tallies h) ≡ count_of_hash h live
