use Rattle.std.proofs.Common.{◌≡◌, ℕ, ap, sym, ◌∙◌}
use Rattle.std.specs.Ordering.{nat_cmp}
use Rattle.std.specs.BTreeMap.{get}
use Rattle.sd_pool.specs.declared.parts.Parts.{Parts}
use Rattle.sd_pool.specs.Tallies.{hash, count_in, count_of_hash}
use Rattle.sd_pool.specs.Kept.{live_of}
use Rattle.sd_pool.proofs.Covering.{none_of_hash}
use Rattle.sd_pool.proofs.look_ups.holder_of.Goals as goal

pub returns-in_default : goal.returns-in_default
returns-in_default c =
    let parts : Parts = c.args.parts.now in
    let zero_is : count_of_hash (hash c.args.bytes.now) (live_of parts) ≡ 0
    = sym (c.requires.kept.tallied (hash c.args.bytes.now))
    ∙ ap (λ (h : ℕ). count_in (get nat_cmp parts.tallies h)) (sym c.requires.hash) ∙ c.in_default.ensures in
    none_of_hash c.args.bytes.now (live_of parts) zero_is
