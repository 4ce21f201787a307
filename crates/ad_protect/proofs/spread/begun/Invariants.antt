use Rattle.std.proofs.Common.{take, []}
use Rattle.std.specs.Prelude.{◌&&◌}
use Rattle.ad_dir_model.specs.Identity.{self_sid}
use Rattle.ad_dir_model.specs.Protection.{has, begins_protection}
use Rattle.ad_protect.specs.Spreading.{Takes}
use Rattle.ad_protect.proofs.spread.begun.Given as goal

-- those so far are taken at which protection begins
abbrev pub invariant-loop-number : goal.invariant-loop-number
invariant-loop-number l = Takes (λ n. has (take l.number-index l.numbers) n && begins_protection l.dir
    (self_sid l.dir n)) [] l.taken.keys
