use Rattle.std.proofs.Common.{◌≡◌, drop}
use Rattle.ad_dir_model.specs.Edits.{all_marked}
use Rattle.ad_protect.specs.Putting.{sd_given}
use Rattle.ad_protect.proofs.marks.marked_all.Given as goal

-- what the numbers that are left make of the list is what all make of it
abbrev pub invariant-loop-number : goal.invariant-loop-number
invariant-loop-number l = all_marked l.dir (sd_given l.given) (drop l.number-index l.numbers) l.queue
    ≡ all_marked l.dir (sd_given l.given) l.numbers l.dir.pending
