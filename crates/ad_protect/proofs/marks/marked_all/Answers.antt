use Rattle.std.proofs.Common.{◌≡◌, ◌∙◌, true, ap}
use Rattle.ad_dir_model.specs.Objects.{is_live}
use Rattle.ad_dir_model.specs.Edits.{all_marked}
use Rattle.ad_protect.specs.Putting.{sd_given}
use Rattle.ad_protect.proofs.Steps.{live_here, marks_step, marks_end}
use Rattle.ad_protect.proofs.marks.marked_all.Goals as goal

pub loop-number-init : goal.loop-number-init
loop-number-init c =
    ap (all_marked c.args.dir.now (sd_given c.args.given.now) c.args.numbers.now)
    (c.in_ok-queue.ensures ∙ c.queue.ensures)

pub loop-number-preserved : goal.loop-number-preserved
loop-number-preserved c =
    marks_step c.args.dir.now (sd_given c.args.given.now) c.args.numbers.now c.loop-number.number-index
    c.loop-number.queue c.mark_if.new.queue
    (all_marked c.args.dir.now (sd_given c.args.given.now) c.args.numbers.now c.args.dir.now.pending)
    c.changes_sd.result
    c.loop-number-test.true (live_here (λ n. is_live c.args.dir.now.objects n ≡ true) c.args.numbers.now
    c.loop-number.number-index c.requires.live c.loop-number-test.true)
    c.changes_sd.ensures c.in_ok-mark_if.ensures c.loop-number.invariant

pub returns : goal.returns
returns c =
    c.into_entries.ensures.entries ∙ marks_end c.args.dir.now (sd_given c.args.given.now) c.args.numbers.now
    c.loop-number.number-index c.loop-number.queue
    (all_marked c.args.dir.now (sd_given c.args.given.now) c.args.numbers.now c.args.dir.now.pending)
    c.loop-number-test.false c.loop-number.invariant
