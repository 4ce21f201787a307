use Rattle.std.proofs.Common.{◌≡◌, ◌∙◌, List, sym, subst}
use Rattle.prop_queue.specs.declared.pending.Pending.{Pending}
use Rattle.ad_dir_objects.specs.Seen.{objects_of}
use Rattle.ad_rows_sound.specs.Least.{lesser, IsLeastObject}
use Rattle.ad_rows_sound.specs.Parts.{IsStanding, dir_of}
use Rattle.ad_rows_sound.specs.Told.{IsSoundAmong}
use Rattle.ad_rows_sound.proofs.Judged.{least_among}
use Rattle.ad_rows_sound.proofs.Leasts.{lesser_none}
use Rattle.ad_rows_sound.proofs.judging.first_unsound.Goals as goal

pub returns-clause-bad : goal.returns-clause-bad
returns-clause-bad c = λ none.
    let bad = c.args.bad in
    let astray = c.in_ok-astray.astray in
    lesser_none bad astray (sym c.lesser-alone.ensures ∙ lesser_none c.lesser-alone.result c.lesser-shared.result
    (sym c.lesser.ensures ∙ none))

pub returns-clause-least : goal.returns-clause-least
returns-clause-least c = λ is_bad meta.
    let schema = c.args.schema.now in
    let objects = objects_of c.args.objects.now in
    let pending = c.args.pending.now in
    let same : lesser (lesser c.args.bad c.in_ok-astray.astray) (lesser c.in_ok-name.name c.in_ok-sid.sid)
    ≡ c.lesser.result = (λ i. lesser (sym c.lesser-alone.ensures i) (sym c.lesser-shared.ensures i))
    ∙ sym c.lesser.ensures in
    subst (IsLeastObject (IsSoundAmong (dir_of schema objects pending meta)) objects) same
    (least_among schema objects pending meta c.args.bad c.in_ok-astray.astray c.in_ok-name.name c.in_ok-sid.sid is_bad
    (subst (λ (waiting : List Pending). IsLeastObject (IsStanding schema objects waiting) objects
    c.in_ok-astray.astray) c.in_ok-waiting.ensures c.in_ok-astray.ensures)
    c.in_ok-name.ensures c.in_ok-sid.ensures)
