use Rattle.std.proofs.Common.{ℕ, ◌∙◌}
use Rattle.ad_dir_model.specs.Objects.{object_at}
use Rattle.ad_dir_model.specs.Directory.{put_object}
use Rattle.ad_dir_model.specs.Changes.{goes_with}
use Rattle.ad_change.specs.Removing.{loses, unlinked_at}
use Rattle.ad_change.proofs.EditLists.{adds_one, adds_none}
use Rattle.ad_change.proofs.Unlinked.{loses_is}
use Rattle.ad_change.proofs.unlinking.push_unlinking.Goals as goal

pub returns-in_ok-push : goal.returns-in_ok-push
returns-in_ok-push c =
    let goes = goes_with c.args.dir.now c.args.target in
    let o = object_at c.args.dir.now.objects c.args.number in
    adds_one c.args.edits.now c.push.new.self c.in_ok-unlinking.field-0
    (λ (n : ℕ). put_object (unlinked_at c.args.dir.now c.args.target n)) c.args.number
    (loses goes o) (loses_is goes c.live_object.result.now o c.as_slice.result.now c.loses.result
    c.live_object.ensures c.as_slice.ensures c.loses.ensures ∙ c.if-loses.true)
    c.in_ok-push.ensures.ok c.in_ok-unlinking.ensures.seen c.in_ok-unlinking.ensures.normal

pub returns-else-loses : goal.returns-else-loses
returns-else-loses c =
    let goes = goes_with c.args.dir.now c.args.target in
    let o = object_at c.args.dir.now.objects c.args.number in
    adds_none c.args.edits.now (λ (n : ℕ). put_object (unlinked_at c.args.dir.now c.args.target n)) c.args.number
    (loses goes o)
    (loses_is goes c.live_object.result.now o c.as_slice.result.now c.loses.result c.live_object.ensures
    c.as_slice.ensures c.loses.ensures ∙ c.if-loses.false)
