use Rattle.std.proofs.Common.{[], ◌∷◌, ◌++◌, refl, ◌∙◌}
use Rattle.std.proofs.lemmas.Result.{err_from_is_err_and}
use Rattle.ad_bytes.specs.Reading.{many_at}
use Rattle.ad_bytes.proofs.Many.{goes_on, ends, is_done}
use Rattle.ad_ids.specs.TokenReading.{marked_at, groups_at}
use Rattle.ad_ids.proofs.TokenGroups.{enabled_of-push, deny_only_of-push}
use Rattle.ad_ids.proofs.token_reading.groups.Goals as goal

pub returns-in_err-mark : goal.returns-in_err-mark
unfolding groups_at
returns-in_err-mark c =
    let p = err_from_is_err_and c.from_residual.result c.from_residual.ensures.1 in
    let so_far = c.loop.invariant in
    rw (p.1, p.2) (λ _. rw (ends marked_at c.in_err-mark.field-0.0 so_far.0 c.args.count c.loop.counter c.loop.input
    (many_at marked_at c.args.count c.args.input.now) c.loop-test.true c.in_err-mark.ensures so_far.3) refl)

pub loop-preserved : goal.loop-preserved
loop-preserved c =
    let so_far = c.loop.invariant in
    let mark = c.in_ok-mark.mark in
    let sid = c.in_ok-mark.sid in (
      so_far.0 ++ (mark, sid) ∷ [],
      c.in_ok-put_group.ensures.enabled ∙ rw (so_far.1, enabled_of-push so_far.0 mark sid) refl,
      c.in_ok-put_group.ensures.deny_only ∙ rw (so_far.2, deny_only_of-push so_far.0 mark sid) refl,
      goes_on marked_at so_far.0 c.args.count c.loop.counter c.loop.input (mark, sid) c.marked.new.input
          (many_at marked_at c.args.count c.args.input.now) c.loop-test.true c.in_ok-mark.ensures so_far.3,
    )

pub returns : goal.returns
unfolding groups_at
returns c =
    let so_far = c.loop.invariant in
    rw (
      c.indexed.ensures,
      c.indexed-2.ensures,
      is_done marked_at so_far.0 c.args.count c.loop.counter c.loop.input
          (many_at marked_at c.args.count c.args.input.now) c.loop-test.false so_far.3,
      so_far.1,
      so_far.2,
    ) refl
