use Rattle.std.proofs.Common.{◌∷◌, [], length, map, ap, arith}
use Rattle.std.specs.Option.{option_copied}
use Rattle.std.proofs.lemmas.List.{length-append}
use Rattle.std.proofs.lemmas.Result.{err_from_is_err_and}
use Rattle.ad_bytes.specs.Reading.{many_at}
use Rattle.ad_bytes.proofs.Many.{ends, is_done}
use Rattle.ad_dir_objects.specs.Seen.{stored_seen}
use Rattle.ad_rows.specs.Parsing.{stored_at}
use Rattle.ad_rows.proofs.Growing.{values_more, seen_more}
use Rattle.ad_rows.proofs.attributes.each_value.Goals as goal

pub loop-preserved : goal.loop-preserved
loop-preserved c =
    let so_far = c.loop.invariant in
    let put = c.in_ok-push.ensures.ok in
    let read = stored_at (option_copied c.args.schema) c.args.attr.0 in (
      (let longer = ap length put in let sum = length-append c.loop.values (c.in_ok-value.value ∷ []) in let before
          = so_far.0 in omega (arith, longer, sum, before)),
      values_more (option_copied c.args.schema) c.args.attr.0 stored_seen c.loop.values c.push.new.self
          c.in_ok-value.value c.loop.good c.in_ok-value.fits c.both-good.result c.both-good.ensures so_far.1
          c.in_ok-value.ensures.good put,
      seen_more read stored_seen c.loop.values c.push.new.self c.in_ok-value.value c.args.count c.loop.counter
          c.loop.input c.next_value.new.input (many_at read c.args.count c.args.input.now) c.loop-test.true
          c.in_ok-value.ensures.stored so_far.2 put,
    )

pub returns-in_err-value-clause-read : goal.returns-in_err-value-clause-read
returns-in_err-value-clause-read c =
    let read = stored_at (option_copied c.args.schema) c.args.attr.0 in
    let p = err_from_is_err_and c.from_residual.result c.from_residual.ensures.1 in
    rw (p.1, p.2) (λ not_memory. ends read c.in_err-value.field-0.0 (map stored_seen c.loop.values) c.args.count
    c.loop.counter c.loop.input (many_at read c.args.count c.args.input.now) c.loop-test.true
    (c.in_err-value.ensures.stored not_memory) c.loop.invariant.2)

pub returns-clause-read : goal.returns-clause-read
returns-clause-read c =
    let read = stored_at (option_copied c.args.schema) c.args.attr.0 in
    is_done read (map stored_seen c.loop.values) c.args.count c.loop.counter c.loop.input
    (many_at read c.args.count c.args.input.now) c.loop-test.false c.loop.invariant.2
