use Rattle.std.proofs.Common.{map}
use Rattle.std.specs.Option.{option_copied}
use Rattle.std.proofs.lemmas.Result.{err_from_is_err_and}
use Rattle.ad_bytes.specs.Reading.{many_at}
use Rattle.ad_bytes.proofs.Many.{ends, is_done}
use Rattle.ad_dir_objects.specs.Seen.{held_seen}
use Rattle.ad_rows.specs.Parsing.{held_at}
use Rattle.ad_rows.proofs.Growing.{held_more, seen_more}
use Rattle.ad_rows.proofs.attributes.each_attribute.Goals as goal

pub loop-preserved : goal.loop-preserved
loop-preserved c =
    let so_far = c.loop.invariant in
    let put = c.in_ok-push.ensures.items in
    let read = held_at (option_copied c.args.schema) in (
      held_more (option_copied c.args.schema) held_seen c.loop.all.items c.push.new.self.items
          c.in_ok-attribute.attribute c.loop.good c.in_ok-attribute.fits c.both-good.result c.both-good.ensures
          so_far.0 c.in_ok-attribute.ensures.good put,
      seen_more read held_seen c.loop.all.items c.push.new.self.items c.in_ok-attribute.attribute c.args.count
          c.loop.counter c.loop.input c.next_attribute.new.input (many_at read c.args.count c.args.input.now)
          c.loop-test.true c.in_ok-attribute.ensures.read so_far.1 put,
    )

pub returns-in_err-attribute-clause-read : goal.returns-in_err-attribute-clause-read
returns-in_err-attribute-clause-read c =
    let read = held_at (option_copied c.args.schema) in
    let p = err_from_is_err_and c.from_residual-in_err-attribute.result c.from_residual-in_err-attribute.ensures.1 in
    rw (p.1, p.2) (λ not_memory. ends read c.in_err-attribute.field-0.0 (map held_seen c.loop.all.items) c.args.count
    c.loop.counter c.loop.input (many_at read c.args.count c.args.input.now) c.loop-test.true
    (c.in_err-attribute.ensures.read not_memory) c.loop.invariant.1)

pub returns-clause-read : goal.returns-clause-read
returns-clause-read c =
    let read = held_at (option_copied c.args.schema) in
    is_done read (map held_seen c.loop.all.items) c.args.count c.loop.counter c.loop.input
    (many_at read c.args.count c.args.input.now) c.loop-test.false c.loop.invariant.1
