use Rattle.std.proofs.Common.{get_or, arith}
use Rattle.ad_ldif.proofs.PieceLemmas.{no_ends, next_end, at_most_one}
use Rattle.ad_ldif.proofs.pieces.ends_in_block.Goals as goal

pub loop-byte-preserved : goal.loop-byte-preserved
loop-byte-preserved c = record {
  rest = omega (
    arith,
    c.loop-byte.invariant.rest,
    c.one_end-count.ensures,
    next_end c.args.block.now
        c.loop-byte.byte-index c.loop-byte-test.true,
  );
  few = omega (
    arith,
    c.loop-byte.invariant.few,
    c.one_end-count.ensures,
    at_most_one
        (get_or c.args.block.now c.loop-byte.byte-index 0),
  );
}

pub returns : goal.returns
returns c = omega (
  arith,
  c.loop-byte.invariant.rest,
  no_ends c.args.block.now c.loop-byte.byte-index
      (omega (arith, c.loop-byte-test.false)),
)
