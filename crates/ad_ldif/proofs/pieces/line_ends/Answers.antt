use Rattle.std.proofs.Common.{◌≡◌, take, drop, ap, ◌∙◌, arith}
use Rattle.ad_ldif.specs.Pieces.{line_ends}
use Rattle.ad_ldif.proofs.PieceLemmas.{ends_of_block}
use Rattle.ad_ldif.proofs.pieces.line_ends.Goals as goal

pub fronts-preserved : goal.fronts-preserved
fronts-preserved c =
    let front : c.ends_in_block.result ≡ line_ends (take 128 c.fronts.rest.now) = c.ends_in_block.ensures.count
    ∙ ap line_ends c.split_at.ensures.front in
    let behind : line_ends c.split_at.result.1.now ≡ line_ends (drop 128 c.fronts.rest.now)
    = ap line_ends c.split_at.ensures.back in
    record {
      rest = omega (
        arith,
        c.fronts.invariant.rest,
        c.from-count.ensures,
        front,
        behind,
        ends_of_block
            c.fronts.rest.now 128,
      );
      few = omega (
        arith,
        c.fronts.invariant.few,
        c.from-count.ensures,
        c.ends_in_block.ensures.few,
        c.split_at.ensures.front_len,
        c.split_at.ensures.back_len,
        c.fronts-test.true,
      );
    }
