use Rattle.std.proofs.Common.{◌≡◌, ◌+◌, true, arith}
use Rattle.std.proofs.lemmas.List.{length-take-le}
use Rattle.ad_ldif.proofs.PieceLemmas.{none_behind, none_from}
use Rattle.ad_ldif.proofs.pieces.end_of_records.Goals as goal

pub returns-then-ends_record-clause-last : goal.returns-then-ends_record-clause-last
returns-then-ends_record-clause-last c = none_behind c.args.text.now c.lines.end (c.in-Some.at + 1)
    c.lines.invariant.within c.in-Some.ensures.0.after c.lines.invariant.none

pub lines-preserved : goal.lines-preserved
lines-preserved c = record {
  within = omega (
    arith,
    c.lines.invariant.within,
    c.in-Some.ensures.0.high,
    length-take-le c.lines.end
        c.args.text.now c.lines.invariant.within,
  );
  none = none_from c.args.text.now c.lines.end c.in-Some.at c.lines.invariant.within c.in-Some.ensures.0.after
      c.lines.invariant.none (λ ends. let found : c.ends_record.result ≡ true = c.ends_record.ensures.1 ends
      in absurd cc);
}

pub returns-clause-last : goal.returns-clause-last
returns-clause-last c = none_behind c.args.text.now c.lines.end 0 c.lines.invariant.within c.in_default.ensures
    c.lines.invariant.none
