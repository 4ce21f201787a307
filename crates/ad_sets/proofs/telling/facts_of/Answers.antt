use Rattle.ad_sets.specs.Sets.{sets_of}
use Rattle.ad_sets.specs.Telling.{told_of}
use Rattle.ad_sets.proofs.Numbering.{rows_next, rows_end}
use Rattle.ad_sets.proofs.telling.facts_of.Goals as goal

pub loop-row-preserved : goal.loop-row-preserved
loop-row-preserved c =
    let l = c.loop-row in
    record {
      hints = c.in_ok-tell.ensures.hints;
      facts = rows_next (sets_of c.args.sets.now) (told_of l.told) (told_of c.tell.new.told) c.args.rows.now l.row-index _
          l.facts.items c.tell.new.facts.items _ c.loop-row-test.true c.in_ok-tell.ensures.tells l.invariant.facts;
    }

pub returns : goal.returns
returns c = λ values are.
    let l = c.loop-row in
    rows_end (sets_of c.args.sets.now) (told_of l.told) c.args.rows.now l.row-index l.facts.items values
    c.loop-row-test.false l.invariant.facts are
