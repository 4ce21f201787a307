use Rattle.std.proofs.lemmas.Result.{on_ok_weaker}
use Rattle.ad_sets.specs.Sets.{sets_of}
use Rattle.ad_rights_judged.proofs.Keeping.{bases_kept, joins_kept}
use Rattle.ad_rights_judged.proofs.judged.Judged.put.Goals as goal

pub returns-clause-judged : goal.returns-clause-judged
returns-clause-judged c =
    let old = sets_of c.args.self.now.sets in
    let new = sets_of c.put.new.self in
    on_ok_weaker c.put.result (λ kept dir tokens was. record {
      bases = bases_kept dir tokens old new c.args.self.now.bases.known.items kept was.bases;
      joins = joins_kept old new c.args.self.now.joins.known.items kept was.joins;
    }) c.put.ensures.kept
