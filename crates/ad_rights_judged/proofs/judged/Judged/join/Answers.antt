use Rattle.ad_sets.specs.Sets.{sets_of}
use Rattle.ad_rights_judged.proofs.Keeping.{on_ok_two, bases_kept}
use Rattle.ad_rights_judged.proofs.judged.Judged.join.Goals as goal

pub returns-clause-judged : goal.returns-clause-judged
returns-clause-judged c =
    on_ok_two c.join_of.result _ _ _ (λ known kept dir tokens was. record {
      bases = bases_kept dir tokens (sets_of c.args.self.now.sets) (sets_of c.join_of.new.sets)
          c.args.self.now.bases.known.items kept was.bases;
      joins = known;
    }) c.join_of.ensures.known c.join_of.ensures.kept
