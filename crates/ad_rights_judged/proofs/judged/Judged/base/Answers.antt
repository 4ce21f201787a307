use Rattle.ad_sets.specs.Sets.{sets_of}
use Rattle.ad_rights_judged.proofs.Keeping.{on_ok_two, joins_kept}
use Rattle.ad_rights_judged.proofs.judged.Judged.base.Goals as goal

pub returns-clause-judged : goal.returns-clause-judged
returns-clause-judged c =
    on_ok_two c.base_of.result _ _ _ (λ known kept. record {
      bases = known;
      joins = joins_kept (sets_of c.args.self.now.sets) (sets_of c.base_of.new.sets) c.args.self.now.joins.known.items
          kept c.requires.judged.joins;
    }) c.base_of.ensures.known c.base_of.ensures.kept
