use Rattle.ad_dir_model.proofs.Named.{found_lives}
use Rattle.ad_dir.proofs.dir.Dir.find.Goals as goal

pub returns-clause-live : goal.returns-clause-live
returns-clause-live c = found_lives c.args.self.now c.args.dn.now.rdns c.found.result c.invariants.ensures.rise
    c.found.ensures
