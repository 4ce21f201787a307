use Rattle.ad_needs_rules.proofs.ValidatedLaws.{root_lives}
use Rattle.ad_needs_rules.proofs.hosts.full_name.Goals as goal

pub dn-requires : goal.dn-requires
dn-requires c = root_lives c.args.dir.now c.args.number c.invariants.ensures c.requires
