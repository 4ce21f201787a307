use Rattle.ad_gen_laws.proofs.Classes.{domain_class, system_class, sd_holder_class, administrators_class, unit_class}
use Rattle.ad_gen_laws.proofs.Classes.{user_class}
use Rattle.ad_gen_laws.proofs.laws.the_classes_of_the_sample.Goals as goal

pub returns : goal.returns
returns c = record {
  domain = domain_class;
  containers = (system_class, sd_holder_class);
  administrators = administrators_class;
  units = unit_class;
  users = user_class;
}
