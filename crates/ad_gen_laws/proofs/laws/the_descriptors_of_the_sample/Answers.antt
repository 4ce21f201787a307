use Rattle.ad_gen_laws.proofs.Sent.{domain_read, protected_read}
use Rattle.ad_gen_laws.proofs.laws.the_descriptors_of_the_sample.Goals as goal

pub returns : goal.returns
returns c = record { domain = domain_read; protected = protected_read }
