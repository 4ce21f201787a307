use Rattle.ad_gen_laws.proofs.Values.{unit_values, system_values, holder_values}
use Rattle.ad_gen_laws.proofs.laws.the_lines_of_the_sample.Goals as goal

pub returns : goal.returns
returns c = record { units = unit_values; system = system_values; holder = holder_values }
