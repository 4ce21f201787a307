use Rattle.ad_dir_model.specs.Objects.{sd_at}
use Rattle.ad_diff_rights.proofs.Naming.{one_still}
use Rattle.ad_diff_rights.proofs.named.name_both.Goals as goal

pub returns-clause-grows : goal.returns-clause-grows
returns-clause-grows c = λ sid is. c.in_ok-name_in-2.ensures.grows sid (c.in_ok-name_in.ensures.grows sid is)

pub returns-clause-there : goal.returns-clause-there
returns-clause-there c = record {
  first = one_still c.name_in.new.named.keys c.name_in-2.new.named.keys
      (sd_at c.args.before.now.objects c.args.o.before) c.in_ok-name_in-2.ensures.grows c.in_ok-name_in.ensures.there;
  second = c.in_ok-name_in-2.ensures.there;
}
