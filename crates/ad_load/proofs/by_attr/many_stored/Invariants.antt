use Rattle.ad_load.proofs.by_attr.many_stored.Given as goal

abbrev pub ghost-all_by_attr : goal.ghost-all_by_attr
ghost-all_by_attr g a = g.all
