use Rattle.ad_load.proofs.by_attr.add_given.Given as goal

abbrev pub ghost-stored_of : goal.ghost-stored_of
ghost-stored_of g a = g.all
