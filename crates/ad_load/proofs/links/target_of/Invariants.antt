use Rattle.ad_load.proofs.links.target_of.Given as goal

abbrev pub ghost-number_in : goal.ghost-number_in
ghost-number_in g a = g.all
