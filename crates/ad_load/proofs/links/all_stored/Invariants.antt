use Rattle.ad_load.proofs.links.all_stored.Given as goal

abbrev pub ghost-few_stored : goal.ghost-few_stored
ghost-few_stored g a = g.all

abbrev pub ghost-many_stored : goal.ghost-many_stored
ghost-many_stored g a = g.all
