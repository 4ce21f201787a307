use Rattle.ad_load.proofs.links.object_of.Given as goal

abbrev pub ghost-all_stored : goal.ghost-all_stored
ghost-all_stored g a = g.all
