use Rattle.ad_load.proofs.links.link_to.Given as goal

abbrev pub ghost-target_of : goal.ghost-target_of
ghost-target_of g a = g.all
