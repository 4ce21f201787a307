use Rattle.ad_load.proofs.links.stored_of.Given as goal

abbrev pub ghost-link_to : goal.ghost-link_to
ghost-link_to g a = g.all
