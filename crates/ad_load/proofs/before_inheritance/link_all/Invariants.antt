use Rattle.ad_load.proofs.before_inheritance.link_all.Given as goal

abbrev pub ghost-before_of : goal.ghost-before_of
ghost-before_of g a = g.all
