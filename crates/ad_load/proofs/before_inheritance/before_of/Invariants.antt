use Rattle.ad_load.proofs.before_inheritance.before_of.Given as goal

abbrev pub ghost-check : goal.ghost-check
ghost-check g a = g.all
