use Rattle.ad_load.proofs.links.add_object.Given as goal

abbrev pub ghost-object_of : goal.ghost-object_of
ghost-object_of g a = g.all
