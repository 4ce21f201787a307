use Rattle.ad_change_values.proofs.PileTaking.{bare_in}
use Rattle.ad_change_values.proofs.pile.is_empty_in.Goals as goal

pub returns-in-Some : goal.returns-in-Some
returns-in-Some c = bare_in c.args.all.now c.args.places.now c.in-Some.places c.is_bare.result c.in-Some.is c.requires
    c.is_bare.ensures
