use Rattle.ad_change_values.proofs.PileTaking.{there_in}
use Rattle.ad_change_values.proofs.pile.has_in.Goals as goal

pub returns-in_ok-there-in-Some : goal.returns-in_ok-there-in-Some
returns-in_ok-there-in-Some c =
    there_in c.args.all.now c.args.places.now c.in-Some.places c.args.one.now c.in_ok-there-in-Some.there c.in-Some.is
    c.requires c.in_ok-there-in-Some.ensures
