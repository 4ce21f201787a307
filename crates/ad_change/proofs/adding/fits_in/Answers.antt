use Rattle.ad_change.proofs.AddLaws.{fits_is}
use Rattle.ad_change.proofs.adding.fits_in.Goals as goal

pub returns : goal.returns
returns c = λ o new.
    fits_is c.args.dir.now o c.args.object.now c.args.gets_sid c.are_few-few.result c.may_have_children-shallow.result
    c.fits_weight_limit-light.result
    c.has_counters-counted.result c.all_four.result new c.are_few-few.ensures c.may_have_children-shallow.ensures
    c.fits_weight_limit-light.ensures
    c.has_counters-counted.ensures c.all_four.ensures
