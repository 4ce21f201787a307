use Rattle.ad_dir_links.proofs.holders.forget_values.Goals as goal

pub each-preserved : goal.each-preserved
each-preserved c = λ t h n small apart covers. c.forget_value.ensures t h n small apart
    (c.each.invariant t h n small apart covers)
