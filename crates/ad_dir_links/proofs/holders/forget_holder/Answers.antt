use Rattle.ad_dir_links.proofs.holders.forget_holder.Goals as goal

pub returns : goal.returns
returns c = λ t h n small apart covers. c.forget_all.ensures t h n small apart
    (c.forget_name.ensures t h n small apart covers)
