use Rattle.ad_dir_table.proofs.index.take_out.Goals as goal

pub returns : goal.returns
returns c = λ sd. record {
  names = c.take_name_of.ensures sd;
  sids = c.take_sid.ensures;
  children
      = c.drop_child.ensures;
}
