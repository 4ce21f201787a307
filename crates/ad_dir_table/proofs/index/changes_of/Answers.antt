use Rattle.ad_dir_table.proofs.index.changes_of.Goals as goal

pub returns : goal.returns
returns c = λ sd. record {
  names = c.in_ok-name_change.ensures sd;
  sids = c.sid_change.ensures sd;
  parents
      = c.parent_change.ensures sd;
}
