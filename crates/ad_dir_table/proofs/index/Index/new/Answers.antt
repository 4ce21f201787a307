use Rattle.ad_dir_table.proofs.IndexLaws.{none_indexed}
use Rattle.ad_dir_table.proofs.index.Index.new.Goals as goal

pub returns : goal.returns
returns c = λ schema. none_indexed schema
    (record { names = c.new.result; sids = c.new-2.result; children = c.new-3.result }) c.new.ensures.empty
    c.new-2.ensures.empty c.new-3.ensures.empty
