use Rattle.ad_entries.specs.Entry.{attributes_name, children_name, parts_name}
use Rattle.ad_entries.proofs.asking.apart_of.Goals as goal

pub returns : goal.returns
unfolding attributes_name children_name parts_name
returns c = record {
  descriptor = c.is_descriptor_asked.ensures;
  attributes = c.is_sent.ensures;
  children = c.is_sent-2.ensures;
  parts = c.is_sent-3.ensures;
}
