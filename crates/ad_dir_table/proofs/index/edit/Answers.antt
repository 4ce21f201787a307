use Rattle.std.proofs.Common.{Option, subst}
use Rattle.ad_ids.specs.SidValue.{SidValue}
use Rattle.ad_dir_table.specs.NameKeys.{name_at}
use Rattle.ad_dir_table.specs.Exact.{sid_at}
use Rattle.ad_dir_table.specs.KeyChanges.{Removes}
use Rattle.ad_dir_table.specs.Lists.{listed}
use Rattle.ad_dir_table.proofs.NumberLaws.{lists_rise_more}
use Rattle.ad_dir_table.proofs.index.edit.Goals as goal

pub drop_child-requires : goal.drop_child-requires
drop_child-requires c =
    lists_rise_more c.args.changes.parents.to c.args.number c.args.index.now.children.entries
    c.add_child.new.children.entries c.requires.rise c.requires.above c.requires.new c.add_child.ensures

pub returns : goal.returns
returns c = record {
  names = record { mid = name_at c.put_name.new.names.entries; puts = c.put_name.ensures; takes = c.take_name.ensures };
  sids = record {
    mid = sid_at c.put_sid.new.sids.entries;
    puts = c.put_sid.ensures;
    takes = subst (λ (from : Option SidValue). Removes from (sid_at c.put_sid.new.sids.entries)
        (sid_at c.take_sid.new.sids.entries)) c.as_ref.ensures.value c.take_sid.ensures;
  };
  children = record {
    mid = listed c.add_child.new.children.entries;
    adds = c.add_child.ensures;
    drops
        = c.drop_child.ensures;
  };
}
