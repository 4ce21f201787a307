use Rattle.std.proofs.Common.{[]}
use Rattle.ad_dir_table.proofs.IndexLaws.{same_indexed}
use Rattle.ad_dir.proofs.indexed_objects.all_of.Goals as goal

pub put_all-requires : goal.put_all-requires
put_all-requires c = record {
  standing = c.requires;
  none = c.new-all.ensures;
  indexed = same_indexed c.args.schema.now c.new-index.result c.reserve.new.index [] c.reserve.ensures
      (c.new-index.ensures c.args.schema.now);
}
