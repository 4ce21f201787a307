use Rattle.std.proofs.Common.{List, Some, sym, subst}
use Rattle.ad_dir_table.specs.Entry.{Entry, objects_in, HaveTheirSids}
use Rattle.ad_dir_table.specs.Indexed.{IsIndexed}
use Rattle.ad_dir_links.specs.Counted.{AreCounted}
use Rattle.ad_dir_links.proofs.Laws.{none_counted}
use Rattle.ad_dir.specs.Standing.{AreStanding}
use Rattle.ad_dir.specs.Weighing.{Weighs}
use Rattle.ad_dir.proofs.WeighingLaws.{none_weigh}
use Rattle.ad_dir.proofs.StandingLaws.{none_stand}
use Rattle.ad_dir.proofs.dir.Dir.new.Goals as goal

pub invariant_of-result : goal.invariant_of-result
invariant_of-result c = record {
  sids = subst (HaveTheirSids c.args.schema) (sym c.new.ensures) tt;
  standing = subst (λ (entries : List Entry). AreStanding c.args.schema (objects_in entries)) (sym c.new.ensures)
      (none_stand c.args.schema);
  indexed = subst (λ (entries : List Entry). IsIndexed c.args.schema c.new-2.result (objects_in entries))
      (sym c.new.ensures) (c.new-2.ensures c.args.schema);
  linked = subst (λ (entries : List Entry). AreCounted c.in_ok-indexed.indexed.items c.new-3.result.entries
      (objects_in entries)) (sym c.new.ensures) (none_counted c.in_ok-indexed.indexed.items c.new-3.result.entries);
  weighs = subst (λ (entries : List Entry). Weighs c.args.schema (Some 0) (objects_in entries)) (sym c.new.ensures)
      (none_weigh c.args.schema);
}
