use Rattle.std.proofs.Common.{sym, subst}
use Rattle.ad_dir_table.specs.Fields.{AllKept, AreKeyed, HasNormal}
use Rattle.ad_dir_table.proofs.Keeping.{none_shared}
use Rattle.ad_dir_table.proofs.parts.empty.Goals as goal

pub returns-clause-kept : goal.returns-clause-kept
returns-clause-kept c = record {
  keyed = subst AreKeyed (sym c.new.ensures.empty) tt;
  ordered = c.new.ensures.ordered;
  normal = subst (AllKept (HasNormal c.new-2.result.live)) (sym c.new.ensures.empty) tt;
  shared = none_shared c.new-2.result.live c.new.result.entries c.new-2.ensures.live c.new.ensures.empty;
}
