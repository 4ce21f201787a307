use Rattle.std.proofs.Common.{List, sym, subst, ap}
use Rattle.ad_dir_table.specs.Entry.{Entry, Holding, HaveTheirSids}
use Rattle.ad_dir_table.proofs.objects.Objects.put_sd.Goals as goal

pub returns-clause-sids : goal.returns-clause-sids
returns-clause-sids c = λ schema all.
    c.put_sd.ensures.sids schema (subst (λ (entries : List Entry). HaveTheirSids schema entries)
    (ap (λ (h : Holding). h.entries) (sym c.self.view_is)) all)
