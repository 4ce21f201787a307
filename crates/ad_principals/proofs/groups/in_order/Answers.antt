use Rattle.std.proofs.Common.{rules, sym}
use Rattle.std.proofs.lemmas.List.Sorted.{list_any-IsPermutation}
use Rattle.ad_ids.specs.SidValue.{same_sid}
use Rattle.ad_principals.proofs.Rising.{sorted_rise}
use Rattle.ad_principals.proofs.groups.in_order.Goals as goal

pub returns-clause-rise : goal.returns-clause-rise
returns-clause-rise c =
    sorted_rise c.args.sids.items c.sort_unstable_by.new.self.items c.sort_unstable_by.ensures.sorted
    (λ a r f k. search rules)
    c.sort_unstable_by.ensures.permutation c.requires

pub returns-clause-same : goal.returns-clause-same
returns-clause-same c = λ sid.
    sym (list_any-IsPermutation (λ s. same_sid s sid) c.args.sids.items c.sort_unstable_by.new.self.items
    c.sort_unstable_by.ensures.permutation)
