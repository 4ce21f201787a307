use Rattle.std.proofs.Common.{sym, subst}
use Rattle.std.proofs.lemmas.Bool.{both_ways}
use Rattle.ad_search.specs.Needed.{IsMet, HasMet, AreMet}
use Rattle.ad_search.proofs.NeedLaws.{any_met, all_met}
use Rattle.ad_search.proofs.index_plan.+look.Goals as goal

pub may_meet_within-returns-in-AnyOf : goal.may_meet_within-returns-in-AnyOf
may_meet_within-returns-in-AnyOf t c = λ never met.
    let dir = c.args.dir.now in
    let n = c.args.number in
    c.may_meet_one.ensures never (subst (HasMet dir n) (sym c.as_slice.ensures.value)
    ((any_met dir n c.in-AnyOf.plans).0 (subst (IsMet dir n) c.in-AnyOf.is met)))

pub may_meet_within-returns-in-AllOf : goal.may_meet_within-returns-in-AllOf
may_meet_within-returns-in-AllOf t c = λ never met.
    let dir = c.args.dir.now in
    let n = c.args.number in
    c.may_meet_all.ensures never (subst (AreMet dir n) (sym c.as_slice-in-AllOf.ensures.value)
    ((all_met dir n c.in-AllOf.plans).0 (subst (IsMet dir n) c.in-AllOf.is met)))

pub may_meet_within-returns-in-One : goal.may_meet_within-returns-in-One
may_meet_within-returns-in-One t c = λ never met.
    let shows = subst (IsMet c.args.dir.now c.args.number) c.in-One.is met in
    both_ways _ (c.may_show.ensures never shows.plain) shows.value

pub may_meet_within-returns-in-Present : goal.may_meet_within-returns-in-Present
may_meet_within-returns-in-Present t c = λ never met.
    let shows = subst (IsMet c.args.dir.now c.args.number) c.in-Present.is met in
    shows.some (c.may_show_some.ensures never shows.plain)
