use Rattle.std.proofs.Common.{ℕ, List, refl, subst}
use Rattle.cmd_call.specs.Store.{Says}
use Rattle.cmd_call.specs.declared.outcome.Outcome.TheVariants.{NoStore}
use Rattle.cmd_store.proofs.LoadBehind.{loads_behind, of_taken, of_failed}
use Rattle.cmd_store.proofs.loading.load.Goals as goal

pub returns-in-Ok-true-clause-does : goal.returns-in-Ok-true-clause-does
returns-in-Ok-true-clause-does g c =
    loads_behind g.I.Source g.S.Site
    (record { output = g.met.S.Site.left_output; until = g.met.S.Site.left_until }) c.args.source.now
    c.load_empty.new.source c.args.site.now c.are_empty.new.site c.load_empty.new.site c.load_empty.result
    c.in-Ok-true.ensures.outside (rw c.in-Ok-true.field-0-test at c.in-Ok-true.ensures).empty c.load_empty.ensures.does

pub returns-in-Ok-false-clause-does : goal.returns-in-Ok-false-clause-does
returns-in-Ok-false-clause-does g c =
    of_taken g.I.Source g.S.Site (record { output = g.met.S.Site.left_output; until = g.met.S.Site.left_until })
    c.args.source.now c.args.site.now c.are_empty.new.site c.say.new.site c.say.result
    c.in-Ok-false.ensures.outside (rw c.in-Ok-false.field-0-test at c.in-Ok-false.ensures).empty
    (subst (λ (text : List ℕ). Says g.S.Site c.are_empty.new.site c.say.new.site text NoStore c.say.result)
    c.as_bytes.ensures.value c.say.ensures)

pub returns-in-Err-clause-does : goal.returns-in-Err-clause-does
returns-in-Err-clause-does g c =
    of_failed g.I.Source g.S.Site (record { output = g.met.S.Site.left_output; until = g.met.S.Site.left_until })
    c.args.source.now c.args.site.now c.are_empty.new.site c.in-Err.ensures.outside (c.in-Err.ensures.cause refl)
