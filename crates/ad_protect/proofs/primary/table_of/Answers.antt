use Rattle.std.proofs.Common.{ℕ, List, [], Option, ap, subst, get_or}
use Rattle.std.specs.Option.{option_map_or}
use Rattle.std.specs.Prelude.{nat_eq}
use Rattle.std.specs.Global.{Vec}
use Rattle.std.specs.Map.{lookup}
use Rattle.ad_protect.specs.Spreading.{listed, Notes}
use Rattle.ad_protect.proofs.Tables.{table_none}
use Rattle.ad_protect.proofs.Steps.{table_step, table_end}
use Rattle.ad_protect.proofs.primary.table_of.Goals as goal

pub loop-number-init : goal.loop-number-init
loop-number-init c =
    table_none c.args.dir.now (listed c.new-table.result)
    (λ rid. ap (λ (es : List (ℕ × Vec ℕ)). option_map_or (λ (v : Vec ℕ). v.items) (lookup (nat_eq rid) es) [])
    c.new-table.ensures.empty)

pub loop-number-preserved : goal.loop-number-preserved
loop-number-preserved c =
    table_step c.args.dir.now c.args.numbers.now c.loop-number.number-index (listed c.loop-number.table)
    (listed c.note_if.new.table)
    c.loop-number-test.true c.loop-number.invariant
    (subst (λ (rid : Option ℕ). Notes rid (get_or c.args.numbers.now c.loop-number.number-index 0)
    (listed c.loop-number.table) (listed c.note_if.new.table)) c.primary_of.ensures c.in_ok-note_if.ensures)

pub returns : goal.returns
returns c =
    table_end c.args.dir.now c.args.numbers.now c.loop-number.number-index (listed c.loop-number.table)
    c.loop-number-test.false c.loop-number.invariant
