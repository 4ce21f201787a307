use Rattle.std.proofs.Common.{ℕ, Option, sym, subst}
use Rattle.std.proofs.lemmas.Result.{on_ok_weaker}
use Rattle.ad_protect.specs.Spreading.{listed, Notes}
use Rattle.ad_protect.proofs.Tables.{notes_some, notes_none}
use Rattle.ad_protect.proofs.primary.note_if.Goals as goal

pub returns-in-Some : goal.returns-in-Some
returns-in-Some c =
    on_ok_weaker c.note.result
    (λ all. subst (λ (rid : Option ℕ). Notes rid c.args.number (listed c.args.table.now) (listed c.note.new.table))
    (sym c.in-Some.is)
    (notes_some c.in-Some.rid c.args.number (listed c.args.table.now) (listed c.note.new.table) all))
    c.note.ensures

pub returns-in-None : goal.returns-in-None
returns-in-None c =
    subst (λ (rid : Option ℕ). Notes rid c.args.number (listed c.args.table.now) (listed c.args.table.now))
    (sym c.in-None.is)
    (notes_none c.args.number (listed c.args.table.now))
