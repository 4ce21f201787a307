use Rattle.std.proofs.Common.{◌∙◌, ◌-◌, ◌<◌, ℕ, sym, subst, arith}
use Rattle.std.proofs.lemmas.Result.{on_ok_weaker}
use Rattle.ad_causes.specs.Counts.{counted, IsNoted}
use Rattle.ad_causes.proofs.CountLemmas.{kept_new, kept_old}
use Rattle.ad_causes.proofs.counting.keep.Goals as goal

pub returns-then-count-eq0 : goal.returns-then-count-eq0
returns-then-count-eq0 c =
    kept_new c.args.table.now c.args.found.now.items c.push_copy.new.found.items c.args.text.now
    (sym c.count_in-count.ensures ∙ omega (arith, c.if-count-eq0.true)) c.in_ok-push_copy.ensures

pub returns : goal.returns
returns c =
    let some : 0 < counted c.args.table.now c.args.text.now =
    subst (λ (n : ℕ). 0 < n) c.count_in-count.ensures (omega (arith, c.if-count-eq0.false)) in
    on_ok_weaker c.note.result
    (λ noted. kept_old c.args.table.now c.note.new.table c.args.found.now.items c.args.text.now some
    (subst (λ (n : ℕ). IsNoted c.args.table.now c.note.new.table c.args.text.now (n - 1)) c.count_in-count.ensures noted))
    c.note.ensures
