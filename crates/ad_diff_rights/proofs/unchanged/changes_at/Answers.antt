use Rattle.std.proofs.Common.{◌≡◌, [], Option, IfOk, subst}
use Rattle.std.specs.Option.{option_map_or}
use Rattle.ad_diff_rights.specs.declared.tokens.Party.{Party}
use Rattle.ad_diff_rights.specs.Own.{changes_in}
use Rattle.ad_diff_rights.proofs.unchanged.changes_at.Goals as goal

pub returns-in-Some : goal.returns-in-Some
returns-in-Some c =
    let sides = c.args.sides.now in
    subst (λ (p : Option Party). IfOk c.lines_of.result (λ lines. lines.items ≡ option_map_or
    (λ (q : Party). changes_in sides.before.now sides.after.now q.was q.is c.args.own c.args.o) p []))
    c.in-Some.ensures c.lines_of.ensures

pub returns-in-None : goal.returns-in-None
returns-in-None c =
    let sides = c.args.sides.now in
    subst (λ (p : Option Party). c.new.result.items ≡ option_map_or
    (λ (q : Party). changes_in sides.before.now sides.after.now q.was q.is c.args.own c.args.o) p [])
    c.in-None.ensures c.new.ensures.items
