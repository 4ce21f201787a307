use Rattle.std.proofs.Common.{Bool, Some, cond, sym, ap, ◌∙◌}
use Rattle.std.specs.Prelude.{if◌then◌else◌}
use Rattle.ad_change_values.specs.StoredKeys.{same_by}
use Rattle.ad_change_values.specs.Piles.{since_in}
use Rattle.ad_change_values.proofs.places.put_new.Goals as goal

pub returns-then-contains_key : goal.returns-then-contains_key
returns-then-contains_key c = λ other.
    sym (ap (λ (b : Bool). if b then since_in c.args.places.now other else cond (same_by c.args.key other)
    (Some c.args.place) (since_in c.args.places.now other))
    (sym c.contains_key.ensures ∙ c.if-contains_key.true))

pub returns : goal.returns
returns c = λ other.
    c.in_ok-put.ensures other
    ∙ sym (ap (λ (b : Bool). if b then since_in c.args.places.now other else cond (same_by c.args.key other)
    (Some c.args.place) (since_in c.args.places.now other))
    (sym c.contains_key.ensures ∙ c.if-contains_key.false))
