use Rattle.std.proofs.Common.{Bool, not, sym, ap, ◌∙◌}
use Rattle.ad_load_objects.specs.Had.{is_had}
use Rattle.ad_load_objects.specs.Seen.{given_seen}
use Rattle.ad_load_objects.proofs.ManyValues.{had_more}
use Rattle.ad_load_objects.proofs.seen_values.note.Goals as goal

pub returns-then-single-clause-had : goal.returns-then-single-clause-had
returns-then-single-clause-had c = λ given are.
    had_more given (given_seen c.args.one.now) c.args.had.now
    (record { attrs = c.insert.new.self; values = c.insert-2.new.self }) c.in_ok-key.key
    are c.in_ok-key.ensures c.in_ok-new_attr.ensures.updates c.in_ok-new_value.ensures.updates

pub returns-else-single-clause-new : goal.returns-else-single-clause-new
returns-else-single-clause-new c = λ given are.
    c.in_ok-new_value.ensures.added
    ∙ ap not (are.values c.args.one.now.attr.0 c.args.one.now.value.key c.in_ok-key.key c.in_ok-key.ensures)
    ∙ ap (λ (single : Bool). not (is_had single (given_seen c.args.one.now) given)) (sym c.if-single.false)

pub returns-else-single-clause-had : goal.returns-else-single-clause-had
returns-else-single-clause-had c = λ given are.
    had_more given (given_seen c.args.one.now) c.args.had.now
    (record { attrs = c.insert.new.self; values = c.insert-2.new.self }) c.in_ok-key.key
    are c.in_ok-key.ensures c.in_ok-new_attr.ensures.updates c.in_ok-new_value.ensures.updates
