use Rattle.std.proofs.Common.{List, length, map, nat_lt, sym, ap, ◌∙◌}
use Rattle.std.specs.Prelude.{position}
use Rattle.std.proofs.lemmas.Bool.{eqb-true, eqb-false}
use Rattle.ad_dir_objects.specs.Seen.{held_seen}
use Rattle.ad_change_values.proofs.HeldLaws.{HeldIn, put_none, put_before, put_behind}
use Rattle.ad_change_values.proofs.held.put_stored.Goals as goal

pub returns-then-is_empty : goal.returns-then-is_empty
returns-then-is_empty c =
    put_none c.args.attr c.args.held.now.items c.args.stored c.requires
    (eqb-true (length c.args.stored) 0 (sym c.is_empty.ensures ∙ c.if-is_empty.true))

pub returns-in_ok-insert-in-Some : goal.returns-in_ok-insert-in-Some
returns-in_ok-insert-in-Some c =
    ap (map held_seen) c.in_ok-insert-in-Some.ensures.items
    ∙ put_before c.args.attr c.args.held.now.items c.args.stored c.in-Some.place c.requires
    (eqb-false (length c.args.stored) 0 (sym c.is_empty.ensures ∙ c.if-is_empty.false))
    (ap (λ (xs : List HeldIn). position (λ (x : HeldIn). nat_lt c.args.attr.0 x.0.0) xs) (sym c.as_slice.ensures.value)
    ∙ sym c.place_above.ensures.place ∙ c.in-Some.is)

pub returns-in_ok-push-in-None : goal.returns-in_ok-push-in-None
returns-in_ok-push-in-None c =
    ap (map held_seen) c.in_ok-push-in-None.ensures.items
    ∙ put_behind c.args.attr c.args.held.now.items c.args.stored c.requires
    (eqb-false (length c.args.stored) 0 (sym c.is_empty.ensures ∙ c.if-is_empty.false))
    (ap (λ (xs : List HeldIn). position (λ (x : HeldIn). nat_lt c.args.attr.0 x.0.0) xs) (sym c.as_slice.ensures.value)
    ∙ sym c.place_above.ensures.place ∙ c.in-None.is)
