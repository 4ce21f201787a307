use Rattle.std.proofs.Common.{List, map, nat_eq, sym, ap, ◌∙◌}
use Rattle.std.specs.Prelude.{position}
use Rattle.ad_dir_objects.specs.Seen.{stored_seen, held_seen}
use Rattle.ad_change_values.proofs.HeldLaws.{HeldIn, taken, not_there}
use Rattle.ad_change_values.proofs.held.take_stored.Goals as goal

pub returns-in-Some-clause-taken : goal.returns-in-Some-clause-taken
returns-in-Some-clause-taken c =
    (taken c.args.attr.0 c.args.held.now.items c.in-Some.place c.remove-stored.result c.requires
    (ap (λ (xs : List HeldIn). position (λ (x : HeldIn). nat_eq x.0.0 c.args.attr.0) xs) (sym c.as_slice.ensures.value)
    ∙ sym c.place_of.ensures.place ∙ c.in-Some.is) c.remove-stored.ensures.value).1

pub returns-in-Some-clause-left : goal.returns-in-Some-clause-left
returns-in-Some-clause-left c =
    ap (map held_seen) c.remove-stored.ensures.items
    ∙ (taken c.args.attr.0 c.args.held.now.items c.in-Some.place c.remove-stored.result c.requires
    (ap (λ (xs : List HeldIn). position (λ (x : HeldIn). nat_eq x.0.0 c.args.attr.0) xs) (sym c.as_slice.ensures.value)
    ∙ sym c.place_of.ensures.place ∙ c.in-Some.is) c.remove-stored.ensures.value).0

pub returns-in-None-clause-taken : goal.returns-in-None-clause-taken
returns-in-None-clause-taken c =
    ap (map stored_seen) c.new.ensures
    ∙ sym (not_there c.args.attr.0 c.args.held.now.items
    (ap (λ (xs : List HeldIn). position (λ (x : HeldIn). nat_eq x.0.0 c.args.attr.0) xs) (sym c.as_slice.ensures.value)
    ∙ sym c.place_of.ensures.place ∙ c.in-None.is)).1

pub returns-in-None-clause-left : goal.returns-in-None-clause-left
returns-in-None-clause-left c =
    sym (not_there c.args.attr.0 c.args.held.now.items
    (ap (λ (xs : List HeldIn). position (λ (x : HeldIn). nat_eq x.0.0 c.args.attr.0) xs) (sym c.as_slice.ensures.value)
    ∙ sym c.place_of.ensures.place ∙ c.in-None.is)).0
