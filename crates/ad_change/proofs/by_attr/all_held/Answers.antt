use Rattle.std.proofs.Common.{◌≡◌, ◌∙◌, ℕ, ◌-◌, ◌++◌, List, [], length, take, arith, map, Option, Some, None, refl}
use Rattle.std.proofs.Common.{subst, ap}
use Rattle.std.specs.Prelude.{IfOk}
use Rattle.std.proofs.lemmas.List.{append-nil}
use Rattle.ad_dir_objects.specs.Seen.{held_seen}
use Rattle.ad_dir_model.specs.Object.{Held}
use Rattle.ad_change.specs.Creating.{all_before}
use Rattle.ad_change_values.specs.ByAttr.{by_attr}
use Rattle.ad_change_values.proofs.HeldLaws.{HeldIn}
use Rattle.ad_change.proofs.AddLaws.{pops, popped_all}
use Rattle.ad_change.proofs.by_attr.all_held.Goals as goal

pub each-preserved : goal.each-preserved
each-preserved c =
    pops c.each.read.items c.pop.new.self.items c.in-Some.last (by_attr c.each.values.entries)
    (by_attr c.put_last.new.values.entries)
    (all_before (map held_seen c.args.read.items) []) c.in-Some.ensures.items c.in_ok-put_last.ensures c.each.invariant

no_item : {X : Type 0} (o : Option X) → ((x : X) → o ≡ Some x → ⊥) → o ≡ None
no_item None no' = refl
no_item (Some x) no' = absurd (no' x refl)

none_left : (items rest : List HeldIn) (len : ℕ) → len ≡ 0 → items ≡ rest ++ [] → rest ≡ take (len - 1) items
    → length items ≡ 0
none_left items rest len is made from =
    let less : len - 1 ≡ 0 = omega (arith, is) in
    ap length (made ∙ append-nil rest ∙ from ∙ ap (λ (n : ℕ). take n items) less)

pub returns : goal.returns
returns c =
    let none : c.pop.result ≡ None = no_item c.pop.result c.in_default.not-Some in
    let cases = rw none at c.pop.ensures.cases in
    let items = rw none at c.pop.ensures.items in
    subst (λ (hs : List Held). IfOk c.in_order.result (λ held. map held_seen held.items ≡ hs))
    (popped_all c.each.read.items (by_attr c.each.values.entries) (all_before (map held_seen c.args.read.items) [])
    (none_left c.each.read.items c.pop.new.self.items _ cases.0 items c.pop.ensures.rest) c.each.invariant)
    c.in_order.ensures
