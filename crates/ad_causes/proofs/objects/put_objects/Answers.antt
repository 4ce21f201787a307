use Rattle.std.proofs.Common.{◌≡◌, ◌∙◌, ◌++◌, ℕ, List, sym, ap, subst}
use Rattle.std.specs.List.{All, flat_map}
use Rattle.std.proofs.lemmas.Result.{on_ok_weaker}
use Rattle.ad_both.specs.declared.both.Both.{Both}
use Rattle.ad_both.specs.Both.{objects_of_both, IsLiveBoth}
use Rattle.ad_causes.specs.Causes.{object_causes, all_objects}
use Rattle.ad_causes.specs.Steps.{object_text}
use Rattle.ad_causes.proofs.TextLemmas.{text_of_each}
use Rattle.ad_causes.proofs.objects.put_objects.Goals as goal

pub put_each-requires : goal.put_each-requires
put_each-requires c =
    subst (All (IsLiveBoth c.args.before.now c.args.after.now)) (sym c.as_slice.ensures.value)
    c.in_ok-objects.ensures.live

pub returns : goal.returns
unfolding all_objects
returns c =
    let old = c.args.into.now.items in
    let line = object_text c.args.before.now c.args.after.now in
    on_ok_weaker c.put_each.result
    (λ is. is
    ∙ ap (λ (os : List Both). old ++ flat_map line os) (c.as_slice.ensures.value ∙ c.in_ok-objects.ensures.are)
    ∙ ap (λ (t : List ℕ). old ++ t)
    (sym (text_of_each (object_causes c.args.before.now c.args.after.now)
    (objects_of_both c.args.before.now c.args.after.now))))
    c.put_each.ensures
