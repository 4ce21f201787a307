use Rattle.std.proofs.Common.{◌≡◌, ◌∙◌, ℕ, List, ◌++◌, true, sym, ap, subst}
use Rattle.std.specs.Prelude.{filter}
use Rattle.std.specs.List.{All}
use Rattle.std.proofs.lemmas.List.Elements.{All-from_recursion, All-filter}
use Rattle.ad_dir_model.specs.Objects.{is_live, numbers}
use Rattle.ad_dir_model.specs.Changes.{goes_with}
use Rattle.ad_dir_model.proofs.Counting.{all_numbers}
use Rattle.ad_rights_rows.proofs.rows.below.Goals as goal

pub put_below-requires : goal.put_below-requires
put_below-requires c =
    let objects = c.args.dir.now.objects in
    let P : ℕ → Type 0 = λ number. is_live objects number ≡ true in
    subst (All P) (sym (c.as_slice.ensures.value ∙ c.in_ok-all.ensures))
    (All-from_recursion P (numbers objects) (all_numbers P objects (λ number live. live)))

pub returns-clause-live : goal.returns-clause-live
returns-clause-live c =
    let objects = c.args.dir.now.objects in
    let P : ℕ → Type 0 = λ number. is_live objects number ≡ true in
    subst (All P) (sym (c.in_ok-put_below.ensures
    ∙ ap (λ (l : List ℕ). l ++ filter (goes_with c.args.dir.now c.args.base) c.as_slice.result.now) c.new-found.ensures.items
    ∙ ap (filter (goes_with c.args.dir.now c.args.base)) (c.as_slice.ensures.value ∙ c.in_ok-all.ensures)))
    (All-filter (goes_with c.args.dir.now c.args.base) P (numbers objects)
    (All-from_recursion P (numbers objects) (all_numbers P objects (λ number live. live))))
