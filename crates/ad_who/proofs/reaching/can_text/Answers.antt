use Rattle.std.proofs.Common.{◌≡◌, ◌∙◌, ℕ, true, sym, subst}
use Rattle.std.specs.List.{All}
use Rattle.std.proofs.lemmas.List.Elements.{All-from_recursion}
use Rattle.ad_dir_model.specs.Objects.{is_live, numbers}
use Rattle.ad_dir_model.proofs.Counting.{all_numbers}
use Rattle.ad_who.proofs.reaching.can_text.Goals as goal

pub put_can_lines-requires-clause-live : goal.put_can_lines-requires-clause-live
put_can_lines-requires-clause-live c =
    let objects = c.args.dir.now.objects in
    let P : ℕ → Type 0 = λ number. is_live objects number ≡ true in
    subst (All P) (sym (c.as_slice.ensures.value ∙ c.in_ok-numbers.ensures))
    (All-from_recursion P (numbers objects) (all_numbers P objects (λ number live. live)))
