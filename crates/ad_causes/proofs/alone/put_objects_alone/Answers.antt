use Rattle.std.proofs.Common.{◌≡◌, ◌∙◌, ◌++◌, ℕ, true, List, sym, ap, subst}
use Rattle.std.specs.List.{All, flat_map}
use Rattle.std.proofs.lemmas.Result.{on_ok_weaker}
use Rattle.ad_dir_model.specs.Objects.{is_live, numbers}
use Rattle.ad_both.proofs.Live.{numbers_live}
use Rattle.ad_causes.specs.Causes.{alone_causes, all_alone}
use Rattle.ad_causes.specs.Steps.{alone_text}
use Rattle.ad_causes.proofs.TextLemmas.{text_of_each}
use Rattle.ad_causes.proofs.alone.put_objects_alone.Goals as goal

pub put_all_alone-requires : goal.put_all_alone-requires
put_all_alone-requires c =
    subst (All (λ (number : ℕ). is_live c.args.dir.now.objects number ≡ true))
    (sym (c.as_slice.ensures.value ∙ c.in_ok-numbers.ensures)) (numbers_live c.args.dir.now)

pub returns : goal.returns
unfolding all_alone
returns c =
    let before = c.args.into.now.items in
    let line = alone_text c.args.more c.args.dir.now c.args.other.now in
    on_ok_weaker c.put_all_alone.result
    (λ is. is
    ∙ ap (λ (ns : List ℕ). before ++ flat_map line ns) (c.as_slice.ensures.value ∙ c.in_ok-numbers.ensures)
    ∙ ap (λ (t : List ℕ). before ++ t)
    (sym (text_of_each (alone_causes c.args.more c.args.dir.now c.args.other.now) (numbers c.args.dir.now.objects))))
    c.put_all_alone.ensures
