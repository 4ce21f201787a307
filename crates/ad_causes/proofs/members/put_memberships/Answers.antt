use Rattle.std.proofs.Common.{◌≡◌, ◌∙◌, ◌++◌, ℕ, true, List, sym, ap, subst}
use Rattle.std.specs.List.{All, flat_map}
use Rattle.std.proofs.lemmas.Result.{on_ok_weaker}
use Rattle.ad_dir_model.specs.Objects.{is_live, numbers}
use Rattle.ad_both.proofs.Live.{numbers_live}
use Rattle.ad_causes.specs.Members.{group_causes, membership_causes}
use Rattle.ad_causes.specs.Steps.{group_text}
use Rattle.ad_causes.proofs.TextLemmas.{text_of_each}
use Rattle.ad_causes.proofs.members.put_memberships.Goals as goal

pub put_groups-requires : goal.put_groups-requires
put_groups-requires c =
    subst (All (λ (number : ℕ). is_live c.args.dir.now.objects number ≡ true))
    (sym (c.as_slice.ensures.value ∙ c.in_ok-numbers.ensures)) (numbers_live c.args.dir.now)

pub returns : goal.returns
unfolding membership_causes
returns c =
    let before = c.args.into.now.items in
    let line = group_text c.args.more c.args.dir.now c.args.other.now in
    on_ok_weaker c.put_groups.result
    (λ is. is
    ∙ ap (λ (ns : List ℕ). before ++ flat_map line ns) (c.as_slice.ensures.value ∙ c.in_ok-numbers.ensures)
    ∙ ap (λ (t : List ℕ). before ++ t)
    (sym (text_of_each (group_causes c.args.more c.args.dir.now c.args.other.now) (numbers c.args.dir.now.objects))))
    c.put_groups.ensures
