use Rattle.std.proofs.Common.{◌≡◌, ◌∙◌, ℕ, true, sym, ap, subst}
use Rattle.std.specs.List.{All}
use Rattle.ad_dir.proofs.NameLaws.{if_ok}
use Rattle.ad_dir_model.specs.Objects.{is_live}
use Rattle.ad_both.specs.Both.{both_among, IsLiveBoth}
use Rattle.ad_both.proofs.Live.{numbers_live, all_live}
use Rattle.ad_both.proofs.both.objects_of_both.Goals as goal

pub both_among-requires : goal.both_among-requires
both_among-requires c =
    subst (All (λ (number : ℕ). is_live c.args.before.now.objects number ≡ true))
    (sym (c.as_slice.ensures.value ∙ c.in_ok-numbers.ensures)) (numbers_live c.args.before.now)

pub returns-clause-live : goal.returns-clause-live
returns-clause-live c =
    if_ok c.both_among.result
    (λ all are. subst (All (IsLiveBoth c.args.before.now c.args.after.now))
    (sym (are ∙ ap (both_among c.args.before.now c.args.after.now) (c.as_slice.ensures.value
    ∙ c.in_ok-numbers.ensures)))
    (all_live c.args.before.now c.args.after.now c.invariants.ensures.rise))
    c.both_among.ensures
