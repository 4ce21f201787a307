use Rattle.std.proofs.Common.{◌∙◌, ℕ, false, ◌++◌, List, ap, sym, subst, true, ◌≡◌}
use Rattle.std.specs.Prelude.{All}
use Rattle.ad_dir_model.specs.Objects.{is_live}
use Rattle.ad_policies.specs.Policies.{policies_over}
use Rattle.ad_policies.proofs.Putting.{over_lives}
use Rattle.ad_policies.proofs.policies.policies_of.Goals as goal

pub returns-clause-live : goal.returns-clause-live
returns-clause-live c =
    subst (λ (xs : List ℕ). All (λ n. is_live c.args.dir.now.objects n ≡ true) xs)
    (sym (c.in_ok-put_all.ensures
    ∙ ap (λ (xs : List ℕ). xs ++ policies_over c.args.dir.now false c.as_slice.result.now)
    c.new-policies.ensures.items))
    (over_lives c.args.dir.now c.invariants.ensures.rise false c.as_slice.result.now)
