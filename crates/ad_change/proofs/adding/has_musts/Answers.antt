use Rattle.std.proofs.Common.{ℕ, Bool, not, ap, ◌∙◌}
use Rattle.std.specs.BTreeSet.{contains}
use Rattle.std.specs.Ordering.{nat_cmp}
use Rattle.ad_change.specs.Adding.{is_given}
use Rattle.ad_change_values.specs.Values.{is_lacking, all_attrs}
use Rattle.ad_change.proofs.DepthLaws.{same_all}
use Rattle.ad_change.proofs.adding.has_musts.Goals as goal

pub returns : goal.returns
returns c =
    let schema = c.args.schema.now in
    c.lacks_none.ensures
    ∙ same_all (λ (attr : ℕ). not (is_lacking schema c.args.class.0 attr (contains nat_cmp c.in_ok-given.given attr)))
    (λ (attr : ℕ). not (is_lacking schema c.args.class.0 attr (is_given c.args.values.now attr))) (all_attrs schema)
    (λ attr. ap (λ (b : Bool). not (is_lacking schema c.args.class.0 attr b)) (c.in_ok-given.ensures attr))
