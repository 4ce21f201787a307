use Rattle.std.proofs.Common.{List, refl, ◌∙◌}
use Rattle.ad_dir_model.specs.Object.{Held}
use Rattle.ad_needs_rules.specs.Checks.{first_failing}
use Rattle.ad_change_values.proofs.finals.judge_if.Goals as goal

pub returns-then-named : goal.returns-then-named
returns-then-named c = λ (held : List Held) is. rw c.if-named.true (c.judge_attr.ensures held (c.count_of.ensures ∙ is))

pub returns : goal.returns
unfolding first_failing
returns c = λ (held : List Held) is. rw c.if-named.false (refl, tt)
