use Rattle.std.proofs.Common.{List, ℕ, subst, ap, ◌∙◌}
use Rattle.std.specs.Result.{OnOk}
use Rattle.ad_dn.specs.Text.{rdns_text}
use Rattle.ad_dir_model.specs.Names.{name_text}
use Rattle.ad_bytes.specs.Puts.{Puts}
use Rattle.ad_needs_rules.proofs.telling.push_name.Goals as goal

pub returns : goal.returns
unfolding name_text
returns c = subst (λ (piece : List ℕ). OnOk c.push.result (Puts c.args.into.now.items c.push.new.into.items piece))
    (c.as_slice.ensures.value ∙ c.in_ok-text.ensures.written ∙ ap rdns_text c.in_ok-dn.ensures) c.push.ensures
