use Rattle.std.proofs.Common.{Bool, not, List, ℕ, length, ap, ◌∙◌}
use Rattle.std.specs.Prelude.{◌&&◌, ◌==◌}
use Rattle.std.specs.List.{list_all}
use Rattle.ad_change_values.proofs.values.has_no_empty_password.Goals as goal

pub returns : goal.returns
returns c = c.none_is_empty.ensures
    ∙ ap (λ (password : Bool). list_all (λ (bytes : List ℕ). not (password && length bytes == 0)) c.args.sent.now)
    c.is_password.ensures
