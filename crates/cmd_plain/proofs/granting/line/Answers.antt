use Rattle.std.proofs.Common.{[], ◌∷◌, ◌++◌, List, ℕ, ap, ◌∙◌}
use Rattle.hex.specs.Hex.{encode_lower}
use Rattle.ad_bytes.specs.Numbers.{be_bytes}
use Rattle.cmd_plain.proofs.granting.line.Goals as goal

pub returns : goal.returns
unfolding be_bytes
returns c = ap (λ (r : List ℕ). r ++ 10 ∷ []) (c.in-Ok.ensures.written ∙ ap encode_lower c.to_be_bytes.ensures)
