use Rattle.std.proofs.Common.{◌≡◌, ℕ, ap, ◌∙◌}
use Rattle.std.specs.Prelude.{filter}
use Rattle.std.proofs.lemmas.Result.{IfOk-weaker}
use Rattle.std.specs.Global.{Vec}
use Rattle.ad_dir_model.specs.Protection.{protected}
use Rattle.ad_protect.specs.Spreading.{is_protected}
use Rattle.ad_protect.proofs.Least.{those_protected}
use Rattle.ad_protect.proofs.listing.protected.Goals as goal

pub returns : goal.returns
returns c =
    let whole = ap (filter (is_protected c.args.dir.now c.in_ok-taken.taken.keys))
    (c.as_slice-2.ensures.value ∙ c.in_ok-numbers.ensures)
    ∙ those_protected c.args.dir.now c.in_ok-taken.taken.keys c.requires.rise c.in_ok-taken.ensures in
    IfOk-weaker c.those_protected.result (λ (v : Vec ℕ). v.items
    ≡ filter (is_protected c.args.dir.now c.in_ok-taken.taken.keys) c.as_slice-2.result.now)
    (λ (v : Vec ℕ). v.items ≡ protected c.args.dir.now) (λ v is. is ∙ whole) c.those_protected.ensures
