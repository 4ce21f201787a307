use Rattle.std.proofs.Common.{◌∙◌, ℕ, List, ap}
use Rattle.ad_dir_model.specs.Protection.{has}
use Rattle.ad_control_placed.proofs.Found.{taken_all}
use Rattle.ad_control_placed.proofs.places.Places.of.Goals as goal

pub returns : goal.returns
returns c = λ nodes graph. record {
  holder = c.admin_sd_holder.ensures;
  protected = λ n. taken_all c.as_slice.result.now c.in_ok-protected.protected.keys c.in_ok-protected.ensures n
      ∙ ap (λ (l : List ℕ). has l n) (c.as_slice.ensures.value ∙ c.in_ok-all.ensures);
  links = c.new.ensures c.args.dir.now nodes graph;
}
