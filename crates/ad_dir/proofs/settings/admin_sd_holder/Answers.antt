use Rattle.std.proofs.Common.{◌∙◌, ℕ, ap, sym}
use Rattle.std.specs.Prelude.{codes}
use Rattle.std.specs.Option.{option_and_then}
use Rattle.ad_dir_model.specs.Names.{admin_sd_holder, common_name, child_of_rdn}
use Rattle.ad_dir.proofs.NameLaws.{below_two}
use Rattle.ad_dir.proofs.settings.admin_sd_holder.Goals as goal

pub returns : goal.returns
unfolding admin_sd_holder
returns c =
    let dir = c.args.dir.now in
    c.child_of.ensures
    ∙ ap (option_and_then (λ (n : ℕ). child_of_rdn dir n (common_name (codes "AdminSDHolder"))))
    c.child_of-system.ensures
    ∙ sym (below_two dir (common_name (codes "System")) (common_name (codes "AdminSDHolder")))
