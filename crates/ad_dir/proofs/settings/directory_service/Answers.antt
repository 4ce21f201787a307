use Rattle.std.proofs.Common.{◌∙◌, ℕ, ap, sym}
use Rattle.std.specs.Prelude.{codes}
use Rattle.std.specs.Option.{option_and_then}
use Rattle.ad_dir_model.specs.Names.{directory_service, common_name, child_of_rdn}
use Rattle.ad_dir.proofs.NameLaws.{below_four}
use Rattle.ad_dir.proofs.settings.directory_service.Goals as goal

pub returns : goal.returns
unfolding directory_service
returns c =
    let dir = c.args.dir.now in
    c.child_of.ensures
    ∙ ap (option_and_then (λ (n : ℕ). child_of_rdn dir n (common_name (codes "Directory Service"))))
    (c.child_of-windows.ensures
    ∙ ap (option_and_then (λ (n : ℕ). child_of_rdn dir n (common_name (codes "Windows NT"))))
    (c.child_of-services.ensures
    ∙ ap (option_and_then (λ (n : ℕ). child_of_rdn dir n (common_name (codes "Services"))))
    c.child_of-configuration.ensures))
    ∙ sym (below_four dir (common_name (codes "Configuration")) (common_name (codes "Services"))
    (common_name (codes "Windows NT")) (common_name (codes "Directory Service")))
