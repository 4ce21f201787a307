-- The default texts of the sample's classes are read.
use Rattle.std.proofs.Common.{◌≡◌, Some, Ok, refl}
use Rattle.ad_schema.specs.Classes.{classes_of, class_infos, class_info, class_guid}
use Rattle.ad_load_objects.specs.Through.{through}
use Rattle.ad_load.specs.Links.{with_default, all_defaults}
use Rattle.ad_gen_laws.specs.Base.{base_schema}
use Rattle.ad_gen_laws.specs.Drafts.{domain_sid}
use Rattle.ad_gen_laws.proofs.OnDescriptors.{on_sddl}
use Rattle.ad_gen_laws.proofs.Classes.{on_classes}

pub defaults_read : all_defaults base_schema (Some domain_sid) ≡ Ok tt
unfolding on_classes on_sddl all_defaults with_default through classes_of class_infos class_info class_guid
defaults_read = refl
