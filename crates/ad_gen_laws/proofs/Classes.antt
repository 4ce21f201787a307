-- The classes of the sample's objects.
use Rattle.std.proofs.Common.{ℕ, refl}
use Rattle.std.specs.Prelude.{⊤}
use Rattle.ad_schema_classes.specs.Names.{same_name, place_of}
use Rattle.ad_schema_classes.specs.Chains.{option_at, chain_within, chain, first_along, naming_by}
use Rattle.ad_schema.specs.Attributes.{lines_of, names_of}
use Rattle.ad_schema.specs.Numbers.{digits_behind, number, number_below}
use Rattle.ad_schema.specs.Fields.{value_of}
use Rattle.ad_schema.specs.Classes.{class_named, superclass, own_naming, superclasses, own_namings, chain_of, cn_of}
use Rattle.ad_schema.specs.Classes.{naming_of, class_guid, class_info, class_infos, classes_of}
use Rattle.ad_schema_defaults.specs.NewClass.{lowest_of, is_structural}
use Rattle.ad_dir_model.specs.Attributes.{attr_name}
use Rattle.ad_load_objects.specs.Through.{through}
use Rattle.ad_load_objects.specs.Objects.{with_class, classes_named, class_of}
use Rattle.ad_gen_laws.specs.Plain.{fields_from}
use Rattle.ad_gen_laws.specs.Base.{attributes, classes, rights, base_schema}
use Rattle.ad_gen_laws.specs.Sample.{domain, system, sd_holder, administrators, unit, user, IsOfClass}

unfoldable on_classes-1 : ⊤
unfolding fields_from class_of classes_named with_class through class_named lowest_of is_structural chain_of chain
    chain_within option_at
on_classes-1 = tt

unfoldable on_classes-2 : ⊤
unfolding superclasses superclass lines_of names_of place_of same_name value_of classes_of class_infos class_info
    class_guid own_namings own_naming
on_classes-2 = tt

unfoldable pub on_classes : ⊤
unfolding on_classes-1 on_classes-2 naming_by first_along cn_of naming_of digits_behind number number_below attributes
    classes rights base_schema
on_classes = tt

pub domain_class : IsOfClass 1 domain
unfolding on_classes attr_name
domain_class = record { class_is = λ line k. refl; naming = refl }

pub system_class : IsOfClass 3 system
unfolding on_classes attr_name
system_class = record { class_is = λ line k. refl; naming = refl }

pub sd_holder_class : IsOfClass 3 sd_holder
unfolding on_classes attr_name
sd_holder_class = record { class_is = λ line k. refl; naming = refl }

pub administrators_class : IsOfClass 4 administrators
unfolding on_classes attr_name
administrators_class = record { class_is = λ line k. refl; naming = refl }

pub unit_class : (i : ℕ) → IsOfClass 2 (unit i)
unfolding on_classes attr_name
unit_class i = record { class_is = λ line k. refl; naming = refl }

pub user_class : (i j : ℕ) → IsOfClass 5 (user i j)
unfolding on_classes attr_name
user_class i j = record { class_is = λ line k. refl; naming = refl }
