-- Modify: its checks after the required rights, and what it makes.
use Rattle.std.specs.Prelude.{ℕ, Option, Some, None, unwrap_or}
use Rattle.std.specs.Prelude.{List, [], ◌∷◌, ◌++◌, filter}
use Rattle.std.specs.List.{flat_map}
use Rattle.ad_ids.specs.declared.token.Token.{Token}
use Rattle.ad_sd.specs.declared.parts.Sd.{Sd}
use Rattle.ad_sd.specs.declared.parts.SdParts.{SdParts}
use Rattle.ad_dir_objects.specs.declared.act.ActItem.{ActItem}
use Rattle.ad_dir_model.specs.Object.{Object}
use Rattle.ad_dir_model.specs.Objects.{object_at}
use Rattle.ad_dir_model.specs.Directory.{Directory}
use Rattle.ad_dir_model.specs.Inheritance.{written}
use Rattle.ad_dir_model.specs.Changes.{changed}
use Rattle.ad_needs_rules.specs.Checks.{Check, or_code}
use Rattle.ad_needs_rules.specs.Descriptors.{is_owner_allowed}
use Rattle.ad_change_values.specs.Values.{all_attrs}
use Rattle.ad_change_values.specs.Items.{after_items, all_item_checks, final_checks, is_item_named}
use Rattle.ad_change.specs.Tree.{fits_weight_limit}
use Rattle.ad_ldap.specs.ResultCodes.{admin_limit_exceeded, constraint_violation}

-- ---- what is written

-- a written part in place of the stored one
abbrev pub with_parts : SdParts → Sd → Sd
with_parts parts sd = record {
  owner = unwrap_or parts.owner sd.owner;
  group = unwrap_or parts.group sd.group;
  dacl = unwrap_or parts.dacl sd.dacl;
  sacl = unwrap_or parts.sacl sd.sacl;
}

abbrev pub modified_object : Directory → ℕ → List ActItem → Object
modified_object dir number items =
    let o = object_at dir.objects number in
    record o { values = after_items dir o.values items }

unfoldable pub modify_later : Directory → Token → ℕ → List ActItem → Option SdParts → List Check
modify_later dir token number items sd =
    let o = object_at dir.objects number in
    or_code (is_owner_allowed token sd) constraint_violation
    ∷ (all_item_checks dir o.values items
    ++ (flat_map (final_checks dir.schema o.class (after_items dir o.values items))
    (filter (is_item_named items) (all_attrs dir.schema))
    ++ (or_code (fits_weight_limit dir (modified_object dir number items)) admin_limit_exceeded ∷ [])))

-- Values alone leave the descriptor. Where parts of it are written, what is inherited is computed anew, and the
-- object is marked where the descriptor is another one then.
unfoldable pub modify_made : Directory → ℕ → List ActItem → Option SdParts → Directory
modify_made dir number items None = changed dir (modified_object dir number items)
modify_made dir number items (Some parts) =
    let o = modified_object dir number items in
    written dir (record o { sd = with_parts parts o.sd })
