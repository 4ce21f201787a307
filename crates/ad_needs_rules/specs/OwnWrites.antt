-- Words for how validated writes are judged.
use Rattle.std.specs.Prelude.{ℕ, Bool, false, ◌==◌, ◌&&◌, if◌then◌else◌, Option, Some, None, codes, List, [], ◌∷◌}
use Rattle.std.specs.Prelude.{map, filter_map}
use Rattle.std.specs.Option.{option_map_or}
use Rattle.std.specs.List.{flat_map}
use Rattle.ad_ids.specs.declared.guid.Guid.{Guid}
use Rattle.ad_ids.specs.declared.token.Token.{Token}
use Rattle.ad_dn.specs.declared.rdn.Rdn.{Rdn}
use Rattle.ad_ldap.specs.declared.items.Item.{Item}
use Rattle.ad_dir_model.specs.Object.{Stored, plain_value}
use Rattle.ad_dir_model.specs.Attributes.{is_named, member}
use Rattle.ad_dir_model.specs.Directory.{Directory}
use Rattle.ad_needs_rules.specs.declared.validated.OwnWrite.{OwnWrite}
use Rattle.ad_needs_rules.specs.declared.validated.OwnWrite.TheVariants.{Membership, Service, HostName}
use Rattle.ad_needs_rules.specs.Validated.{self_membership, validated_spn, validated_host_name, is_domain_part}
use Rattle.ad_needs_rules.specs.Validated.{is_computer}
use Rattle.ad_needs_rules.specs.Validated.{is_own_membership, is_own_service, is_own_host_name, if_all}
use Rattle.ad_needs_rules.specs.Validated.{dot}

-- what the values show that are no links
abbrev pub shown_in : List Stored → List (List ℕ)
shown_in stored = map (λ value. value.shown) (filter_map plain_value stored)

-- a dot and the value of a part, where it is one of the domain
abbrev pub dotted_part : Rdn → List ℕ
dotted_part rdn = if is_domain_part rdn then dot ∷ rdn.value else []

abbrev pub dotted : List Rdn → List ℕ
dotted rdns = flat_map dotted_part rdns

-- ---- the three writes

abbrev pub is_valid : Directory → Token → ℕ → OwnWrite → Item → Bool
is_valid dir token number Membership item = is_own_membership dir token item
is_valid dir token number Service item = is_own_service dir number item
is_valid dir token number HostName item = is_own_host_name dir number item

abbrev pub write_guid : OwnWrite → Guid
write_guid Membership = self_membership
write_guid Service = validated_spn
write_guid HostName = validated_host_name

-- an attribute of the name, on a computer
abbrev pub is_of_computer : Directory → ℕ → List ℕ → ℕ → Bool
is_of_computer dir number name attr = is_named dir.schema name attr && is_computer dir number

-- the write that an attribute has on the object
unfoldable pub write_of : Directory → ℕ → ℕ → Option OwnWrite
write_of dir number attr =
    if option_map_or (λ own. own == attr) (member dir.schema) false then Some Membership
    else (if is_of_computer dir number (codes "servicePrincipalName") attr then Some Service
    else (if is_of_computer dir number (codes "dNSHostName") attr then Some HostName
    else None))

-- its GUID, where there is one and all items are valid
abbrev pub guid_if : Directory → Token → ℕ → List Item → Option OwnWrite → Option Guid
guid_if dir token number items None = None
guid_if dir token number items (Some write) = if_all (is_valid dir token number write) items (write_guid write)
