-- The sample's messages and descriptors are read as what they say.
use Rattle.std.proofs.Common.{◌≡◌, ◌∙◌, ℕ, false, Ok, List, [], ◌∷◌, ◌++◌, refl, sym, ap, codes}
use Rattle.ad_bytes.specs.Numbers.{byte_at, be_at, part_at}
use Rattle.ad_ber.specs.Reading.{tag_at, long_at, length_behind, length_at, element_at}
use Rattle.ad_ber.specs.Writing.{element_bytes, number_element}
use Rattle.ad_sd.specs.Reading.{parts_of, sd_of}
use Rattle.ad_ldap.specs.FilterReading.{assertion_of, kind_at, item_of as filter_item_of, filter_of, filter_at}
use Rattle.ad_ldap.specs.RequestReading.{search_of, attribute_of, item_of, modify_of, op_kind_at, op_of, op_at}
use Rattle.ad_ldap.specs.MessageReading.{control_of, controls_at, id_at, body_of, message_of}
use Rattle.ad_ldap.specs.MessageValue.{ModifyOf}
use Rattle.ad_ldap.specs.Limits.{most_levels, most_int}
use Rattle.ad_ldap.specs.Settings.{settings_of}
use Rattle.ad_gen.specs.Descriptor.{descriptor_bytes}
use Rattle.ad_gen.specs.Objects.{domain_descriptor, protected_descriptor}
use Rattle.ad_gen.specs.Messages.{sequence, octets, list_alone, list_flag, critical_flag, modify_message, wider_list}
use Rattle.ad_gen.specs.Messages.{modify_request, changes}
use Rattle.ad_gen.specs.Messages.{attribute_of_change, filter, bounds, search_request, search_message}
use Rattle.ad_gen_laws.specs.Sent.{wider, domain_sd, protected_sd, change, search}
use Rattle.ad_gen_laws.proofs.Descriptors.{domain_bytes, protected_bytes, wider_bytes, domain_is, protected_is}
use Rattle.ad_gen_laws.proofs.Descriptors.{wider_is}
use Rattle.ad_gen_laws.proofs.OnMessages.{on_elements, on_reading, on_sd}

pub search_read : message_of search_message ≡ Ok search
unfolding search_message search_request bounds filter on_elements on_reading assertion_of kind_at filter_item_of
    filter_of filter_at search_of op_kind_at op_of op_at controls_at id_at body_of message_of most_levels most_int
search_read = refl

-- the same message, with a descriptor of these bytes
abbrev with_bytes : List ℕ → List ℕ
with_bytes bytes =
    sequence (number_element 2 1 ++ (element_bytes 0x66 (octets (codes "DC=sample")
    ++ sequence (sequence (number_element 10 2
    ++ sequence (octets (codes "nTSecurityDescriptor") ++ element_bytes 0x31 (octets bytes)))))
    ++ element_bytes 0xa0 list_alone))

change_of_bytes : message_of (with_bytes wider_bytes) ≡ Ok (record change {
  op = ModifyOf (record {
    dn = codes "DC=sample";
    items = record { op = 2; attr = codes "nTSecurityDescriptor"; values = wider_bytes ∷ [] } ∷ [];
  });
})
unfolding wider_bytes list_alone list_flag critical_flag on_elements on_reading attribute_of item_of modify_of
    op_kind_at op_of op_at control_of controls_at id_at body_of message_of most_int
change_of_bytes = refl

pub change_read : message_of modify_message ≡ Ok change
unfolding modify_message modify_request changes attribute_of_change
change_read =
    ap (λ (bytes : List ℕ). message_of (with_bytes bytes)) wider_is
    ∙ change_of_bytes
    ∙ ap (λ (bytes : List ℕ). Ok (record change {
      op = ModifyOf (record {
        dn = codes "DC=sample";
        items = record { op = 2; attr = codes "nTSecurityDescriptor"; values = bytes ∷ [] } ∷ [];
      });
    })) (sym wider_is)

pub change_settings : settings_of change ≡ Ok (record { sd_flags = 4; tree = false })
unfolding settings_of tag_at long_at length_behind length_at element_at byte_at be_at part_at
change_settings = refl

-- ---- descriptors

wider_bytes_read : parts_of wider_bytes ≡ Ok wider
unfolding wider_bytes on_sd
wider_bytes_read = refl

pub wider_read : parts_of (descriptor_bytes wider_list) ≡ Ok wider
wider_read = ap parts_of wider_is ∙ wider_bytes_read

domain_bytes_read : sd_of domain_bytes ≡ Ok domain_sd
unfolding domain_bytes sd_of on_sd
domain_bytes_read = refl

pub domain_read : sd_of (descriptor_bytes domain_descriptor) ≡ Ok domain_sd
domain_read = ap sd_of domain_is ∙ domain_bytes_read

protected_bytes_read : sd_of protected_bytes ≡ Ok protected_sd
unfolding protected_bytes sd_of on_sd
protected_bytes_read = refl

pub protected_read : sd_of (descriptor_bytes protected_descriptor) ≡ Ok protected_sd
protected_read = ap sd_of protected_is ∙ protected_bytes_read
