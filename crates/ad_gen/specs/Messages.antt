-- The two messages of the sample (RFC 4511), element by element.
use Rattle.std.specs.Prelude.{ℕ, ◌^◌, List, [], ◌∷◌, ◌++◌, codes}
use Rattle.ad_ber.specs.Writing.{element_bytes, number_element}
use Rattle.ad_ldap.specs.Tags as tag
use Rattle.ad_ldap.specs.Choices.{replace_values, whole_subtree, dacl_part}
use Rattle.ad_ldap.specs.Settings.{sd_flags}
use Rattle.ad_gen.specs.Descriptor.{descriptor_bytes}

abbrev pub octets : List ℕ → List ℕ
octets bytes = element_bytes tag.octet_string bytes

abbrev pub sequence : List ℕ → List ℕ
sequence body = element_bytes tag.sequence body

-- Restricted callers (S-1-5-12) may also read and write properties, here and below.
abbrev pub wider_list : List ℕ
wider_list = codes "D:(A;CI;GA;;;BA)(A;CI;RPLCLORC;;;AU)(A;CI;RPWP;;;S-1-5-12)"

-- the attribute, and the set of its one value
unfoldable pub attribute_of_change : List ℕ
attribute_of_change = sequence (octets (codes "nTSecurityDescriptor")
    ++ element_bytes tag.set (octets (descriptor_bytes wider_list)))

-- the change: replace its value
unfoldable pub changes : List ℕ
changes = sequence (sequence (number_element tag.enumerated replace_values ++ attribute_of_change))

-- a ModifyRequest of the domain
unfoldable pub modify_request : List ℕ
modify_request = element_bytes tag.modify_request (octets (codes "DC=sample") ++ changes)

-- the value of the control below: the DACL alone
unfoldable pub list_flag : List ℕ
list_flag = sequence (number_element tag.integer (2 ^ dacl_part))

-- it is critical (of a boolean 255 is true), and has this value
unfoldable pub critical_flag : List ℕ
critical_flag = element_bytes tag.boolean (255 ∷ []) ++ octets list_flag

-- the control for the parts of a descriptor: the DACL alone
unfoldable pub list_alone : List ℕ
list_alone = sequence (octets sd_flags ++ critical_flag)

-- message 1, with its controls
unfoldable pub modify_message : List ℕ
modify_message = sequence (number_element tag.integer 1
    ++ (modify_request ++ element_bytes tag.tag_of_controls list_alone))

-- the filter (objectClass=user)
unfoldable pub filter : List ℕ
filter = element_bytes tag.equality_match (octets (codes "objectClass") ++ octets (codes "user"))

-- the whole subtree, aliases never (0), no limit of entries (0) and of time (0), and values too
unfoldable pub bounds : List ℕ
bounds = number_element tag.enumerated whole_subtree ++ (number_element tag.enumerated 0
    ++ (number_element tag.integer 0 ++ (number_element tag.integer 0 ++ element_bytes tag.boolean (0 ∷ []))))

-- a SearchRequest below the domain, for the attribute cn
unfoldable pub search_request : List ℕ
search_request = element_bytes tag.search_request (octets (codes "DC=sample")
    ++ (bounds ++ (filter ++ sequence (octets (codes "cn")))))

-- message 2
unfoldable pub search_message : List ℕ
search_message = sequence (number_element tag.integer 2 ++ search_request)
