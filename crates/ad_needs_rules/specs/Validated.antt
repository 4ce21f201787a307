-- Validated writes: when the right to do one stands beside that to write the attribute ([MS-ADTS] 3.1.1.5.3.1.1).
use Rattle.std.specs.Prelude.{ℕ, ◌+◌, Bool, false, not, ◌==◌, ◌&&◌, ◌||◌, if◌then◌else◌, Option, Some, None}
use Rattle.std.specs.Prelude.{codes, List, [], ◌∷◌, ◌++◌, length, map, filter, filter_map, drop, position}
use Rattle.std.specs.Option.{option_map_or, option_and_then}
use Rattle.std.specs.List.{list_all, list_any}
use Rattle.std.specs.Str.{bytes_eq, is_utf8}
use Rattle.ad_ids.specs.declared.guid.Guid.{Guid}
use Rattle.ad_ids.specs.declared.token.Token.{Token}
use Rattle.ad_dn.specs.declared.rdn.Rdn.{Rdn}
use Rattle.ad_ldap.specs.declared.items.Item.{Item}
use Rattle.ad_schema.specs.Classes.{is_a}
use Rattle.ad_dir_model.specs.Object.{plain_value, stored_in}
use Rattle.ad_dir_model.specs.Objects.{object_at}
use Rattle.ad_dir_model.specs.Tree.{root}
use Rattle.ad_dir_model.specs.Attributes.{attr_place, is_named, member}
use Rattle.ad_dir_model.specs.Identity.{is_sid, self_sid}
use Rattle.ad_dir_model.specs.Directory.{Directory}
use Rattle.ad_dir_model.specs.Names.{rdns_of, found, same_folded}
use Rattle.ad_needs_rules.specs.Requests.{name_in, class_at}
use Rattle.ad_ldap.specs.Choices.{replace_values, delete_values}

-- ---- GUIDs, in packet order

-- Self-Membership, bf9679c0-0de6-11d0-a285-00aa003049e2
abbrev pub self_membership : Guid
self_membership = record {
  bytes = 0xc0 ∷ 0x79 ∷ 0x96 ∷ 0xbf ∷ 0xe6 ∷ 0x0d ∷ 0xd0 ∷ 0x11 ∷ 0xa2 ∷ 0x85 ∷ 0x00 ∷ 0xaa
      ∷ 0x00 ∷ 0x30 ∷ 0x49 ∷ 0xe2 ∷ [];
}

-- Validated-SPN, f3a64788-5306-11d1-a9c5-0000f80367c1
abbrev pub validated_spn : Guid
validated_spn = record {
  bytes = 0x88 ∷ 0x47 ∷ 0xa6 ∷ 0xf3 ∷ 0x06 ∷ 0x53 ∷ 0xd1 ∷ 0x11 ∷ 0xa9 ∷ 0xc5 ∷ 0x00 ∷ 0x00
      ∷ 0xf8 ∷ 0x03 ∷ 0x67 ∷ 0xc1 ∷ [];
}

-- Validated-DNS-Host-Name, 72e39547-7b18-11d1-adef-00c04fd8d5cd
abbrev pub validated_host_name : Guid
validated_host_name = record {
  bytes = 0x47 ∷ 0x95 ∷ 0xe3 ∷ 0x72 ∷ 0x18 ∷ 0x7b ∷ 0xd1 ∷ 0x11 ∷ 0xad ∷ 0xef ∷ 0x00
      ∷ 0xc0 ∷ 0x4f ∷ 0xd8 ∷ 0xd5 ∷ 0xcd ∷ [];
}

-- the class computer, bf967a86-0de6-11d0-a285-00aa003049e2
abbrev pub computer : Guid
computer = record {
  bytes = 0x86 ∷ 0x7a ∷ 0x96 ∷ 0xbf ∷ 0xe6 ∷ 0x0d ∷ 0xd0 ∷ 0x11 ∷ 0xa2 ∷ 0x85 ∷ 0x00 ∷ 0xaa ∷ 0x00
      ∷ 0x30 ∷ 0x49 ∷ 0xe2 ∷ [];
}

-- ---- characters

abbrev pub slash : ℕ
slash = 47

abbrev pub dot : ℕ
dot = 46

-- ---- helpers

-- bytes that aren't UTF-8 are equal to nothing by folding
abbrev pub equals_folded : List ℕ → List ℕ → Bool
equals_folded a b = is_utf8 a && (is_utf8 b && same_folded a b)

-- the one value passes the test
abbrev pub is_one : (List ℕ → Bool) → List (List ℕ) → Bool
is_one test (value ∷ []) = test value
is_one test _ = false

-- the object is a computer, by its class or one above it
abbrev pub is_computer : Directory → ℕ → Bool
is_computer dir number = is_a dir.schema (class_at dir number) computer

-- ---- membership: the caller's own account, one value at a time, added or deleted

abbrev pub names_user : Directory → Token → List ℕ → Bool
names_user dir token value = option_map_or (λ number. is_sid token.user (self_sid dir number))
    (option_and_then (found dir) (name_in value)) false

unfoldable pub is_own_membership : Directory → Token → Item → Bool
is_own_membership dir token item = not (item.op == replace_values) && is_one (names_user dir token) item.values

-- ---- service principal names: `service/host`, where the host is the computer's name or one of its stored host names

-- what stands before and after the only slash, neither part empty
unfoldable pub host_in : List ℕ → Option (List ℕ)
host_in value = option_and_then (λ at. if at == 0 || list_any (λ b. b == slash) (drop (at + 1) value)
    || length (drop (at + 1) value) == 0 then None else Some (drop (at + 1) value)) (position (λ b. b == slash) value)

-- the stored host names of an object
abbrev pub host_names : Directory → ℕ → List (List ℕ)
host_names dir number =
    option_map_or (λ attr. map (λ value. value.shown) (filter_map plain_value
    (stored_in (object_at dir.objects number).values attr))) (attr_place dir.schema (codes "dNSHostName")) []

abbrev pub is_own_host : Directory → ℕ → List ℕ → Bool
is_own_host dir number host = list_any (equals_folded host)
    ((object_at dir.objects number).name ∷ host_names dir number)

unfoldable pub is_own_service : Directory → ℕ → Item → Bool
is_own_service dir number item =
    not (length item.values == 0) && list_all (λ value. option_map_or (is_own_host dir number) (host_in value) false)
    item.values

-- ---- the host name: the computer's name, a dot, and the domain's name

abbrev pub is_domain_part : Rdn → Bool
is_domain_part rdn = bytes_eq rdn.kind (codes "DC")

-- the values joined by dots
abbrev pub joined : List (List ℕ) → List ℕ
joined [] = []
joined (value ∷ []) = value
joined (value ∷ other ∷ others) = value ++ dot ∷ joined (other ∷ others)

unfoldable pub domain_name : Directory → List ℕ
domain_name dir = joined (map (λ rdn. rdn.value) (filter is_domain_part (rdns_of dir root)))

unfoldable pub is_own_host_name : Directory → ℕ → Item → Bool
is_own_host_name dir number item =
    not (item.op == delete_values) && is_one (λ value.
    equals_folded value ((object_at dir.objects number).name ++ dot ∷ domain_name dir)) item.values

-- ---- the right that stands beside the one to write

abbrev pub if_all : (Item → Bool) → List Item → Guid → Option Guid
if_all test items guid = if list_all test items then Some guid else None

-- The validated write of an attribute, where all of its items are valid.
unfoldable pub validated_write : Directory → Token → ℕ → ℕ → List Item → Option Guid
validated_write dir token number attr items =
    if option_map_or (λ own. own == attr) (member dir.schema) false then if_all (is_own_membership dir token) items
    self_membership
    else (if is_named dir.schema (codes "servicePrincipalName") attr && is_computer dir number
    then if_all (is_own_service dir number) items validated_spn
    else (if is_named dir.schema (codes "dNSHostName") attr && is_computer dir number
    then if_all (is_own_host_name dir number) items validated_host_name
    else None))
