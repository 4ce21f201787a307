-- How a request is read, with the fault that stands first.
use Rattle.std.specs.Prelude.{ℕ, ◌==◌, not, nat_eq, List, [], ◌∷◌, length, Option, None, Some, Result, Ok, Err}
use Rattle.std.specs.Prelude.{if◌then◌else◌}
use Rattle.ad_bytes.specs.Reading.{Reading, ◌>>=◌, need}
use Rattle.ad_ldap.specs.declared.fault.LdapFault.{LdapFault}
use Rattle.ad_ldap.specs.declared.items.Item.{Item}
use Rattle.ad_ldap.specs.declared.requests.Modify.{Modify}
use Rattle.ad_ldap.specs.declared.requests.Add.{Add}
use Rattle.ad_ldap.specs.declared.requests.Rename.{Rename}
use Rattle.ad_ldap.specs.declared.requests.Compare.{Compare}
use Rattle.ad_ldap.specs.declared.request_reading.OpKind.{OpKind}
use Rattle.ad_ldap.specs.declared.request_reading.OpKind.TheVariants as kind
use Rattle.ad_ldap.specs.Limits.{most_levels, most_int}
use Rattle.ad_ldap.specs.MessageValue.{SearchValue, OpValue, Bind, Unbind, SearchOf, ModifyOf, AddOf, DeleteOf}
use Rattle.ad_ldap.specs.MessageValue.{RenameOf, CompareOf, Abandon, Extended}
use Rattle.ad_ldap.specs.Reading.{form, ok_or, body_at, ended, some, number_at, boolean_at, option_at, inside_at}
use Rattle.ad_ldap.specs.Reading.{each_of, values_of}
use Rattle.ad_ldap.specs.FilterReading.{assertion_of, filter_at}
use Rattle.ad_ldap.specs.Tags.{octet_string, enumerated, integer, boolean, sequence, set, new_superior, bind_request}
use Rattle.ad_ldap.specs.Tags.{unbind_request, search_request, modify_request, add_request, delete_request}
use Rattle.ad_ldap.specs.Tags.{rename_request, compare_request, abandon_request, extended_request}
use Rattle.ad_ldap.specs.Choices.{whole_subtree, deref_always, replace_values}

unfoldable pub search_of : ℕ → List ℕ → Result SearchValue LdapFault
search_of end bytes = do
  base ← body_at octet_string end bytes
  scope ← number_at enumerated whole_subtree end base.1
  aliases ← number_at enumerated deref_always end scope.1
  size ← number_at integer most_int end aliases.1
  time ← number_at integer most_int end size.1
  types_only ← boolean_at boolean end time.1
  filter ← filter_at most_levels end types_only.1
  attrs ← inside_at sequence values_of end filter.1
  _ ← ended end attrs.1
  Ok (record {
    base = base.0;
    scope = scope.0;
    size = size.0;
    types_only = types_only.0;
    filter = filter.0;
    attrs
        = attrs.0;
  })

-- an attribute with its values
unfoldable pub attribute_of : ℕ → List ℕ → Result (List ℕ × List (List ℕ)) LdapFault
attribute_of end bytes = do
  attr ← body_at octet_string end bytes
  values ← inside_at set values_of end attr.1
  _ ← ended end values.1
  Ok (attr.0, values.0)

unfoldable pub item_of : ℕ → List ℕ → Result Item LdapFault
item_of end bytes = do
  op ← number_at enumerated replace_values end bytes
  attr ← inside_at sequence attribute_of end op.1
  _ ← ended end attr.1
  Ok (record { op = op.0; attr = attr.0.0; values = attr.0.1 })

unfoldable pub modify_of : ℕ → List ℕ → Result Modify LdapFault
modify_of end bytes = do
  dn ← body_at octet_string end bytes
  items ← inside_at sequence (each_of (inside_at sequence item_of)) end dn.1
  _ ← ended end items.1
  Ok (record { dn = dn.0; items = items.0 })

-- octet strings up to the end, one at least
unfoldable pub some_values_of : ℕ → List ℕ → Result (List (List ℕ)) LdapFault
some_values_of end bytes = do
  _ ← some end bytes
  values_of end bytes

-- an attribute of a new object, with its values
unfoldable pub new_of : ℕ → List ℕ → Result (List ℕ × List (List ℕ)) LdapFault
new_of end bytes = do
  attr ← body_at octet_string end bytes
  values ← inside_at set some_values_of end attr.1
  _ ← ended end values.1
  Ok (attr.0, values.0)

unfoldable pub add_of : ℕ → List ℕ → Result Add LdapFault
add_of end bytes = do
  dn ← body_at octet_string end bytes
  attrs ← inside_at sequence (each_of (inside_at sequence new_of)) end dn.1
  _ ← ended end attrs.1
  Ok (record { dn = dn.0; attrs = attrs.0 })

unfoldable pub rename_of : ℕ → List ℕ → Result Rename LdapFault
rename_of end bytes = do
  dn ← body_at octet_string end bytes
  rdn ← body_at octet_string end dn.1
  «delete» ← boolean_at boolean end rdn.1
  superior ← option_at new_superior end «delete».1
  _ ← ended end superior.1
  Ok (record { dn = dn.0; rdn = rdn.0; keep = not «delete».0; superior = superior.0 })

unfoldable pub compare_of : ℕ → List ℕ → Result Compare LdapFault
compare_of end bytes = do
  dn ← body_at octet_string end bytes
  assertion ← inside_at sequence assertion_of end dn.1
  _ ← ended end assertion.1
  Ok (record { dn = dn.0; attr = assertion.0.0; value = assertion.0.1 })

-- ---- the request

abbrev pub op_by_tag : ℕ → Option OpKind
op_by_tag tag =
    if nat_eq tag bind_request then Some kind.Bind
    else if nat_eq tag unbind_request then Some kind.Unbind
    else if nat_eq tag search_request then Some kind.Search
    else if nat_eq tag modify_request then Some kind.Modify
    else if nat_eq tag add_request then Some kind.Add
    else if nat_eq tag delete_request then Some kind.Delete
    else if nat_eq tag rename_request then Some kind.Rename
    else if nat_eq tag compare_request then Some kind.Compare
    else if nat_eq tag abandon_request then Some kind.Abandon
    else if nat_eq tag extended_request then Some kind.Extended
    else None

-- which request begins here
unfoldable pub op_kind_at : ℕ → List ℕ → Result OpKind LdapFault
op_kind_at end [] = Err (form end [])
op_kind_at end (tag ∷ bytes) = ok_or (form end (tag ∷ bytes)) (op_by_tag tag)

-- a request of this kind
unfoldable pub op_of : OpKind → ℕ → List ℕ → Reading OpValue LdapFault
op_of kind.Bind end bytes = body_at bind_request end bytes >>= λ x. Ok (Bind, x.1)
op_of kind.Unbind end bytes = body_at unbind_request end bytes >>= λ x. Ok (Unbind, x.1)
op_of kind.Search end bytes = inside_at search_request search_of end bytes >>= λ x. Ok (SearchOf x.0, x.1)
op_of kind.Modify end bytes = inside_at modify_request modify_of end bytes >>= λ x. Ok (ModifyOf x.0, x.1)
op_of kind.Add end bytes = inside_at add_request add_of end bytes >>= λ x. Ok (AddOf x.0, x.1)
op_of kind.Delete end bytes = body_at delete_request end bytes >>= λ x. Ok (DeleteOf x.0, x.1)
op_of kind.Rename end bytes = inside_at rename_request rename_of end bytes >>= λ x. Ok (RenameOf x.0, x.1)
op_of kind.Compare end bytes = inside_at compare_request compare_of end bytes >>= λ x. Ok (CompareOf x.0, x.1)
op_of kind.Abandon end bytes = body_at abandon_request end bytes >>= λ x. Ok (Abandon, x.1)
op_of kind.Extended end bytes = body_at extended_request end bytes >>= λ x. Ok (Extended, x.1)

unfoldable pub op_at : ℕ → List ℕ → Reading OpValue LdapFault
op_at end bytes = do
  which ← op_kind_at end bytes
  op_of which end bytes
