-- Which bytes encode a request (RFC 4511 4.2 to 4.12), after the message's number.
use Rattle.std.specs.Prelude.{◌≡◌, ℕ, not, List, []}
use Rattle.ad_bytes.specs.Reading.{StartsWith, SpellsEach}
use Rattle.ad_ldap.specs.declared.items.Item.{Item}
use Rattle.ad_ldap.specs.declared.requests.Modify.{Modify}
use Rattle.ad_ldap.specs.declared.requests.Add.{Add}
use Rattle.ad_ldap.specs.declared.requests.Rename.{Rename}
use Rattle.ad_ldap.specs.declared.requests.Compare.{Compare}
use Rattle.ad_ldap.specs.Limits.{most_levels, most_int}
use Rattle.ad_ldap.specs.MessageValue.{SearchValue, OpValue, Bind, Unbind, SearchOf, ModifyOf, AddOf, DeleteOf}
use Rattle.ad_ldap.specs.MessageValue.{RenameOf, CompareOf, Abandon, Extended}
use Rattle.ad_ldap.specs.Elements.{IsEmpty, Tagged, SpellsOctets, SpellsNumber, SpellsBoolean, SpellsOption}
use Rattle.ad_ldap.specs.Elements.{SpellsValues}
use Rattle.ad_ldap.specs.Filters.{Joined, SpellsAssertion, SpellsWithin}
use Rattle.ad_ldap.specs.Tags.{octet_string, enumerated, integer, boolean, sequence, set, new_superior, bind_request}
use Rattle.ad_ldap.specs.Tags.{unbind_request, search_request, modify_request, add_request, delete_request}
use Rattle.ad_ldap.specs.Tags.{rename_request, compare_request, abandon_request, extended_request}
use Rattle.ad_ldap.specs.Choices.{deref_always, whole_subtree, replace_values}

-- The base, the scope, how aliases are treated, the size limit, the time limit, whether values are left out, the
-- filter, and the attributes that are asked for. How aliases are treated and the time limit have no part in the
-- value.
pub record SpellsSearch (s : SearchValue) (text : List ℕ) : Type 0 where
  pub aliases : ℕ
  pub time : ℕ
  pub text_is : StartsWith (SpellsOctets octet_string) s.base
      (StartsWith (SpellsNumber enumerated whole_subtree) s.scope
      (StartsWith (SpellsNumber enumerated deref_always) aliases
      (StartsWith (SpellsNumber integer most_int) s.size
      (StartsWith (SpellsNumber integer most_int) time
      (StartsWith (SpellsBoolean boolean) s.types_only
      (StartsWith (SpellsWithin most_levels) s.filter
      (Joined (Tagged sequence (SpellsValues s.attrs)) IsEmpty))))))) text

-- an attribute's name and its values
abbrev pub SpellsAttribute : List ℕ → List (List ℕ) → List ℕ → Type 0
SpellsAttribute attr values text = StartsWith (SpellsOctets octet_string) attr
    (Joined (Tagged set (SpellsValues values)) IsEmpty) text

-- one change: how, and an attribute with values, of which there may be none
abbrev pub SpellsItem : Item → List ℕ → Type 0
SpellsItem item text = Tagged sequence (StartsWith (SpellsNumber enumerated replace_values) item.op
    (Joined (Tagged sequence (SpellsAttribute item.attr item.values)) IsEmpty)) text

abbrev pub SpellsModify : Modify → List ℕ → Type 0
SpellsModify m text = StartsWith (SpellsOctets octet_string) m.dn
    (Joined (Tagged sequence (SpellsEach SpellsItem m.items)) IsEmpty) text

-- an attribute of a new object has a value
abbrev pub SpellsNew : List ℕ × List (List ℕ) → List ℕ → Type 0
SpellsNew attr text = ¬ (attr.1 ≡ []) × Tagged sequence (SpellsAttribute attr.0 attr.1) text

abbrev pub SpellsAdd : Add → List ℕ → Type 0
SpellsAdd a text = StartsWith (SpellsOctets octet_string) a.dn
    (Joined (Tagged sequence (SpellsEach SpellsNew a.attrs)) IsEmpty) text

-- the name, the new first part, whether the old one is deleted, and the new parent, which may be left out
abbrev pub SpellsRename : Rename → List ℕ → Type 0
SpellsRename r text = StartsWith (SpellsOctets octet_string) r.dn (StartsWith (SpellsOctets octet_string) r.rdn
    (StartsWith (SpellsBoolean boolean) (not r.keep) (SpellsOption new_superior r.superior))) text

abbrev pub SpellsCompare : Compare → List ℕ → Type 0
SpellsCompare c text = StartsWith (SpellsOctets octet_string) c.dn
    (Joined (Tagged sequence (SpellsAssertion c.attr c.value)) IsEmpty) text

-- anything
abbrev pub IsAny : List ℕ → Type 0
IsAny text = Unit {0}

-- Each request is an element, whose tag says which it is. Of some the body isn't looked at.
abbrev pub SpellsOp : OpValue → List ℕ → Type 0
SpellsOp Bind text = Tagged bind_request IsAny text
SpellsOp Unbind text = Tagged unbind_request IsAny text
SpellsOp (SearchOf s) text = Tagged search_request (SpellsSearch s) text
SpellsOp (ModifyOf m) text = Tagged modify_request (SpellsModify m) text
SpellsOp (AddOf a) text = Tagged add_request (SpellsAdd a) text
SpellsOp (DeleteOf dn) text = SpellsOctets delete_request dn text
SpellsOp (RenameOf r) text = Tagged rename_request (SpellsRename r) text
SpellsOp (CompareOf c) text = Tagged compare_request (SpellsCompare c) text
SpellsOp Abandon text = Tagged abandon_request IsAny text
SpellsOp Extended text = Tagged extended_request IsAny text
