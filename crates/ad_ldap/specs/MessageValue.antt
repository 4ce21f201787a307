-- A message as a value: the code's message, whose filter is seen by its value.
use Rattle.std.specs.Prelude.{ℕ, Bool, List}
use Rattle.ad_ldap.specs.FilterValue.{FilterValue, filter_seen}
use Rattle.ad_ldap.specs.declared.controls.Control.{Control}
use Rattle.ad_ldap.specs.declared.requests.Search.{Search}
use Rattle.ad_ldap.specs.declared.requests.Modify.{Modify}
use Rattle.ad_ldap.specs.declared.requests.Add.{Add}
use Rattle.ad_ldap.specs.declared.requests.Rename.{Rename}
use Rattle.ad_ldap.specs.declared.requests.Compare.{Compare}
use Rattle.ad_ldap.specs.declared.requests.Op.{Op}
use Rattle.ad_ldap.specs.declared.requests.Op.TheVariants as code
use Rattle.ad_ldap.specs.declared.requests.Message.{Message}

pub record SearchValue : Type 0 where
  pub base : List ℕ
  pub scope : ℕ
  pub size : ℕ
  pub types_only : Bool
  pub filter : FilterValue
  pub attrs : List (List ℕ)

pub data OpValue : Type 0 where
  Bind : OpValue
  Unbind : OpValue
  SearchOf : SearchValue → OpValue
  ModifyOf : Modify → OpValue
  AddOf : Add → OpValue
  DeleteOf : List ℕ → OpValue
  RenameOf : Rename → OpValue
  CompareOf : Compare → OpValue
  Abandon : OpValue
  Extended : OpValue

pub record MessageValue : Type 0 where
  pub id : ℕ
  pub op : OpValue
  pub controls : List Control

abbrev pub search_seen : Search → SearchValue
search_seen s = record {
  base = s.base;
  scope = s.scope;
  size = s.size;
  types_only = s.types_only;
  filter
      = filter_seen s.filter;
  attrs = s.attrs;
}

abbrev pub op_seen : Op → OpValue
op_seen code.Bind = Bind
op_seen code.Unbind = Unbind
op_seen (code.Search s) = SearchOf (search_seen s)
op_seen (code.Modify m) = ModifyOf m
op_seen (code.Add a) = AddOf a
op_seen (code.Delete dn) = DeleteOf dn
op_seen (code.Rename r) = RenameOf r
op_seen (code.Compare c) = CompareOf c
op_seen code.Abandon = Abandon
op_seen code.Extended = Extended

abbrev pub message_seen : Message → MessageValue
message_seen m = record { id = m.id; op = op_seen m.op; controls = m.controls }
