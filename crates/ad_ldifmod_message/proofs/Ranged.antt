-- What a change record asks can be written.
use Rattle.std.proofs.Common.{◌≡◌, ℕ, ◌<◌, ◌≤◌, Bool, true, false, if◌then◌else◌, List, [], ◌∷◌, ◌++◌, map, arith}
use Rattle.std.specs.List.{AllByRecursion}
use Rattle.ad_schema_classes.specs.Names.{same_name}
use Rattle.ad_ldif.specs.declared.change.LdifItem.{LdifItem}
use Rattle.ad_ldif.specs.Records.{Field}
use Rattle.ad_ldif.specs.Change.{Op, Adds, Deletes, Renames, Modifies, Change}
use Rattle.ad_ldif.specs.Ranges.{HasOps, HasItemOps}
use Rattle.ad_ldap.specs.Limits.{most_int}
use Rattle.ad_ldap.specs.Ranges.{HasOpRanges, HasRanges}
use Rattle.ad_ldifmod_message.specs.Asked.{Attribute, and_line, grouped_behind, grouped, item_asked, op_asked}
use Rattle.ad_ldifmod_message.specs.Asked.{message_asked}
use Rattle.ad_ldifmod_message.specs.Written.{IsChange, IsWritable}

-- each attribute has a value
abbrev HaveValues : List Attribute → Type 0
HaveValues attrs = AllByRecursion (λ attr. attr.1 ≡ [] → ⊥) attrs

not_empty : (front : List (List ℕ)) (v : List ℕ) → front ++ v ∷ [] ≡ [] → ⊥
not_empty [] v e = absurd cc
not_empty (w ∷ front) v e = absurd cc

by_test : (test : Bool) (a b : List Attribute) → HaveValues a → HaveValues b → HaveValues (if test then a else b)
by_test true a b p q = p
by_test false a b p q = q

and_line_has : (attrs : List Attribute) (f : Field) → HaveValues attrs → HaveValues (and_line attrs f)
unfolding and_line
and_line_has [] f h = (not_empty [] f.value, tt)
and_line_has (a ∷ attrs) f h = by_test (same_name a.0 f.name) ((a.0, a.1 ++ f.value ∷ []) ∷ attrs)
    (a ∷ and_line attrs f) (not_empty a.1 f.value, h.1) (h.0, and_line_has attrs f h.1)

behind_has : (front : List Attribute) (fs : List Field) → HaveValues front → HaveValues (grouped_behind front fs)
unfolding grouped_behind
behind_has front [] h = h
behind_has front (f ∷ fs) h = behind_has (and_line front f) fs (and_line_has front f h)

items_in : (items : List LdifItem) → AllByRecursion (λ item. item.op ≤ 2) items → AllByRecursion (λ item. item.op ≤ 2)
    (map item_asked items)
items_in [] h = tt
items_in (i ∷ items) h = (h.0, items_in items h.1)

op_ranges : (dn : List ℕ) (op : Op) → HasOps op → HasOpRanges (op_asked dn op)
op_ranges dn (Adds fields) h = behind_has [] fields tt
op_ranges dn Deletes h = tt
op_ranges dn (Renames rdn delete_old superior) h = tt
op_ranges dn (Modifies items) h = items_in items h

is_change : (dn : List ℕ) (op : Op) → IsChange (op_asked dn op)
is_change dn (Adds fields) = tt
is_change dn Deletes = tt
is_change dn (Renames rdn delete_old superior) = tt
is_change dn (Modifies items) = tt

pub asked_writable : (c : Change) (id : ℕ) → HasItemOps c → 0 < id → id < 2147483648 → IsWritable (message_asked c id)
unfolding message_asked most_int
asked_writable c id ops some most = record {
  ranges = (some, omega (arith, most), op_ranges c.dn c.op ops);
  change
      = is_change c.dn c.op;
}
