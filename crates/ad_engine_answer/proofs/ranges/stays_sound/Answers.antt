use Rattle.std.proofs.Common.{◌≡◌, ℕ, List, subst}
use Rattle.std.specs.List.{AllByRecursion}
use Rattle.ad_bytes.specs.Reading.{IsBytes}
use Rattle.ad_ldap.specs.declared.items.Item.{Item}
use Rattle.ad_ldap.specs.declared.requests.Op.{Op}
use Rattle.ad_ldap.specs.MessageValue.{op_seen}
use Rattle.ad_change.specs.Effects.{changes_to, effect}
use Rattle.ad_engine_answer.proofs.ranges.stays_sound.Goals as goal

pub returns-in-Modify : goal.returns-in-Modify
returns-in-Modify c = λ token s after change e.
    c.a_modify_keeps_a_directory_sound.ensures c.args.dir.now after token c.in-Modify.modify s c.requires
    (subst (λ (items : List Item). AllByRecursion (λ (item : Item). AllByRecursion IsBytes item.values) items)
    c.as_slice.ensures c.items_are_bytes.ensures)
    (subst (λ (op : Op). effect c.args.dir.now token (op_seen op) s ≡ changes_to after) c.in-Modify.is e)

pub returns-in-Add : goal.returns-in-Add
returns-in-Add c = λ token s after change e.
    c.an_add_keeps_a_directory_sound.ensures c.args.dir.now after token c.in-Add.add s c.requires
    c.domain_has_form.ensures
    (subst (λ (attrs : List (List ℕ × List (List ℕ))). AllByRecursion
    (λ (attr : List ℕ × List (List ℕ)). AllByRecursion IsBytes attr.1) attrs)
    c.as_slice-in-Add.ensures c.attrs_are_bytes.ensures)
    (subst (λ (op : Op). effect c.args.dir.now token (op_seen op) s ≡ changes_to after) c.in-Add.is e)

pub returns-in-Delete : goal.returns-in-Delete
returns-in-Delete c = λ token s after change e.
    c.a_delete_keeps_a_directory_sound.ensures c.args.dir.now after token c.in-Delete.field-0 s c.requires
    (subst (λ (op : Op). effect c.args.dir.now token (op_seen op) s ≡ changes_to after) c.in-Delete.is e)

pub returns-in-Rename : goal.returns-in-Rename
returns-in-Rename c = λ token s after change e.
    c.a_rename_keeps_a_directory_sound.ensures c.args.dir.now after token c.in-Rename.field-0 s c.requires
    (subst (λ (op : Op). effect c.args.dir.now token (op_seen op) s ≡ changes_to after) c.in-Rename.is e)
