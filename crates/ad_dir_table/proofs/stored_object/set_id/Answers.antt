use Rattle.std.proofs.Common.{◌≡◌, ◌∙◌, Option, Some, sym, subst, ap}
use Rattle.std.specs.Prelude.{MatchOption}
use Rattle.std.specs.Map.{lookup, set_value}
use Rattle.std.specs.BTreeMap.{insert_entry, is_at}
use Rattle.std.specs.Ordering.{nat_cmp}
use Rattle.ad_dir_table.specs.declared.stored_object.StoredObject.{StoredObject}
use Rattle.ad_dir_table.specs.Fields.{with_id}
use Rattle.ad_dir_table.proofs.Keeping.{set_inserted}
use Rattle.ad_dir_table.proofs.stored_object.set_id.Goals as goal

pub returns-in-Some-clause-entries : goal.returns-in-Some-clause-entries
returns-in-Some-clause-entries c =
    let old = c.args.objects.now.entries in
    let new = (c.get_mut.follows.lender c.set_id.new.self).entries in
    let at : lookup (is_at (nat_cmp c.args.number)) old ≡ Some c.in-Some.shelf.now = sym c.in-Some.ensures.value in
    let written : new ≡ set_value (is_at (nat_cmp c.args.number)) old c.set_id.new.self
    = (c.get_mut.follows.holds c.set_id.new.self).0 in
    subst (λ (f : Option StoredObject). MatchOption f (new ≡ old)
    (λ (k : StoredObject). new ≡ insert_entry nat_cmp old c.args.number (with_id c.args.id k))) (sym at)
    (written
    ∙ set_inserted c.args.number c.set_id.new.self c.in-Some.shelf.now old c.in-Some.ensures.ordered at
    ∙ ap (insert_entry nat_cmp old c.args.number) c.set_id.ensures.new)
