use Rattle.std.proofs.Common.{ℕ, List, Some, ◌∙◌, subst}
use Rattle.ad_dn.specs.Fold.{folded}
use Rattle.ad_dir_table.specs.NameKeys.{ChildName, name_at}
use Rattle.ad_dir_table.specs.KeyChanges.{Removes}
use Rattle.ad_dir_table.proofs.MapLaws.{name_taken}
use Rattle.ad_dir_table.proofs.by_name.take_name_of.Goals as goal

pub returns : goal.returns
returns c = λ sd.
    let named : List ℕ → ChildName = λ (name : List ℕ). record
    { parent = c.args.object.now.parent; folded = folded name } in
    subst (λ (name : List ℕ). Removes (Some (named name)) (name_at c.args.names.now.entries)
    (name_at c.swap_remove-was.new.self.entries)) (c.in-Ok.ensures.cases.0 ∙ c.as_slice.ensures)
    (name_taken (named c.in-Ok.name.now) c.args.names.now.entries c.swap_remove-was.new.self.entries
    c.swap_remove-was.ensures.updates.1 c.swap_remove-was.ensures.updates.3)
