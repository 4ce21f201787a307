use Rattle.std.proofs.Common.{Option, sym, subst}
use Rattle.std.specs.Option.{option_map}
use Rattle.ad_dir_table.specs.declared.name_key.NameKey.{NameKey}
use Rattle.ad_dir_table.specs.NameKeys.{key_name, name_at}
use Rattle.ad_dir_table.specs.KeyChanges.{Removes}
use Rattle.ad_dir_table.proofs.MapLaws.{name_taken}
use Rattle.ad_dir_table.proofs.by_name.take_name.Goals as goal

pub returns-in-Some : goal.returns-in-Some
returns-in-Some c =
    subst (λ (from : Option NameKey). Removes (option_map key_name from) (name_at c.args.names.now.entries)
    (name_at c.swap_remove-was.new.self.entries)) (sym c.in-Some.is)
    (name_taken (key_name c.in-Some.key) c.args.names.now.entries c.swap_remove-was.new.self.entries
    c.swap_remove-was.ensures.updates.1 c.swap_remove-was.ensures.updates.3)
