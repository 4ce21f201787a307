use Rattle.ad_dir_table.proofs.MapLaws.{name_put}
use Rattle.ad_dir_table.proofs.by_name.put_name.Goals as goal

pub returns-in-Ok : goal.returns-in-Ok
returns-in-Ok c = name_put c.args.to c.in-Some.key c.args.number c.args.names.now.entries c.insert.new.self.entries
    c.in-Some.is c.in-Ok.ensures.updates.1 c.in-Ok.ensures.updates.3
