use Rattle.std.proofs.Common.{[], ◌∷◌}
use Rattle.ad_dir_links.proofs.Counting.{drops_forgets}
use Rattle.ad_dir_links.proofs.holders.forget_name.Goals as goal

pub returns-in-Ok : goal.returns-in-Ok
returns-in-Ok c = drops_forgets c.args.holder (c.in-Ok.number ∷ []) c.args.links.now.entries
    c.drop_one.new.links.entries c.drop_one.ensures
